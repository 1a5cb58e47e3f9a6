use Rattle.std.specs.Prelude.{◌≡◌, ℕ, ◌+◌, ◌*◌, ◌-◌, ◌<◌, ◌≤◌, ◌^◌, List, [], ◌∷◌, ◌++◌, Option, Some, None, All, length, take, drop, replicate, codes, decimal}
use Rattle.std.specs.List.{flat_map, AllByRecursion}
use Rattle.hex.specs.Hex.{encode_lower}
use Rattle.nvm_values.specs.declared.op.Op.{Op}
use Rattle.nvm_values.specs.declared.op.Op.TheVariants.{Flush, Write, Read, Compare, WriteZeroes, Verify}
use Rattle.nvm_model.specs.declared.script.Act.{Act}
use Rattle.nvm_model.specs.declared.script.Act.TheVariants.{Fill, Poke, List as PrpList, Submit, Raw, Wait, Idle}
use Rattle.nvm_model.specs.declared.script.Head.{Head}
use Rattle.nvm_model.specs.declared.script.LaneSet.{LaneSet}
use Rattle.nvm_model.specs.declared.script.Script.{Script}
use Rattle.nvm_model.specs.Text.{field, last_field}
use Rattle.nvm_model.specs.World.{set_of}

-- A script's text. Each script has one.

-- the line of lane k
abbrev pub lane_line : ℕ → LaneSet → List ℕ
lane_line k set = codes "lane " ++ field k ++ codes "sq " ++ field set.sq ++ codes "cq " ++ field set.cq ++ codes "pages " ++ last_field set.pages

-- the lines of the lanes, the first of them lane k
abbrev pub lane_lines : ℕ → List LaneSet → List ℕ
lane_lines k [] = []
lane_lines k (set ∷ sets) = lane_line k set ++ lane_lines (k + 1) sets

-- the line of a migration, where one is asked for
abbrev pub migrate_line : Option ℕ → List ℕ
migrate_line None = []
migrate_line (Some turn) = codes "migrate " ++ last_field turn

-- the lines of the head, in their order
abbrev pub head_text : Head → List ℕ
head_text h =
    codes "nvmigrate script 1\n"
    ++ (codes "blocks " ++ last_field h.blocks)
    ++ (codes "shelf " ++ last_field h.shelf)
    ++ (codes "lanes " ++ last_field h.lanes)
    ++ lane_lines 1 (take h.lanes h.sets)
    ++ (codes "burst " ++ last_field h.burst)
    ++ (codes "mix " ++ last_field h.mix)
    ++ (codes "change " ++ last_field h.change)
    ++ (codes "slice " ++ last_field h.slice)
    ++ (codes "small " ++ last_field h.small)
    ++ (codes "pages " ++ last_field h.pages)
    ++ (codes "patience " ++ last_field h.patience)
    ++ migrate_line h.migrate

-- the word of a command
abbrev pub op_word : Op → List ℕ
op_word Flush = codes "flush "
op_word Write = codes "write "
op_word Read = codes "read "
op_word Compare = codes "compare "
op_word WriteZeroes = codes "zeroes "
op_word Verify = codes "verify "

-- a data page, or none, which stands for address 0
abbrev pub page_word : Option ℕ → List ℕ
page_word None = codes "-"
page_word (Some page) = decimal page

-- what stands in an act's line after the lane's number and a space
abbrev pub act_text : Act → List ℕ
act_text (Fill page byte) = codes "fill " ++ field page ++ encode_lower (byte ∷ []) ++ codes "\n"
act_text (Poke page at bytes used) = codes "poke " ++ field page ++ field at ++ encode_lower (take used bytes) ++ codes "\n"
act_text (PrpList page named used) = codes "list " ++ decimal page ++ flat_map (λ p. 32 ∷ decimal p) (take used named) ++ codes "\n"
act_text (Submit cid op slba count p1 p2) = codes "submit " ++ field cid ++ op_word op ++ field slba ++ field count ++ page_word p1 ++ codes " " ++ page_word p2 ++ codes "\n"
act_text (Raw entry) = codes "raw " ++ encode_lower entry ++ codes "\n"
act_text Wait = codes "wait\n"
act_text Idle = codes "idle\n"

-- the line of an act, its lane first
abbrev pub act_line : ℕ × Act → List ℕ
act_line a = field a.0 ++ act_text a.1

-- the head, the acts, and the line `end`
abbrev pub script_text : Script → List ℕ
script_text s = head_text s.head ++ flat_map act_line s.acts ++ codes "end\n"

-- What the numbers of a script may be.

-- a lane's sizes are in their ranges
abbrev pub IsSet : LaneSet → Type 0
IsSet set = (2 ≤ set.sq) × (set.sq ≤ 64) × (2 ≤ set.cq) × (set.cq ≤ 256) × (1 ≤ set.pages) × (set.pages ≤ 256)

-- so is the turn before which a migration is asked for
abbrev pub IsTurn : Option ℕ → Type 0
IsTurn None = Unit {0}
IsTurn (Some turn) = (1 ≤ turn) × (turn ≤ 65535)

-- a head's numbers are in their ranges
pub record IsHead (h : Head) : Type 0 where
  pub blocks : (1 ≤ h.blocks) × (h.blocks ≤ 131072)
  pub shelf : (1 ≤ h.shelf) × (h.shelf ≤ 65536)
  -- the shelves, at most 64, are equally long
  pub shelves : (n : ℕ) × (n ≤ 64) × (h.blocks ≡ n * h.shelf)
  pub lanes : (1 ≤ h.lanes) × (h.lanes ≤ 8)
  pub sets : (length h.sets ≡ 8) × AllByRecursion IsSet (take h.lanes h.sets)
  -- the sets past the last lane are 0
  pub rest : drop h.lanes h.sets ≡ replicate (8 - h.lanes) (record { sq = 0; cq = 0; pages = 0 })
  pub burst : (1 ≤ h.burst) × (h.burst ≤ 64)
  pub mix : h.mix ≤ 4294967295
  pub change : (2 ≤ h.change) × (h.change ≤ 65536)
  pub slice : (1 ≤ h.slice) × (h.slice ≤ h.blocks)
  pub small : (h.slice ≤ h.small) × (h.small ≤ h.blocks)
  pub pages : (1 ≤ h.pages) × (h.pages ≤ 2064)
  pub patience : (1 ≤ h.patience) × (h.patience ≤ 65535)
  pub migrate : IsTurn h.migrate

-- a data page of a lane that has so many, or none
abbrev pub IsPage : ℕ → Option ℕ → Type 0
IsPage pages None = Unit {0}
IsPage pages (Some page) = page < pages

-- an act of a lane with so many data pages
abbrev pub IsAct : ℕ → Act → Type 0
IsAct pages (Fill page byte) = (page < pages) × (byte < 2 ^ 8)
IsAct pages (Poke page at bytes used) = (page < pages) × (at + used ≤ 4096) × (1 ≤ used) × (used ≤ 32) × All (λ byte. byte < 2 ^ 8) bytes × (bytes ≡ take used bytes ++ replicate (32 - used) 0) × (length bytes ≡ 32)
IsAct pages (PrpList page named used) = (page < pages) × (1 ≤ used) × (used ≤ 8) × All (λ p. p < pages) (take used named) × (named ≡ take used named ++ replicate (8 - used) 0) × (length named ≡ 8)
IsAct pages (Submit cid op slba count p1 p2) = (cid < 2 ^ 16) × (slba < 2 ^ 64) × (1 ≤ count) × (count ≤ 65536) × IsPage pages p1 × IsPage pages p2
IsAct pages (Raw entry) = (length entry ≡ 64) × All (λ byte. byte < 2 ^ 8) entry
IsAct pages Wait = Unit {0}
IsAct pages Idle = Unit {0}

-- the lane is there, and its act is in its ranges
abbrev pub IsActLine : Head → ℕ × Act → Type 0
IsActLine h a = (1 ≤ a.0) × (a.0 ≤ h.lanes) × IsAct (set_of h a.0).pages a.1

-- head and acts are in range, and there are at most 65,536 acts
pub record IsScript (s : Script) : Type 0 where
  pub head : IsHead s.head
  pub acts : AllByRecursion (IsActLine s.head) s.acts
  pub few : length s.acts ≤ 65536
