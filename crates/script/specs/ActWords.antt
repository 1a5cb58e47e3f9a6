use Rattle.std.specs.Prelude.{ℕ, ◌+◌, ◌-◌, ◌/◌, ◌&&◌, ◌||◌, Bool, false, List, [], ◌∷◌, ◌++◌, length, slice_index, slice_set, replicate, drop, codes, Option, Some, None, nat_le, nat_lt, ◌==◌, if◌then◌else◌}
use Rattle.std.specs.Str.{bytes_eq}
use Rattle.nvm_model.specs.declared.script.Act.{Act}
use Rattle.nvm_model.specs.declared.script.Act.TheVariants.{Fill, Poke, List as PrpList, Submit, Raw, Wait, Idle}
use Rattle.nvm_model.specs.declared.script.Head.{Head}
use Rattle.nvm_model.specs.World.{set_of}
use Rattle.script.specs.declared.form.Piece.TheVariants.{Numeral, Page, Command, Hex, Maybe}
use Rattle.script.specs.Words.{◌>>=◌, next, last, number_in, ranged_in, page_in, option_in, bytes_in, op_in, is_numeral, is_row}

-- Acts, by the words of their lines.

-- ---- what stands behind an act's word

-- a fill: a page and a byte
unfoldable pub fill_in : ℕ → List (List ℕ) → Option Act
fill_in pages ws = do
  w ← next ws
  v ← last w.1
  page ← page_in pages w.0
  byte ← bytes_in 1 v
  Some (Fill page (slice_index byte 0))

-- a place in a page that leaves room for so many bytes
abbrev pub place_in : ℕ → List ℕ → Option ℕ
place_in used w = ranged_in 0 (4096 - used) w

-- a poke: a page, a place and from 1 to 32 bytes
unfoldable pub poke_in : ℕ → List (List ℕ) → Option Act
poke_in pages ws = do
  w ← next ws
  v ← next w.1
  digits ← last v.1
  let used = length digits / 2
  if nat_le 1 used && nat_le used 32 then (page_in pages w.0 >>= λ page. place_in used v.0 >>= λ at. bytes_in used digits >>= λ bytes. Some (Poke page at (bytes ++ drop used (replicate 32 0)) used)) else None

-- data pages of a lane that has so many, at most 8, put behind those that are found
unfoldable pub pages_on : ℕ → List ℕ → ℕ → List (List ℕ) → Option (List ℕ × ℕ)
pages_on pages found used [] = Some (found, used)
pages_on pages found used (w ∷ ws) = if nat_lt used 8 then (page_in pages w >>= λ p. pages_on pages (slice_set found used p) (used + 1) ws) else None

-- a list: a page and from 1 to 8 pages
unfoldable pub list_in : ℕ → List (List ℕ) → Option Act
list_in pages ws = do
  w ← next ws
  page ← page_in pages w.0
  named ← pages_on pages (replicate 8 0) 0 w.1
  if named.1 == 0 then None else Some (PrpList page named.0 named.1)

-- a command's words, one for each of its parts
pub record SubmitWords : Type 0 where
  pub cid : List ℕ
  pub op : List ℕ
  pub slba : List ℕ
  pub count : List ℕ
  pub p1 : List ℕ
  pub p2 : List ℕ

-- the words of a submit, where there are six
abbrev pub submit_words : List (List ℕ) → Option SubmitWords
submit_words ws = do
  a ← next ws
  b ← next a.1
  c ← next b.1
  d ← next c.1
  e ← next d.1
  f ← last e.1
  Some (record { cid = a.0; op = b.0; slba = c.0; count = d.0; p1 = e.0; p2 = f })

-- a submit by its words
abbrev pub submit_of : ℕ → SubmitWords → Option Act
submit_of pages w = do
  cid ← ranged_in 0 65535 w.cid
  op ← op_in w.op
  slba ← number_in w.slba
  count ← ranged_in 1 65536 w.count
  p1 ← option_in pages w.p1
  p2 ← option_in pages w.p2
  Some (Submit cid op slba count p1 p2)

-- a submit: identifier, command, first block, number of blocks, and two pages or none
unfoldable pub submit_in : ℕ → List (List ℕ) → Option Act
submit_in pages ws = submit_words ws >>= submit_of pages

-- a raw act: 64 bytes
unfoldable pub raw_in : List (List ℕ) → Option Act
raw_in ws = do
  w ← last ws
  entry ← bytes_in 64 w
  Some (Raw entry)

-- an act by its word alone
abbrev pub bare_in : List ℕ → Option (List ℕ × List (List ℕ)) → Option Act
bare_in kind None = if bytes_eq kind (codes "wait") then Some Wait else if bytes_eq kind (codes "idle") then Some Idle else None
bare_in kind (Some x) = None

-- an act by its word and those behind it
unfoldable pub act_in : ℕ → List ℕ → List (List ℕ) → Option Act
act_in pages kind ws =
    if bytes_eq kind (codes "fill") then fill_in pages ws
    else if bytes_eq kind (codes "poke") then poke_in pages ws
    else if bytes_eq kind (codes "list") then list_in pages ws
    else if bytes_eq kind (codes "submit") then submit_in pages ws
    else if bytes_eq kind (codes "raw") then raw_in ws
    else bare_in kind (next ws)

-- a lane and its act
unfoldable pub line_in : Head → List (List ℕ) → Option (ℕ × Act)
line_in head ws = do
  a ← next ws
  b ← next a.1
  lane ← ranged_in 1 head.lanes a.0
  act ← act_in (set_of head lane).pages b.0 b.1
  Some (lane, act)

-- ---- forms

-- the forms of the words behind an act's word, by that word
abbrev pub act_form : List ℕ → List (List ℕ) → Bool
act_form kind ws =
    if bytes_eq kind (codes "fill") then is_row (Numeral ∷ Hex 1 1 ∷ []) ws
    else if bytes_eq kind (codes "poke") then is_row (Numeral ∷ Numeral ∷ Hex 1 32 ∷ []) ws
    else if bytes_eq kind (codes "list") then is_row (Numeral ∷ Numeral ∷ Maybe ∷ Maybe ∷ Maybe ∷ Maybe ∷ Maybe ∷ Maybe ∷ Maybe ∷ []) ws
    else if bytes_eq kind (codes "submit") then is_row (Numeral ∷ Command ∷ Numeral ∷ Numeral ∷ Page ∷ Page ∷ []) ws
    else if bytes_eq kind (codes "raw") then is_row (Hex 64 64 ∷ []) ws
    else (bytes_eq kind (codes "wait") || bytes_eq kind (codes "idle")) && is_row [] ws

-- what stands behind the lane
abbrev pub kind_form : Option (List ℕ × List (List ℕ)) → Bool
kind_form None = false
kind_form (Some x) = act_form x.0 x.1

-- the forms of a lane's number and of what stands behind it
abbrev pub lane_form : Option (List ℕ × List (List ℕ)) → Bool
lane_form None = false
lane_form (Some x) = is_numeral x.0 && kind_form (next x.1)

-- a lane, an act's word, and what goes with it
abbrev pub is_act_form : List (List ℕ) → Bool
is_act_form ws = lane_form (next ws)
