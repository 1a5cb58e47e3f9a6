use Rattle.std.specs.Prelude.{ℕ, ◌+◌, ◌/◌, List, [], ◌∷◌, ◌++◌, length, take, codes}
use Rattle.std.specs.Int.{w32, to_be_bytes}
use Rattle.hex.specs.Hex.{encode_lower}
use Rattle.sha2.specs.Sha256.{sha256}
use Rattle.nvm_identify.specs.Controller.{controller_bytes, own}
use Rattle.nvm_identify.specs.Namespace.{namespace_bytes, own_of}
use Rattle.nvm_model.specs.declared.script.Act.{Act}
use Rattle.nvm_model.specs.declared.script.Head.{Head}
use Rattle.nvm_model.specs.declared.script.LaneSet.{LaneSet}
use Rattle.nvm_model.specs.declared.script.Script.{Script}
use Rattle.nvm_model.specs.Memory.{window_address}
use Rattle.nvm_model.specs.Text.{field, last_field}
use Rattle.nvm_model.specs.World.{acts_of}

-- What a script asks for, and the Identify data that its guest sees, as text: the sizes of controller, namespace and
-- shelves, a line for each lane, and two digests.

-- the controller's two lines
abbrev pub controller_text : List ℕ
controller_text = codes "controller nvmigrate virtual controller\n" ++ codes "mdts 3\n"

-- the namespace's line
abbrev pub namespace_line : ℕ → List ℕ
namespace_line blocks = codes "namespace 1 blocks " ++ field blocks ++ codes "bytes 512\n"

-- how many shelves there are, and the blocks of each
abbrev pub shelves_line : Head → List ℕ
shelves_line h = codes "shelves " ++ field (h.blocks / h.shelf) ++ codes "of " ++ last_field h.shelf

-- the lines of the namespace and of its shelves
abbrev pub namespace_text : Head → List ℕ
namespace_text h = namespace_line h.blocks ++ shelves_line h

-- an address as eight hexadecimal digits, most significant first
abbrev pub address_text : ℕ → List ℕ
address_text address = encode_lower (to_be_bytes w32 address)

-- a lane: its queues, its data pages, the address of its window, and how many acts it has
abbrev pub lane_line : ℕ → LaneSet → ℕ → List ℕ
lane_line k set acts =
    codes "lane " ++ field k ++ codes "sq " ++ field set.sq ++ codes "cq " ++ field set.cq ++ codes "pages " ++ field set.pages
    ++ codes "window " ++ address_text (window_address k) ++ codes " acts " ++ last_field acts

-- the lines of the lanes of these acts, the first of them lane k
abbrev pub lane_lines : List (ℕ × Act) → ℕ → List LaneSet → List ℕ
lane_lines acts k [] = []
lane_lines acts k (set ∷ sets) = lane_line k set (length (acts_of k acts)) ++ lane_lines acts (k + 1) sets

-- the SHA-256 of Identify data
abbrev pub digest_line : List ℕ → List ℕ → List ℕ
digest_line name bytes = codes "identify " ++ name ++ codes " " ++ encode_lower (sha256 bytes) ++ codes "\n"

-- the digests of the product's own Identify data: of its controller, and of its namespace of so many blocks
abbrev pub digests_text : ℕ → List ℕ
digests_text blocks = digest_line (codes "controller") (controller_bytes own) ++ digest_line (codes "namespace") (namespace_bytes (own_of blocks))

-- all of it, in its order
abbrev pub show_text : Script → List ℕ
show_text s = controller_text ++ namespace_text s.head ++ lane_lines s.acts 1 (take s.head.lanes s.head.sets) ++ digests_text s.head.blocks
