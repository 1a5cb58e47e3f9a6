use Rattle.std.specs.Prelude.{ℕ, ◌-◌, ◌≤◌, ◌==◌, List, ◌++◌, Option, Some, None, Result, Ok, Err, if◌then◌else◌, length, map, replicate, take}
use Rattle.ctl_state.specs.declared.image.Image.{Image}
use Rattle.ctl_state.specs.declared.image.PairState.{PairState}
use Rattle.ctl_state.specs.declared.parts.PartRefusal.{PartRefusal}
use Rattle.ctl_state.specs.declared.parts.PartRefusal.TheVariants.{BadSequence, TooLong, BadImage}
use Rattle.ctl_state.specs.Image.{none}
use Rattle.ctl_state.specs.Parts.{Begins, PartsState, image_size}
use Rattle.nvmigrate_c.specs.declared.parts.Pair.{Pair}
use Rattle.nvmigrate_c.specs.declared.parts.Parts.{Parts}
use Rattle.nvmigrate_c.specs.Rings.{IsCq, IsSq, cq_in, sq_in}

-- What C's structs of a controller's state say.

abbrev pub parts_in : Parts → PartsState
parts_in p = record { lanes = p.lanes; bytes = take p.fed p.bytes }

-- parts of an image of from 1 to 8 queue pairs, which begin one
pub record IsParts (p : Parts) : Type 0 where
  pub some : 1 ≤ p.lanes
  pub few : p.lanes ≤ 8
  pub fed : p.fed ≤ image_size p.lanes
  pub begin : Begins p.lanes (take p.fed p.bytes)

abbrev pub pair_in : Pair → PairState
pair_in p = record { sq = sq_in p.sq; cq = (cq_in p.cq).ring; phase = p.cq.phase == 1 }

-- both ends are rings
pub record HasRings (p : Pair) : Type 0 where
  pub sq : IsSq p.sq
  pub cq : IsCq p.cq

-- its phase tag is 0 or 1
abbrev pub HasFlag : Pair → Type 0
HasFlag p = p.cq.phase ≤ 1

-- the state of so many pairs, which stand first among those
abbrev pub state_of : ℕ → List Pair → Image
state_of used pairs = record { pairs = map pair_in pairs; used = used }

-- the state of these pairs
abbrev pub image_in : List Pair → Image
image_in pairs = record { pairs = map pair_in pairs ++ replicate (8 - length pairs) none; used = length pairs }

-- What a code tells of a part that was fed. Another code is no answer.
abbrev pub feed_told : ℕ → ℕ → Option (Result (Unit {0}) PartRefusal)
feed_told code place =
    if code == 0 then Some (Ok tt) else (
    if code == 8 then Some (Err BadSequence) else (
    if code == 9 then Some (Err TooLong) else (
    if code == 10 then Some (Err (BadImage place)) else None)))
