use Rattle.std.specs.Prelude.{◌≡◌, List, map, take}
use Rattle.nvm_model.specs.declared.script.Head.{Head}
use Rattle.nvm_model.specs.declared.script.LaneSet.{LaneSet}
use Rattle.guest_ram.specs.Ram.{windows_made}
use Rattle.guest_ram.specs.Window.{WindowState}
use Rattle.nvm_blocks.specs.Namespace.{media_of}
use Rattle.ctl_state.specs.declared.phase.Phase.{Phase}
use Rattle.controller.specs.Pair.{IsMade}
use Rattle.nvm_model.specs.Run.{SinkState, start_of}
use Rattle.nvm_model.specs.Told.{serial}
use Rattle.session.specs.Place.{IsReady, IsWaiting, PlaceState}
use Rattle.session.specs.Shelves.{IsNamespaceOf}
use Rattle.session.specs.Sides.{SessionState, StandsAs, machine_of, sides}

-- Places as they are opened for a script.

-- the memory of the lanes' guests as it is made, zeroed
abbrev pub memory_made : Head → List WindowState
memory_made head = windows_made 1 (map (λ (set : LaneSet). set.pages) (take head.lanes head.sets))

-- a place over these media, on which nothing was done, with a controller in that phase
pub record IsNewPlace {M : Type 0} (phase : Phase) (head : Head) (media : List M) (place : PlaceState M) : Type 0 where
  pub namespace : IsNamespaceOf head place.namespace
  pub media_are : media_of place.namespace ≡ media
  pub windows : place.windows ≡ memory_made head
  pub controller : IsMade phase (take head.lanes head.sets) head.change head.burst place.controller

-- a session on a place that can begin, another place that waits, and the run that they stand for
pub record Opens {M : Type 0} (session : SessionState) (from_media to_media : List M) (from to : PlaceState M) : Type 0 where
  pub ready : IsReady session.script (machine_of session from)
  pub waits : IsWaiting session.script to
  pub stands : (out : SinkState) → StandsAs (sides session from to out) (start_of (serial session.script) from_media to_media out)
