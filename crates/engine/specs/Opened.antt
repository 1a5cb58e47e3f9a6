use Rattle.std.specs.Prelude.{List}
use Rattle.nvm_model.specs.declared.script.Head.{Head}
use Rattle.nvm_model.specs.declared.run.Side.{Side}
use Rattle.nvm_model.specs.declared.run.Side.TheVariants.{Source, Destination}
use Rattle.nvm_model.specs.Medium.{HaveSize, MediumState}
use Rattle.ctl_state.specs.declared.phase.Phase.{Phase}
use Rattle.ctl_state.specs.declared.phase.Phase.TheVariants.{Loading, Running}
use Rattle.session.specs.Opened.{IsNewPlace}
use Rattle.session.specs.Place.{PlaceState}

-- the source's controller runs, and the destination's waits for a state
abbrev pub phase_at : Side → Phase
phase_at Source = Running
phase_at Destination = Loading

-- a host's media stand in a new place of a side for a script with this head, each of the size of a shelf
pub record IsOpened {M I : Type 0} (state : M → MediumState I) (side : Side) (head : Head) (media : List M) (place : PlaceState M) : Type 0 where
  pub opened : IsNewPlace (phase_at side) head media place
  pub sizes : HaveSize state head.shelf media
