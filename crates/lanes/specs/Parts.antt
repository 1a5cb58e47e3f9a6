use Rattle.std.specs.Prelude.{◌≡◌, length}
use Rattle.nvm_model.specs.Memory.{page_at}
use Rattle.guest_ram.specs.Window.{WindowState}

-- What an act writes into data pages does to the window: it differs in data pages alone.
pub record IsSameButData (old new : WindowState) : Type 0 where
  pub lane : new.lane ≡ old.lane
  pub size : length new.pages ≡ length old.pages
  pub sq : page_at new.pages 0 ≡ page_at old.pages 0
  pub cq : page_at new.pages 1 ≡ page_at old.pages 1
