use Rattle.std.proofs.Common.{subst, sym, ap, arith}
use Rattle.nvm_model.specs.declared.piece.ShelfEntry.{ShelfEntry}
use Rattle.nvm_blocks.proofs.NamespaceLaws.{applied_enters, called_same, entered_last, entered_some, same_count}
use Rattle.session.specs.Seats.{IsForPlace}
use Rattle.session.proofs.SeatLemmas.{piece_done}
use Rattle.session.proofs.place.Place.piece.Goals as goal

pub last_entry_at-requires-clause-there : goal.last_entry_at-requires-clause-there
last_entry_at-requires-clause-there g c =
    let is = subst (IsForPlace c.args.piece.now) (sym c.self.view_is) c.requires in
    omega (arith, is.fits.some, is.fits.within, same_count (called_same c.serve_serial.ensures.applied.called))

pub last_entry_at-requires-clause-some : goal.last_entry_at-requires-clause-some
last_entry_at-requires-clause-some g c =
    let is = subst (IsForPlace c.args.piece.now) (sym c.self.view_is) c.requires in
    entered_some (applied_enters c.serve_serial.ensures.applied c.serve_serial.ensures.entry) is.room

pub returns-clause-done : goal.returns-clause-done
returns-clause-done g c =
    let is = subst (IsForPlace c.args.piece.now) (sym c.self.view_is) c.requires in
    let did = c.serve_serial.ensures in
    let same = ap (λ (e : ShelfEntry). e.result) (entered_last c.last_entry_at.result (applied_enters did.applied did.entry) is.room c.last_entry_at.ensures) in
    rw (← c.self.view_is, same)
    (piece_done c.window_mut-window.result.now c.serve_serial.new.w c.window_mut-window.ensures.value (omega (arith, is.lane.0, is.lane.1)) did.applied did.window did.noted)

pub returns-clause-entered : goal.returns-clause-entered
returns-clause-entered g c =
    let is = subst (IsForPlace c.args.piece.now) (sym c.self.view_is) c.requires in
    let entered = applied_enters c.serve_serial.ensures.applied c.serve_serial.ensures.entry in
    let same = ap (λ (e : ShelfEntry). e.result) (entered_last c.last_entry_at.result entered is.room c.last_entry_at.ensures) in
    rw (← c.self.view_is, same) entered
