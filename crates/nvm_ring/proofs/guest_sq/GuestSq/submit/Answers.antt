use Rattle.std.proofs.Common.{◌*◌, length, sym, ap, ◌∙◌}
use Rattle.nvm_model.specs.Memory.{written}
use Rattle.nvm_values.proofs.SqeLemmas.{length-sqe_bytes}
use Rattle.nvm_ring.proofs.RingLemmas.{submitted-newest}
use Rattle.nvm_ring.proofs.guest_sq.GuestSq.submit.Goals as goal

pub returns-clause-newest : goal.returns-clause-newest
returns-clause-newest c = λ ring entries size tail h room.
    let wrote = c.write_cell.ensures ∙ ap (λ n. written c.args.page.now (64 * n) c.to_bytes-bytes.result) c.from.ensures in
    let full = ap length c.to_bytes-bytes.ensures.bytes ∙ length-sqe_bytes _ in
    submitted-newest _ c.self.inside.ring _ _ _ _ ring entries (sym c.self.view_is) c.self.invariant.at_most c.told-page full c.to_bytes-bytes.ensures.back wrote size tail h room
