use Rattle.std.proofs.Common.{◌≡◌, subst, sym, true}
use Rattle.data_queue.specs.Log.{QueueState}
use Rattle.data_queue.proofs.LogLemmas.{has_passed}
use Rattle.data_queue.proofs.queue.DataQueue.set_head.Goals as goal

pub invariant_of-self : goal.invariant_of-self
invariant_of-self c =
    let cells = c.deref.ensures.value in
    let live = subst (λ (q : QueueState). q.live ≡ true) (sym c.self.view_is) c.requires.live in
    rw (← cells) (
      c.set_head.ensures.sound,
      λ _. has_passed _ c.args.value _ _ c.set_head.result c.set_head.ensures.refused c.set_head.ensures.taken (rw cells (c.self.invariant.1 live)),
    )
