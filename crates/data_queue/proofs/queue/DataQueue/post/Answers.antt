use Rattle.std.proofs.Common.{◌≡◌, ◌∙◌, ◌++◌, ap, arith, drop, length, subst, sym, take, true}
use Rattle.std.proofs.Math.Seq.{take-append_seam}
use Rattle.data_queue.specs.Log.{QueueState}
use Rattle.data_queue.proofs.LogLemmas.{has_posted}
use Rattle.data_queue.proofs.queue.DataQueue.post.Goals as goal

pub invariant_of-self : goal.invariant_of-self
invariant_of-self c =
    let new = c.post.new.cells in
    let rest = drop (length new) c.self.inside.cells.items in
    let size : c.self.inside.cells.len ≡ length new = omega (arith, c.post.ensures.posted.cells, c.deref_mut.ensures.len) in
    let whole : take c.self.inside.cells.len (new ++ rest) ≡ new = ap (λ n. take n (new ++ rest)) size ∙ take-append_seam new rest in
    let live = subst (λ (q : QueueState). q.live ≡ true) (sym c.self.view_is) c.requires.live in
    rw whole (c.post.ensures.sound, λ _. has_posted c.post.ensures.posted (rw c.deref_mut.ensures.value (c.self.invariant.1 live)))
