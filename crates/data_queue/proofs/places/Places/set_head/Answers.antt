use Rattle.std.proofs.Common.{◌≡◌, ◌∙◌, ◌+◌, ◌-◌, ◌%◌, ap, arith, length, refl, sym}
use Rattle.nvm_model.specs.Ring.{places_between}
use Rattle.nvm_model.proofs.PlaceLemmas.{tail-from_count}
use Rattle.data_queue.proofs.LogLemmas.{agree_less, log_less}
use Rattle.data_queue.proofs.places.Places.set_head.Goals as goal

pub returns-clause-taken : goal.returns-clause-taken
returns-clause-taken c =
    let n = length c.args.cells.now in
    let old = c.args.self.now in
    let k = places_between n old.head c.args.value in
    let left : (old.waiting - c.between-2.result) + k ≡ old.waiting = omega (arith, c.between.ensures, c.between-2.ensures, c.if-between-self.false) in
    record {
      waiting = left;
      others = refl;
      log = λ posted taken log. log_less _ _ posted taken k refl refl refl left
          (sym (tail-from_count n old.head c.args.value c.requires.places.head (omega (arith, c.if-value-size.false)))) log;
    }

pub returns-clause-sound : goal.returns-clause-sound
returns-clause-sound c =
    let is = c.requires.places in
    let old = c.args.self.now in
    let n = length c.args.cells.now in
    let k = places_between n old.head c.args.value in
    let left = old.waiting - c.between-2.result in
    record {
      some = is.some;
      few = is.few;
      head = omega (arith, c.if-value-size.false);
      next = is.next;
      waiting = omega (arith, is.waiting);
      agree = agree_less n old.head old.next old.waiting k left is.agree (omega (arith, c.between.ensures, c.between-2.ensures, c.if-between-self.false))
          ∙ ap (λ h. (h + left) % n) (tail-from_count n old.head c.args.value is.head (omega (arith, c.if-value-size.false)));
    }
