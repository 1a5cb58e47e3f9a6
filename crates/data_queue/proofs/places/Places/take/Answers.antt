use Rattle.std.proofs.Common.{◌+◌, ◌-◌, arith, length, refl}
use Rattle.std.proofs.Math.Nat.{mod-lt}
use Rattle.data_queue.proofs.LogLemmas.{agree_less, log_less}
use Rattle.data_queue.proofs.places.Places.take.Goals as goal

pub returns-clause-taken : goal.returns-clause-taken
returns-clause-taken c =
    let some = c.if-self-eq0.false in
    record {
      waiting = omega (arith, some);
      head = refl;
      others = refl;
      cell = c.oldest-change.ensures.cell;
      log = λ posted taken log. (
        c.oldest-change.ensures.log (omega (arith, some)) posted taken log,
        log_less _ _ posted taken 1 refl refl refl (omega (arith, some)) refl log,
      );
    }

pub returns-clause-sound : goal.returns-clause-sound
returns-clause-sound c =
    let is = c.requires.places in
    let old = c.args.self.now in
    let n = length c.args.cells.now in
    record {
      some = is.some;
      few = is.few;
      head = mod-lt (old.head + 1) (omega (arith, is.some));
      next = is.next;
      waiting = omega (arith, is.waiting);
      agree = agree_less n old.head old.next old.waiting 1 (old.waiting - 1) is.agree (omega (arith, c.if-self-eq0.false));
    }
