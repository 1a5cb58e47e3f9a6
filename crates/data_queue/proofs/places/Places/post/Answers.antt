use Rattle.std.proofs.Common.{◌≡◌, ◌+◌, ◌++◌, ◌∷◌, [], Bool, arith, cond, false, length, refl, rules, subst, sym, true}
use Rattle.std.proofs.Math.Nat.{mod-lt}
use Rattle.std.proofs.lemmas.List.{length-set}
use Rattle.std.specs.Bool.{MatchBool}
use Rattle.data_queue.specs.Log.{IsLog, Posted, QueueState, is_lost, with_entry}
use Rattle.data_queue.specs.Places.{ArePlaces, queue_of}
use Rattle.data_queue.proofs.LogLemmas.{agree_more, log_more}
use Rattle.data_queue.proofs.places.Places.post.Goals as goal

pub returns-clause-posted : goal.returns-clause-posted
returns-clause-posted c =
    let q : QueueState = queue_of c.args.self.now c.args.cells.now in
    let more : QueueState = with_entry c.args.c q in
    let kept : is_lost q ≡ false = search rules in
    let is : Posted q c.args.c more = record {
      marked = search rules;
      live = search rules;
      cells = search (rules, length-set);
      queue = subst (λ (lost : Bool). MatchBool lost (more ≡ record q { marked = true }) (more ≡ more)) (sym kept) refl;
      log = λ posted taken log. subst (λ (lost : Bool). IsLog more (posted ++ cond lost [] (c.args.c ∷ [])) taken) (sym kept)
          (log_more q posted taken c.args.c (omega (arith, c.requires.places.some)) (search rules) c.requires.change log);
    } in
    rw (c.to_bytes.ensures.bytes, c.next_phase-self.ensures) is

pub returns-clause-sound : goal.returns-clause-sound
returns-clause-sound c =
    let is = c.requires.places in
    let old = c.args.self.now in
    let n = length c.args.cells.now in
    let places : ArePlaces n _ = record {
      some = is.some;
      few = is.few;
      head = is.head;
      next = mod-lt (old.next + 1) (omega (arith, is.some));
      waiting = omega (arith, is.waiting, c.if-self-size.false);
      agree = agree_more n old.head old.next old.waiting is.agree;
    } in
    rw (length-set c.args.cells.now old.next c.to_bytes.result) places
