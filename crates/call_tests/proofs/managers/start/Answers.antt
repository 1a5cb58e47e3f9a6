use Rattle.std.proofs.Common.{◌≡◌, All, [], ◌∷◌, length, refl, sym, ap, ◌∙◌, arith}
use Rattle.std.proofs.lemmas.List.Elements.{All-cons, All-nil}
use Rattle.ctl_state.specs.declared.phase.Phase.{Phase}
use Rattle.ctl_state.specs.Controller.{ControllerState, PairState}
use Rattle.controller.specs.Pair.{IsMade}
use Rattle.manager.specs.Move.{HasImage}
use Rattle.manager.proofs.MoveLemmas.{has_image}
use Rattle.call_tests.proofs.managers.start.Goals as goal

one_pair : (c : ControllerState) (phase : Phase) → IsMade phase (record { sq = 2; cq = 2; pages = 1 } ∷ []) 2 1 c → HasImage c
one_pair c phase made = has_image c (rw made.pairs (omega arith)) (rw made.pairs (λ i there.
    let first : i ≡ 0 = omega (arith, there) in
    rw first (omega arith)))

none_yet : (c : ControllerState) (phase : Phase) → IsMade phase (record { sq = 2; cq = 2; pages = 1 } ∷ []) 2 1 c → All (λ (p : PairState). p.commands ≡ []) c.pairs
none_yet c phase made = rw made.pairs (All-cons (λ (p : PairState). p.commands ≡ []) _ [] refl (All-nil _))

pub returns-clause-sides : goal.returns-clause-sides
returns-clause-sides c =
    let from = c.in_ok-make.ensures.made in
    let to = c.in_ok-blank.ensures.made in
    record {
      running = from.phase_is;
      waiting = λ running. cc;
      image = one_pair _ _ from;
      lanes = ap length to.pairs ∙ sym (ap length from.pairs);
      fed = ap (λ s. s.lanes) to.none_fed ∙ sym (ap length from.pairs);
    }

pub returns-clause-fits : goal.returns-clause-fits
returns-clause-fits c = record {
  blocks = refl;
  from_pages = refl;
  to_pages = refl;
  calls = omega arith;
  from_quiet = none_yet _ _ c.in_ok-make.ensures.made;
  to_quiet = none_yet _ _ c.in_ok-blank.ensures.made;
}
