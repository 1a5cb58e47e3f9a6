use Rattle.std.proofs.Common.{List, [], ◌∷◌, ◌++◌, refl, ◌∙◌, arith}
use Rattle.std.proofs.lemmas.List.{length-append, map-append}
use Rattle.nvm_model.proofs.ChainLemmas.{chain_more, chain_one}
use Rattle.manager.specs.Asks.{Ask, Asked, asked}
use Rattle.manager.specs.Port.{IsPortCall, PortCall, PortState}

-- What was asked, one thing after another.

pub asked_none : {I : Type 0} (moves : I → PortCall → I → Type 0) (p : PortState I) → Asked moves [] p p
asked_none moves p = record { calls = []; run = refl; inside = refl; asks_are = refl; count = refl; left = omega arith }

pub asked_call : {I : Type 0} {moves : I → PortCall → I → Type 0} {old new : PortState I} (c : PortCall) → IsPortCall moves old c new → Asked moves (asked c ∷ []) old new
asked_call {I} {moves} {old} {new} c is = record { calls = c ∷ []; run = chain_one (IsPortCall moves) old c new is; inside = chain_one moves old.inside c new.inside is.moved; asks_are = refl; count = is.count; left = is.left }

pub asked_more : {I : Type 0} {moves : I → PortCall → I → Type 0} {first second : List Ask} {old mid new : PortState I} → Asked moves first old mid → Asked moves second mid new → Asked moves (first ++ second) old new
asked_more {moves = moves} {first} {second} {old} {mid} {new} p q = record {
  calls = p.calls ++ q.calls;
  run = chain_more (IsPortCall moves) old p.calls mid q.calls new p.run q.run;
  inside = chain_more moves old.inside p.calls mid.inside q.calls new.inside p.inside q.inside;
  asks_are = map-append asked p.calls q.calls ∙ (λ k. p.asks_are k ++ q.asks_are k);
  count = q.count ∙ p.count;
  left = omega (arith, length-append first second, p.left, q.left);
}
