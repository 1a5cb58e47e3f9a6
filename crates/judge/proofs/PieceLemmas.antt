use Rattle.std.proofs.Common.{◌≡◌, ℕ, zero, suc, ◌+◌, ◌-◌, ◌^◌, ◌<◌, ◌≤◌, min, ⊎_elim, Bool, true, false, List, [], ◌∷◌, ◌++◌, Option, Some, length, refl, sym, ap, subst, ◌∙◌, arith}
use Rattle.std.proofs.lemmas.Bool.{cases_order, eqb-true, eq-eqb, false≢true}
use Rattle.nvm_values.specs.declared.op.Op.{Op}
use Rattle.nvm_values.specs.declared.op.Op.TheVariants.{Flush, Write, Read, Compare, WriteZeroes, Verify}
use Rattle.nvm_model.specs.declared.command.Outcome.{Outcome}
use Rattle.nvm_model.specs.declared.command.Outcome.TheVariants.{Done, Faulted, Differs}
use Rattle.nvm_model.specs.declared.piece.Piece.{Piece}
use Rattle.nvm_model.specs.declared.piece.PieceResult.{PieceResult}
use Rattle.nvm_model.specs.Chain.{Chain}
use Rattle.nvm_model.specs.Medium.{Effect, IsMade}
use Rattle.nvm_model.specs.declared.trace.Call.{Call}
use Rattle.nvm_model.specs.Piece.{ComparesTo, MovesTo, OutcomeFits, block_at, data_block, digest_after, done_blocks}
use Rattle.nvm_model.specs.Shelf.{HasEffect, digest_bytes}
use Rattle.nvm_model.specs.Trace.{good_calls, moved_count, piece_calls, step_of}
use Rattle.nvm_model.proofs.PieceLemmas.{piece_law}
use Rattle.nvm_blocks.specs.Work.{HasApplied}
use Rattle.judge.specs.Piece.{EndsSo, failing_block, told_digest}
use Rattle.judge.specs.Replay.{ReplayState, Replays, fails, is_failing, state_of}

-- A piece over a namespace in which the call fails that a transcript says has failed.

abbrev Blocks : Type 0
Blocks = List (List ℕ)

-- each call failed where its block is the one that fails
abbrev AreCalled : Option ℕ → List Call → Type 0
AreCalled failing [] = Unit {0}
AreCalled failing (c ∷ calls) = (c.failed ≡ fails failing c.step) × AreCalled failing calls

called : (x : ReplayState) (calls : List Call) (y : ReplayState) → Chain (IsMade state_of Replays) x calls y → AreCalled x.failing calls × Chain Effect x.blocks calls y.blocks
called x [] y c = (tt, ap (λ (r : ReplayState). r.blocks) c)
called x (a ∷ calls) y c =
    let rest = called c.0 calls y c.2 in
    ((c.1.moved.exact, subst (λ (f : Option ℕ). AreCalled f calls) c.1.moved.same rest.0), (c.0.blocks, c.1.blocks, rest.1))

step_fails : (op : Op) (failing : Option ℕ) (b : ℕ) → fails failing (step_of op b) ≡ is_failing failing b
step_fails Write failing b = refl
step_fails WriteZeroes failing b = refl
step_fails Read failing b = refl
step_fails Compare failing b = refl
step_fails Verify failing b = refl
step_fails Flush failing b = refl

-- a call that failed is the one that fails, and none before it is
abbrev NoneFails : Option ℕ → ℕ → ℕ → Type 0
NoneFails failing first n = (i : ℕ) → i < n → is_failing failing (first + i) ≡ false

none_before : (op : Op) (failing : Option ℕ) (first : ℕ) (moved : Blocks) (last : List Call) → AreCalled failing (good_calls (step_of op) first moved ++ last) → NoneFails failing first (length moved) × AreCalled failing last
none_before op failing first [] last are = ((λ i l. absurd (omega (arith, l))), are)
none_before op failing first (b ∷ moved) last are =
    let rest = none_before op failing (first + 1) moved last are.1 in
    (here rest.0, rest.1)
  where
    here : NoneFails failing (first + 1) (length moved) → NoneFails failing first (length (b ∷ moved))
    here others zero l = let same : first ≡ first + 0 = omega arith in subst (λ (k : ℕ). is_failing failing k ≡ false) same (sym (step_fails op failing first) ∙ sym are.0)
    here others (suc i) l = let same : first + 1 + i ≡ first + suc i = omega arith in subst (λ (k : ℕ). is_failing failing k ≡ false) same (others i (omega (arith, l)))

abbrev FailedAt : Option ℕ → ℕ → Outcome → Type 0
FailedAt failing first Done = Unit {0}
FailedAt failing first (Differs at) = Unit {0}
FailedAt failing first (Faulted at) = is_failing failing (first + at) ≡ true

calls_fail : (piece : Piece) (failing : Option ℕ) (first : ℕ) (memory moved : Blocks) (outcome : Outcome) → AreCalled failing (piece_calls piece first memory moved outcome) → NoneFails failing first (length moved) × FailedAt failing first outcome
calls_fail piece failing first memory moved Done are = ((none_before piece.op failing first moved [] are).0, tt)
calls_fail piece failing first memory moved (Differs at) are = ((none_before piece.op failing first moved [] are).0, tt)
calls_fail piece failing first memory moved (Faulted at) are =
    let p = none_before piece.op failing first moved _ are in
    (p.0, sym (step_fails piece.op failing (first + at)) ∙ sym p.1.0)

-- The outcome is the one that is told, where that may be.

true_false : (b : Bool) → b ≡ true → b ≡ false → ⊥
true_false b is not = false≢true (sym not ∙ is)

-- the block that fails isn't passed
passed : (first a count : ℕ) → first + count ≤ 131072 → a < count → is_failing (failing_block first (Faulted a)) (first + a) ≡ false → ⊥
passed first a count few low not = true_false _ (eq-eqb (min (first + a) (2 ^ 32 - 1)) (first + a) (omega arith)) not

-- and no other fails
stopped : (first a b count : ℕ) → first + count ≤ 131072 → b < count → is_failing (failing_block first (Faulted a)) (first + b) ≡ true → b ≡ a
stopped first a b count few low is = let e = eqb-true (min (first + a) (2 ^ 32 - 1)) (first + b) is in omega arith

moves_agree : (first count : ℕ) (o r : Outcome) → first + count ≤ 131072 → MovesTo count o → MovesTo count r → NoneFails (failing_block first o) first (moved_count count r) → FailedAt (failing_block first o) first r → r ≡ o
moves_agree first count Done Done few fo fr none at = refl
moves_agree first count Done (Faulted b) few fo fr none at = absurd (false≢true at)
moves_agree first count Done (Differs b) few fo fr none at = absurd fr
moves_agree first count (Differs a) r few fo fr none at = absurd fo
moves_agree first count (Faulted a) Done few fo fr none at = absurd (passed first a count few fo (none a fo))
moves_agree first count (Faulted a) (Faulted b) few fo fr none at = ap (λ (k : ℕ). Faulted k) (stopped first a b count few fr at)
moves_agree first count (Faulted a) (Differs b) few fo fr none at = absurd fr

compares_agree : (same : ℕ → Type 0) (first count : ℕ) (o r : Outcome) → first + count ≤ 131072 → ComparesTo same count o → ComparesTo same count r → NoneFails (failing_block first o) first (moved_count count r) →
    FailedAt (failing_block first o) first r → r ≡ o
compares_agree same first count Done Done few fo fr none at = refl
compares_agree same first count Done (Faulted b) few fo fr none at = absurd (false≢true at)
compares_agree same first count Done (Differs b) few fo fr none at = absurd (fr.2 (fo b fr.0))
compares_agree same first count (Faulted a) Done few fo fr none at = absurd (passed first a count few fo.0 (none a fo.0))
compares_agree same first count (Faulted a) (Faulted b) few fo fr none at = ap (λ (k : ℕ). Faulted k) (stopped first a b count few fr.0 at)
compares_agree same first count (Faulted a) (Differs b) few fo fr none at =
    ⊎_elim (λ (e : a ≡ b). absurd (passed first a count few fo.0 (none a (omega arith))))
    (λ other. ⊎_elim (λ (lower : a < b). absurd (passed first a count few fo.0 (none a (omega arith)))) (λ (higher : b < a). absurd (fr.2 (fo.1 b higher))) other)
    (cases_order a b)
compares_agree same first count (Differs a) Done few fo fr none at = absurd (fo.2 (fr a fo.0))
compares_agree same first count (Differs a) (Faulted b) few fo fr none at = absurd (false≢true at)
compares_agree same first count (Differs a) (Differs b) few fo fr none at =
    ⊎_elim (λ (e : b ≡ a). ap (λ (k : ℕ). Differs k) e)
    (λ other. ⊎_elim (λ (lower : b < a). absurd (fr.2 (fo.1 b lower))) (λ (higher : a < b). absurd (fo.2 (fr.1 a higher))) other)
    (cases_order b a)

agree : (op : Op) (same : ℕ → Type 0) (first count : ℕ) (o r : Outcome) → first + count ≤ 131072 → OutcomeFits op same count o → OutcomeFits op same count r → NoneFails (failing_block first o) first (moved_count count r) →
    FailedAt (failing_block first o) first r → r ≡ o
agree Write same first count o r few fo fr none at = moves_agree first count o r few fo fr none at
agree WriteZeroes same first count o r few fo fr none at = moves_agree first count o r few fo fr none at
agree Read same first count o r few fo fr none at = moves_agree first count o r few fo fr none at
agree Verify same first count o r few fo fr none at = moves_agree first count o r few fo fr none at
agree Compare same first count o r few fo fr none at = compares_agree same first count o r few fo fr none at
agree Flush same first count o r few fo fr none at = absurd fo

told_is : (op : Op) (first n : ℕ) (blocks : Blocks) (digest : List ℕ) → digest ≡ digest_bytes (digest_after op first n blocks) → told_digest op digest ≡ digest_after op first n blocks
told_is Read first n blocks digest is = ap (λ (d : List ℕ). Some d) is
told_is Write first n blocks digest is = refl
told_is WriteZeroes first n blocks digest is = refl
told_is Compare first n blocks digest is = refl
told_is Verify first n blocks digest is = refl
told_is Flush first n blocks digest is = refl

-- What was done is how the piece may have ended, and it ends so where it may have ended as it is told.
pub record HasReplayed (piece : Piece) (o : Outcome) (result : PieceResult) (blocks memory new_blocks new_memory : Blocks) : Type 0 where
  pub ends : EndsSo piece result.outcome (told_digest piece.op result.digest) blocks memory new_blocks new_memory
  pub agrees : (digest : Option (List ℕ)) (b m : Blocks) → EndsSo piece o digest blocks memory b m → (result.outcome ≡ o) × (told_digest piece.op result.digest ≡ digest)

pub replayed : {piece : Piece} {result : PieceResult} {x y : ReplayState} {memory new_memory : Blocks} (o : Outcome) (blocks : Blocks) → x.blocks ≡ blocks → x.failing ≡ failing_block piece.span.first o → piece.span.first + piece.span.count ≤ 131072 →
    HasApplied state_of Replays piece piece.span.first result x memory y new_memory → HasReplayed piece o result blocks memory y.blocks new_memory
replayed {piece} {result} {x} {y} {memory} {new_memory} o blocks blocks_are failing few h =
    let first = piece.span.first in
    let count = piece.span.count in
    let c = called x (piece_calls piece first memory h.moved result.outcome) y h.calls in
    let effect : HasEffect piece first result x.blocks memory y.blocks new_memory = piece_law piece first h.moved result memory new_memory x.blocks y.blocks h.done c.1 in
    let f = calls_fail piece x.failing first memory h.moved result.outcome c.0 in
    let none : NoneFails (failing_block first o) first (moved_count count result.outcome) =
    subst (λ (k : Option ℕ). NoneFails k first (moved_count count result.outcome)) failing (subst (λ (n : ℕ). NoneFails x.failing first n) h.done.count f.0) in
    let at : FailedAt (failing_block first o) first result.outcome = subst (λ (k : Option ℕ). FailedAt k first result.outcome) failing f.1 in
    let told : told_digest piece.op result.digest ≡ digest_after piece.op first (done_blocks count result.outcome) x.blocks = told_is piece.op first (done_blocks count result.outcome) x.blocks result.digest effect.digest_is in
    subst (λ (bs : Blocks). HasReplayed piece o result bs memory y.blocks new_memory) blocks_are (record {
      ends = record { fits = effect.fits; digest_is = told; blocks_is = effect.blocks_is; memory_is = effect.memory_is };
      agrees = λ digest b m e.
          let same : result.outcome ≡ o = agree piece.op (λ i. block_at x.blocks (first + i) ≡ data_block memory piece.pages (piece.at + i)) first count o result.outcome few e.fits effect.fits none at in
          (same, told ∙ (ap (λ (k : Outcome). digest_after piece.op first (done_blocks count k) x.blocks) same ∙ sym e.digest_is));
    })
