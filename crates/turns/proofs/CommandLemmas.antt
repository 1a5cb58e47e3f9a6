use Rattle.std.proofs.Common.{◌≡◌, ◌==◌, ℕ, zero, suc, ◌⊎◌, inl, inr, ⊎_elim, Bool, true, false, cond, List, [], ◌∷◌, ◌++◌, Option, Some, None, IfSome, Decides, bytes_eq, refl, arith, add-one, below_none, below_more}
use Rattle.std.proofs.lemmas.Bool.{cases_Bool}
use Rattle.std.proofs.lemmas.Bool.Decides.{not_from_Decides}
use Rattle.std.proofs.lemmas.Slice.Eq.{bytes_eq-Decides}
use Rattle.nvm_values.specs.declared.op.Op.{Op}
use Rattle.nvm_values.specs.declared.op.Op.TheVariants.{Flush, Write, Read, Compare, WriteZeroes, Verify}
use Rattle.nvm_values.specs.declared.sqe.Sqe.{Sqe}
use Rattle.nvm_values.specs.Status.{StatusPair, success, invalid_field, id_conflict, invalid_opcode, invalid_namespace, out_of_range}
use Rattle.nvm_model.specs.declared.command.Command.{Command}
use Rattle.nvm_model.specs.declared.command.Outcome.{Outcome}
use Rattle.nvm_model.specs.declared.command.Outcome.TheVariants.{Done, Faulted, Differs}
use Rattle.nvm_model.specs.declared.command.Work.{Work}
use Rattle.nvm_model.specs.Check.{first_holding, has_attributes, is_busy, is_unknown, has_other_namespace, is_flush, is_too_long, is_out_of_range, has_bad_pages, verdict, identifiers, opened, fetched_command, checked_command}
use Rattle.nvm_model.specs.History.{is_faulted}
use Rattle.nvm_model.specs.Piece.{OutcomeFits}

-- What a fetched command has to do, and that each piece of it has an outcome.

-- The outcome of a piece.

-- an outcome that fits, and shows no fault
pub record HasOutcome (op : Op) (same : ℕ → Type 0) (count : ℕ) : Type 0 where
  pub outcome : Outcome
  pub fits : OutcomeFits op same count outcome
  pub calm : is_faulted outcome ≡ false

-- a Compare stops at the first block that isn't the same, if there is one
compare_outcome : (same : ℕ → Type 0) → ((i : ℕ) → same i ⊎ (same i → ⊥)) → (n : ℕ) → HasOutcome Compare same n
compare_outcome same decide zero = record { outcome = Done; fits = below_none same; calm = refl }
compare_outcome same decide (suc n) = let before = compare_outcome same decide n in by before.outcome before.fits before.calm (decide n)
  where
    by : (outcome : Outcome) → OutcomeFits Compare same n outcome → is_faulted outcome ≡ false → same n ⊎ (same n → ⊥) → HasOutcome Compare same (suc n)
    by Done all calm (inl here) = record { outcome = Done; fits = λ i h. below_more same n all here i (rw add-one h); calm = refl }
    by Done all calm (inr other) = record { outcome = Differs n; fits = (omega arith, all, other); calm = refl }
    by (Differs at) found calm here = record { outcome = Differs at; fits = (omega (arith, found.0), found.1, found.2); calm = refl }
    by (Faulted at) found calm here = cc

-- each op but a Flush has one
pub has_outcome : (op : Op) (same : ℕ → Type 0) → ((i : ℕ) → same i ⊎ (same i → ⊥)) → (count : ℕ) → (op ≡ Flush → ⊥) → HasOutcome op same count
has_outcome Flush same decide count other = absurd (other refl)
has_outcome Write same decide count other = record { outcome = Done; fits = tt; calm = refl }
has_outcome Read same decide count other = record { outcome = Done; fits = tt; calm = refl }
has_outcome Compare same decide count other = compare_outcome same decide count
has_outcome WriteZeroes same decide count other = record { outcome = Done; fits = tt; calm = refl }
has_outcome Verify same decide count other = record { outcome = Done; fits = tt; calm = refl }

-- two blocks are the same, or not
pub same_or_not : (xs ys : List ℕ) → (xs ≡ ys) ⊎ (xs ≡ ys → ⊥)
same_or_not xs ys =
    let decides : Decides (bytes_eq xs ys) (xs ≡ ys) = bytes_eq-Decides xs ys in
    ⊎_elim (λ e. inl (decides.0 e)) (λ e. inr (not_from_Decides _ decides e)) (cases_Bool (bytes_eq xs ys))

-- The work of a command that was fetched.

-- work whose op has pieces
abbrev pub HasPieces : Work → Type 0
HasPieces work = work.op ≡ Flush → ⊥

-- the work of a command, where it has one
abbrev pub HasNewWork : Command → Type 0
HasNewWork command = IfSome command.work HasPieces

-- where a test holds, the tests decide something
one_holds : (before after : List (Bool × StatusPair)) (test : Bool × StatusPair) → test.0 ≡ true → first_holding (before ++ (test ∷ after)) ≡ None → ⊥
one_holds [] after test holds none = here test.0 holds none
  where
    here : (b : Bool) → b ≡ true → cond b (Some test.1) (first_holding after) ≡ None → ⊥
    here true h is = cc
    here false h is = cc
one_holds (t ∷ before) after test holds none = next t.0 (one_holds before after test holds) none
  where
    next : (b : Bool) → (first_holding (before ++ (test ∷ after)) ≡ None → ⊥) → cond b (Some t.1) (first_holding (before ++ (test ∷ after))) ≡ None → ⊥
    next true later is = cc
    next false later is = later is

-- a Flush is decided when it is fetched
flush_decided : (blocks lane : ℕ) (memory : List (List ℕ)) (busy : List ℕ) (e : Sqe) → is_flush e ≡ true → verdict blocks lane memory busy e ≡ None → ⊥
unfolding verdict
flush_decided blocks lane memory busy e flush none =
    one_holds ((has_attributes e, invalid_field) ∷ (is_busy e.cid busy, id_conflict) ∷ (is_unknown e, invalid_opcode) ∷ (has_other_namespace e, invalid_namespace) ∷ [])
    ((is_too_long e, invalid_field) ∷ (is_out_of_range blocks e, out_of_range) ∷ (has_bad_pages lane memory e, invalid_field) ∷ []) (is_flush e, success) flush none

-- the op of an opcode that isn't Flush's is another
other_op : (flush write read compare zeroes verify : Bool) → (flush ≡ true → ⊥) →
    IfSome (cond flush (Some Flush) (cond write (Some Write) (cond read (Some Read) (cond compare (Some Compare) (cond zeroes (Some WriteZeroes) (cond verify (Some Verify) None)))))) (λ op. op ≡ Flush → ⊥)
other_op true write read compare zeroes verify other = absurd (other refl)
other_op false true read compare zeroes verify other = λ e. cc
other_op false false true compare zeroes verify other = λ e. cc
other_op false false false true zeroes verify other = λ e. cc
other_op false false false false true verify other = λ e. cc
other_op false false false false false true other = λ e. cc
other_op false false false false false false other = tt

-- a command as a fetch makes it
pub checked_is_new : (blocks lane : ℕ) (memory : List (List ℕ)) (running : List Command) (e : Sqe) → HasNewWork (checked_command blocks lane memory running e)
checked_is_new blocks lane memory running e = by (verdict blocks lane memory (identifiers running) e) (flush_decided blocks lane memory (identifiers running) e)
  where
    opens : (o : Option Op) → IfSome o (λ op. op ≡ Flush → ⊥) → IfSome (opened lane memory e o) HasPieces
    opens None other = tt
    opens (Some op) other = other

    by : (decision : Option StatusPair) → (is_flush e ≡ true → decision ≡ None → ⊥) → HasNewWork (fetched_command decision lane memory e)
    by (Some status) decided = tt
    by None decided =
        opens _ (other_op (e.opcode == 0x00) (e.opcode == 0x01) (e.opcode == 0x02) (e.opcode == 0x05) (e.opcode == 0x08) (e.opcode == 0x0c) (λ flush. decided flush refl))
