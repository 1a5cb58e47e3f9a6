use Rattle.std.proofs.Common.{◌≡◌, ◌==◌, ℕ, ◌+◌, Bool, true, false, cond, List, [], ◌∷◌, ◌++◌, Option, Some, None, refl, sym, ap, ◌∙◌, arith, ltb}
use Rattle.std.specs.Option.{is_none, IsSomeAnd}
use Rattle.std.proofs.lemmas.Bool.{false≢true}
use Rattle.std.proofs.lemmas.Bool.Decides.{nat_tests}
use Rattle.nvm_values.specs.declared.op.Op.TheVariants.{Flush, Write, Read, Compare, WriteZeroes, Verify}
use Rattle.nvm_values.specs.declared.sqe.Sqe.{Sqe}
use Rattle.nvm_values.specs.Sqe.{slba_of, count_of}
use Rattle.nvm_values.specs.Status.{StatusPair, success, invalid_field}
use Rattle.nvm_model.specs.Check.{first_holding, verdict, opened, fetched_command, is_unknown, is_flush, has_bad_pages}
use Rattle.nvm_cmd.specs.declared.job.Checked.{Checked}
use Rattle.nvm_cmd.specs.Answer.{IsAnswer, command_of}
use Rattle.nvm_cmd.specs.Check.{early_tests, early_verdict, late_verdict, HasPassed}

-- the first status, and else the second
abbrev or_else : Option StatusPair → Option StatusPair → Option StatusPair
or_else (Some x) other = Some x
or_else None other = other

-- a test goes before what else is asked
cond_or : (b : Bool) (x : StatusPair) (r other : Option StatusPair) → cond b (Some x) (or_else r other) ≡ or_else (cond b (Some x) r) other
cond_or true x r other = refl
cond_or false x r other = refl

-- the first of some tests that holds, and else the first of further ones
first_append : (ts us : List (Bool × StatusPair)) → first_holding (ts ++ us) ≡ or_else (first_holding ts) (first_holding us)
first_append [] us = refl
first_append (t ∷ ts) us = ap (cond t.0 (Some t.1)) (first_append ts us) ∙ cond_or t.0 t.1 (first_holding ts) (first_holding us)

-- all eight tests are the first seven and the one of the pages
verdict_is : (blocks lane : ℕ) (memory : List (List ℕ)) (busy : List ℕ) (e : Sqe) →
    verdict blocks lane memory busy e ≡ or_else (early_verdict blocks busy e) (late_verdict lane memory e)
unfolding early_verdict verdict
verdict_is blocks lane memory busy e = first_append (early_tests blocks busy e) ((has_bad_pages lane memory e, invalid_field) ∷ [])

-- what one of the first seven tests decides is the verdict
pub stopped : (blocks lane : ℕ) (memory : List (List ℕ)) (busy : List ℕ) (e : Sqe) (status : StatusPair) →
    Some status ≡ early_verdict blocks busy e → verdict blocks lane memory busy e ≡ Some status
stopped blocks lane memory busy e status h = verdict_is blocks lane memory busy e ∙ ap (λ (d : Option StatusPair). or_else d (late_verdict lane memory e)) (sym h)

-- where none of them holds, the verdict is that of the pages
pub passed_on : (blocks lane : ℕ) (memory : List (List ℕ)) (busy : List ℕ) (e : Sqe) →
    None ≡ early_verdict blocks busy e → verdict blocks lane memory busy e ≡ late_verdict lane memory e
passed_on blocks lane memory busy e h = verdict_is blocks lane memory busy e ∙ ap (λ (d : Option StatusPair). or_else d (late_verdict lane memory e)) (sym h)

-- an answer stands for the command that a fetch makes
pub command_fetched : (verdict : Option StatusPair) (lane : ℕ) (memory : List (List ℕ)) (e : Sqe) (checked : Checked) →
    IsAnswer verdict lane memory e checked → command_of e.cid checked ≡ fetched_command verdict lane memory e
command_fetched (Some status) lane memory e checked h = ap (command_of e.cid) h
command_fetched None lane memory e checked (op, known, is) =
    ap (command_of e.cid) is ∙ ap (λ o. record { cid = e.cid; status = success; work = opened lane memory e o }) (sym known)

-- where a list of tests decides nothing, its first one doesn't hold, and the others decide nothing
none_first : (b : Bool) (x : StatusPair) (r : Option StatusPair) → None ≡ cond b (Some x) r → (b ≡ false) × (None ≡ r)
none_first true x r h = cc
none_first false x r h = (refl, h)

-- no test of a list holds
abbrev NoneHolds : List (Bool × StatusPair) → Type 0
NoneHolds [] = Unit {0}
NoneHolds (t ∷ ts) = (t.0 ≡ false) × NoneHolds ts

-- so none of them holds
none_hold : (ts : List (Bool × StatusPair)) → None ≡ first_holding ts → NoneHolds ts
none_hold [] h = tt
none_hold (t ∷ ts) h = let first = none_first t.0 t.1 (first_holding ts) h in (first.0, none_hold ts first.1)

-- a known opcode that isn't Flush's is that of another command
known_op : (flush write read compare zeroes verify : Bool) →
    is_none (cond flush (Some Flush) (cond write (Some Write) (cond read (Some Read) (cond compare (Some Compare) (cond zeroes (Some WriteZeroes) (cond verify (Some Verify) None)))))) ≡ false → flush ≡ false →
    IsSomeAnd (cond flush (Some Flush) (cond write (Some Write) (cond read (Some Read) (cond compare (Some Compare) (cond zeroes (Some WriteZeroes) (cond verify (Some Verify) None)))))) (λ op. op ≡ Flush → ⊥)
known_op true write read compare zeroes verify h f = absurd (false≢true (sym f))
known_op false true read compare zeroes verify h f = λ e. cc
known_op false false true compare zeroes verify h f = λ e. cc
known_op false false false true zeroes verify h f = λ e. cc
known_op false false false false true verify h f = λ e. cc
known_op false false false false false true h f = λ e. cc
known_op false false false false false false h f = absurd (false≢true (sym h))

-- where none of the first seven tests holds, the entry has passed them
pub has_passed : (blocks : ℕ) (busy : List ℕ) (e : Sqe) → None ≡ early_verdict blocks busy e → HasPassed blocks e
unfolding early_verdict
has_passed blocks busy e h =
    let none = none_hold (early_tests blocks busy e) h in
    let known : is_unknown e ≡ false = none.1.1.0 in
    let not_flush : is_flush e ≡ false = none.1.1.1.1.0 in
    let not_long : ltb 64 (count_of e) ≡ false = none.1.1.1.1.1.0 in
    let not_past : ltb blocks (slba_of e + count_of e) ≡ false = none.1.1.1.1.1.1.0 in
    record {
      known = known_op (e.opcode == 0x00) (e.opcode == 0x01) (e.opcode == 0x02) (e.opcode == 0x05) (e.opcode == 0x08) (e.opcode == 0x0c) known not_flush;
      short = grind (arith, nat_tests);
      within = grind (arith, nat_tests);
    }
