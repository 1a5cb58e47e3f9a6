use Rattle.std.specs.Prelude.{◌≡◌, ◌+◌, ◌≤◌, ℕ, Bool, List, [], ◌∷◌, Option, Some, None, if◌then◌else◌, IsSomeAnd}
use Rattle.nvm_values.specs.declared.sqe.Sqe.{Sqe}
use Rattle.nvm_values.specs.Sqe.{slba_of, count_of}
use Rattle.nvm_values.specs.Op.{op_of}
use Rattle.nvm_values.specs.declared.op.Op.TheVariants.{Flush}
use Rattle.nvm_values.specs.Status.{StatusPair, success, invalid_opcode, invalid_field, id_conflict, invalid_namespace, out_of_range}
use Rattle.nvm_model.specs.Check.{first_holding, has_attributes, is_busy, is_unknown, has_other_namespace, is_flush, is_too_long, is_out_of_range, has_bad_pages}

-- The eight tests in two parts, for the two functions that make them.

-- the first seven, which need no page
abbrev pub early_tests : ℕ → List ℕ → Sqe → List (Bool × StatusPair)
early_tests blocks busy e =
    (has_attributes e, invalid_field)
    ∷ (is_busy e.cid busy, id_conflict)
    ∷ (is_unknown e, invalid_opcode)
    ∷ (has_other_namespace e, invalid_namespace)
    ∷ (is_flush e, success)
    ∷ (is_too_long e, invalid_field)
    ∷ (is_out_of_range blocks e, out_of_range)
    ∷ []

unfoldable pub early_verdict : ℕ → List ℕ → Sqe → Option StatusPair
early_verdict blocks busy e = first_holding (early_tests blocks busy e)

-- the one of the pages
abbrev pub late_verdict : ℕ → List (List ℕ) → Sqe → Option StatusPair
late_verdict lane memory e = if has_bad_pages lane memory e then Some invalid_field else None

-- an entry that none of the first seven stops
pub record HasPassed (blocks : ℕ) (e : Sqe) : Type 0 where
  pub known : IsSomeAnd (op_of e.opcode) (λ op. op ≡ Flush → ⊥)
  pub short : count_of e ≤ 64
  pub within : slba_of e + count_of e ≤ blocks
