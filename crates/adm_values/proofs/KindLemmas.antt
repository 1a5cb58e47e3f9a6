-- Commands by their opcode and selector.
use Rattle.std.proofs.Common.{◌≡◌, ◌≢◌, ◌==◌, ◌<◌, ◌≤◌, ◌+◌, ◌-◌, ◌^◌, ℕ, zero, suc, Bool, true, false, Ok, Err, List, [], ◌∷◌, cond, length, slice_index, ⊎_elim, refl, sym, ◌∙◌, subst, arith, add-zero, if◌then◌else◌}
use Rattle.std.proofs.lemmas.Bool.{cases_eq, ne_eqb}
use Rattle.std.proofs.lemmas.Bool.Decides.{nat_tests}
use Rattle.adm_values.specs.declared.command.What.{What}
use Rattle.adm_values.specs.declared.command.What.TheVariants as what
use Rattle.adm_values.specs.declared.kind.AdminRefusal.{AdminRefusal}
use Rattle.adm_values.specs.declared.kind.AdminRefusal.TheVariants.{BadOpcode, BadSelect, BadField}
use Rattle.adm_values.specs.declared.kind.Kind.{Kind}
use Rattle.adm_values.specs.declared.kind.Kind.TheVariants.{LogUserData, TrackMemory, MemoryChanges, Suspend, Resume, SetState, GetState, CreateQueue, DeleteQueue}
use Rattle.adm_values.specs.Command.{IsInRange, Reads, dword_11, dword_12, opcode_of, select_of}
use Rattle.adm_values.specs.Kinds.{IsWithin, kind_at, kind_of, limits_11, limits_12, limits_of, only, selector, what_of}

-- the kind of a command is found by its opcode and selector
pub kind_found : (w : What) → kind_at (opcode_of w) (select_of w) ≡ Ok (kind_of w)
kind_found (what.LogUserData start queue) = refl
kind_found (what.TrackMemory start) = refl
kind_found (what.MemoryChanges max) = refl
kind_found what.Suspend = refl
kind_found what.Resume = refl
kind_found (what.SetState offset length) = refl
kind_found (what.GetState offset length) = refl
kind_found (what.CreateQueue cells) = refl
kind_found (what.DeleteQueue queue) = refl

pub kind_found_at : (w : What) (opcode select : ℕ) → opcode_of w ≡ opcode → select_of w ≡ select → kind_at opcode select ≡ Ok (kind_of w)
kind_found_at w opcode select o s = (λ k. kind_at (sym o k) (sym s k)) ∙ kind_found w

-- the opcode and the selector that a kind was found by are those of its commands
pub kind_tells : (kind : Kind) (opcode select first second : ℕ) → kind_at opcode select ≡ Ok kind → (opcode_of (what_of kind first second) ≡ opcode) × (select_of (what_of kind first second) ≡ select)
kind_tells LogUserData opcode select first second is = grind (arith, nat_tests)
kind_tells TrackMemory opcode select first second is = grind (arith, nat_tests)
kind_tells MemoryChanges opcode select first second is = grind (arith, nat_tests)
kind_tells Suspend opcode select first second is = grind (arith, nat_tests)
kind_tells Resume opcode select first second is = grind (arith, nat_tests)
kind_tells SetState opcode select first second is = grind (arith, nat_tests)
kind_tells GetState opcode select first second is = grind (arith, nat_tests)
kind_tells CreateQueue opcode select first second is = grind (arith, nat_tests)
kind_tells DeleteQueue opcode select first second is = grind (arith, nat_tests)

-- no command has the opcode, or one has it and none the selector
no_opcode : (w : What) (opcode select : ℕ) → kind_at opcode select ≡ Err BadOpcode → opcode_of w ≢ opcode
no_opcode w opcode select is same = no_opcode_of w select ((λ k. kind_at (same k) select) ∙ is)
  where
    no_opcode_of : (w : What) (select : ℕ) → kind_at (opcode_of w) select ≡ Err BadOpcode → ⊥
    no_opcode_of (what.LogUserData start queue) select is = grind (arith, nat_tests)
    no_opcode_of (what.TrackMemory start) select is = grind (arith, nat_tests)
    no_opcode_of (what.MemoryChanges max) select is = grind (arith, nat_tests)
    no_opcode_of what.Suspend select is = grind (arith, nat_tests)
    no_opcode_of what.Resume select is = grind (arith, nat_tests)
    no_opcode_of (what.SetState offset length) select is = grind (arith, nat_tests)
    no_opcode_of (what.GetState offset length) select is = grind (arith, nat_tests)
    no_opcode_of (what.CreateQueue cells) select is = grind (arith, nat_tests)
    no_opcode_of (what.DeleteQueue queue) select is = grind (arith, nat_tests)

no_selector : (w : What) (opcode select : ℕ) → kind_at opcode select ≡ Err BadSelect → opcode_of w ≡ opcode → select_of w ≢ select
no_selector w opcode select is o s = let found = kind_found_at w opcode select o s in cc

some_opcode : (opcode select : ℕ) → kind_at opcode select ≡ Err BadSelect → (w : What) × (opcode_of w ≡ opcode)
some_opcode opcode select is =
    ⊎_elim (λ e. (what.TrackMemory true, sym e)) (λ not_3d.
    ⊎_elim (λ e. (what.MemoryChanges 1, sym e)) (λ not_3e.
    ⊎_elim (λ e. (what.Suspend, sym e)) (λ not_41.
    ⊎_elim (λ e. (what.GetState 0 1, sym e)) (λ not_42.
    ⊎_elim (λ e. (what.CreateQueue 2, sym e)) (λ not_45. absurd (none not_3d not_3e not_41 not_42 not_45))
    (cases_eq opcode 0x45))
    (cases_eq opcode 0x42))
    (cases_eq opcode 0x41))
    (cases_eq opcode 0x3e))
    (cases_eq opcode 0x3d)
  where
    none : opcode ≢ 0x3d → opcode ≢ 0x3e → opcode ≢ 0x41 → opcode ≢ 0x42 → opcode ≢ 0x45 → ⊥
    none a b c d e = grind (arith, nat_tests)

-- so bytes of no kind are refused as they should be
pub no_kind : (b : List ℕ) (refusal : AdminRefusal) → kind_at (slice_index b 0) (slice_index b 40) ≡ Err refusal → Reads b (Err refusal)
no_kind b BadOpcode is = λ w. no_opcode w (slice_index b 0) (slice_index b 40) is
no_kind b BadSelect is = (some_opcode (slice_index b 0) (slice_index b 40) is, λ w. no_selector w (slice_index b 0) (slice_index b 40) is)
no_kind b (BadField place) is = absurd (no_place (slice_index b 0) (slice_index b 40) place is)
  where
    no_place : (opcode select place : ℕ) → kind_at opcode select ≡ Err (BadField place) → ⊥
    no_place opcode select place is = grind (arith, nat_tests)

-- what a command with two numbers is
pub record HasNumbers (kind : Kind) (first second : ℕ) : Type 0 where
  pub dword_11_is : dword_11 (what_of kind first second) ≡ first
  pub dword_12_is : dword_12 (what_of kind first second) ≡ second
  pub range : IsInRange (what_of kind first second)

-- one bit as a number
bit_of : (x : ℕ) → x ≤ 1 → cond (x == 1) 1 0 ≡ x
bit_of zero few = refl
bit_of (suc zero) few = refl
bit_of (suc (suc x)) few = absurd (omega arith)

pub has_numbers : (kind : Kind) (first second : ℕ) → IsWithin (limits_11 kind) first → IsWithin (limits_12 kind) second → HasNumbers kind first second
has_numbers LogUserData first second a b = record { dword_11_is = bit_of first a.1; dword_12_is = refl; range = omega arith }
has_numbers TrackMemory first second a b = record { dword_11_is = bit_of first a.1; dword_12_is = omega arith; range = tt }
has_numbers MemoryChanges first second a b = record { dword_11_is = refl; dword_12_is = omega arith; range = a }
has_numbers Suspend first second a b = record { dword_11_is = omega arith; dword_12_is = omega arith; range = tt }
has_numbers Resume first second a b = record { dword_11_is = omega arith; dword_12_is = omega arith; range = tt }
has_numbers SetState first second a b = record { dword_11_is = refl; dword_12_is = refl; range = (omega arith, b.0, b.1) }
has_numbers GetState first second a b = record { dword_11_is = refl; dword_12_is = refl; range = (omega arith, b.0, b.1) }
has_numbers CreateQueue first second a b = record { dword_11_is = refl; dword_12_is = omega arith; range = a }
has_numbers DeleteQueue first second a b = record { dword_11_is = refl; dword_12_is = omega arith; range = omega arith }

pub kind_of-what_of : (kind : Kind) (first second : ℕ) → kind_of (what_of kind first second) ≡ kind
kind_of-what_of LogUserData first second = refl
kind_of-what_of TrackMemory first second = refl
kind_of-what_of MemoryChanges first second = refl
kind_of-what_of Suspend first second = refl
kind_of-what_of Resume first second = refl
kind_of-what_of SetState first second = refl
kind_of-what_of GetState first second = refl
kind_of-what_of CreateQueue first second = refl
kind_of-what_of DeleteQueue first second = refl

-- a command is that with its kind and its numbers
pub what_of-dwords : (w : What) → what_of (kind_of w) (dword_11 w) (dword_12 w) ≡ w
what_of-dwords (what.LogUserData true queue) = refl
what_of-dwords (what.LogUserData false queue) = refl
what_of-dwords (what.TrackMemory true) = refl
what_of-dwords (what.TrackMemory false) = refl
what_of-dwords (what.MemoryChanges max) = refl
what_of-dwords what.Suspend = refl
what_of-dwords what.Resume = refl
what_of-dwords (what.SetState offset length) = refl
what_of-dwords (what.GetState offset length) = refl
what_of-dwords (what.CreateQueue cells) = refl
what_of-dwords (what.DeleteQueue queue) = refl

bit_within : (b : Bool) → IsWithin (0, 1) (cond b 1 0)
bit_within true = (omega arith, omega arith)
bit_within false = (omega arith, omega arith)

-- the numbers of a command fit their fields
pub record HasSmall (w : What) : Type 0 where
  pub opcode : opcode_of w < 2 ^ 8
  pub select : select_of w < 2 ^ 8
  pub dword_11 : dword_11 w < 2 ^ 32
  pub dword_12 : dword_12 w < 2 ^ 32

pub words_small : (w : What) → IsInRange w → HasSmall w
words_small (what.LogUserData start queue) is = let bit = bit_within start in record { opcode = omega arith; select = omega arith; dword_11 = omega (arith, bit); dword_12 = omega arith }
words_small (what.TrackMemory start) is = let bit = bit_within start in record { opcode = omega arith; select = omega arith; dword_11 = omega (arith, bit); dword_12 = omega arith }
words_small (what.MemoryChanges max) is = record { opcode = omega arith; select = omega arith; dword_11 = omega arith; dword_12 = omega arith }
words_small what.Suspend is = record { opcode = omega arith; select = omega arith; dword_11 = omega arith; dword_12 = omega arith }
words_small what.Resume is = record { opcode = omega arith; select = omega arith; dword_11 = omega arith; dword_12 = omega arith }
words_small (what.SetState offset length) is = record { opcode = omega arith; select = omega arith; dword_11 = omega arith; dword_12 = omega arith }
words_small (what.GetState offset length) is = record { opcode = omega arith; select = omega arith; dword_11 = omega arith; dword_12 = omega arith }
words_small (what.CreateQueue cells) is = record { opcode = omega arith; select = omega arith; dword_11 = omega arith; dword_12 = omega arith }
words_small (what.DeleteQueue queue) is = record { opcode = omega arith; select = omega arith; dword_11 = omega arith; dword_12 = omega arith }

-- Dwords 1 to 15 of a command.

abbrev pub dwords_of : What → List ℕ
dwords_of w = 0 ∷ 0 ∷ 0 ∷ 0 ∷ 0 ∷ 0 ∷ 0 ∷ 0 ∷ 0 ∷ select_of w ∷ dword_11 w ∷ dword_12 w ∷ 0 ∷ 0 ∷ 0 ∷ []

-- dwords that are within the limits of their numbers, the first with number d
abbrev AllWithin : Kind → ℕ → List ℕ → Type 0
AllWithin kind d [] = Unit {0}
AllWithin kind d (x ∷ xs) = IsWithin (limits_of kind d) x × AllWithin kind (d + 1) xs

within_each : (kind : Kind) (d : ℕ) (xs : List ℕ) → AllWithin kind d xs → (i : ℕ) → i < length xs → IsWithin (limits_of kind (d + i)) (slice_index xs i)
within_each kind d [] all i there = absurd (omega arith)
within_each kind d (x ∷ xs) all zero there = subst (λ n. IsWithin (limits_of kind n) x) (sym (add-zero d)) all.0
within_each kind d (x ∷ xs) all (suc i) there =
    let moved : d + 1 + i ≡ d + suc i = omega arith in
    subst (λ n. IsWithin (limits_of kind n) (slice_index xs i)) moved (within_each kind (d + 1) xs all.1 i (omega arith))

select_is : (w : What) → select_of w ≡ selector (kind_of w)
select_is (what.LogUserData start queue) = refl
select_is (what.TrackMemory start) = refl
select_is (what.MemoryChanges max) = refl
select_is what.Suspend = refl
select_is what.Resume = refl
select_is (what.SetState offset length) = refl
select_is (what.GetState offset length) = refl
select_is (what.CreateQueue cells) = refl
select_is (what.DeleteQueue queue) = refl

numbers_within : (w : What) → IsInRange w → IsWithin (limits_11 (kind_of w)) (dword_11 w) × IsWithin (limits_12 (kind_of w)) (dword_12 w)
numbers_within (what.LogUserData start queue) is = (bit_within start, (omega arith, omega arith))
numbers_within (what.TrackMemory start) is = (bit_within start, (omega arith, omega arith))
numbers_within (what.MemoryChanges max) is = (is, (omega arith, omega arith))
numbers_within what.Suspend is = ((omega arith, omega arith), (omega arith, omega arith))
numbers_within what.Resume is = ((omega arith, omega arith), (omega arith, omega arith))
numbers_within (what.SetState offset length) is = ((omega arith, omega arith), (is.1, is.2))
numbers_within (what.GetState offset length) is = ((omega arith, omega arith), (is.1, is.2))
numbers_within (what.CreateQueue cells) is = (is, (omega arith, omega arith))
numbers_within (what.DeleteQueue queue) is = ((omega arith, omega arith), (omega arith, omega arith))

all_within : (kind : Kind) (s x y : ℕ) → s ≡ selector kind → IsWithin (limits_11 kind) x → IsWithin (limits_12 kind) y
    → AllWithin kind 1 (0 ∷ 0 ∷ 0 ∷ 0 ∷ 0 ∷ 0 ∷ 0 ∷ 0 ∷ 0 ∷ s ∷ x ∷ y ∷ 0 ∷ 0 ∷ 0 ∷ [])
all_within kind s x y is first second =
    let zero_is : IsWithin (0, 0) 0 = (omega arith, omega arith) in
    let z = zero_is in
    (z, (z, (z, (z, (z, (z, (z, (z, (z, ((omega arith, omega arith), (first, (second, (z, (z, (z, tt)))))))))))))))

-- each dword of a command is within the limits of its number
pub dword_within : (w : What) (d : ℕ) → IsInRange w → 1 ≤ d → d < 16 → IsWithin (limits_of (kind_of w) d) (slice_index (dwords_of w) (d - 1))
dword_within w d is some few =
    let numbers = numbers_within w is in
    let at : 1 + (d - 1) ≡ d = omega arith in
    subst (λ n. IsWithin (limits_of (kind_of w) n) (slice_index (dwords_of w) (d - 1))) at
    (within_each (kind_of w) 1 (dwords_of w) (all_within (kind_of w) (select_of w) (dword_11 w) (dword_12 w) (select_is w) numbers.0 numbers.1) (d - 1) (omega arith))

-- but for dwords 11 and 12 there is one number within the limits
limits_only : (kind : Kind) (d : ℕ) → d ≢ 11 → d ≢ 12 → limits_of kind d ≡ only (cond (d == 10) (selector kind) 0)
limits_only kind d not_11 not_12 =
    (λ k. if (d == 10) then only (selector kind) else (if (ne_eqb d 11 not_11 k) then limits_11 kind else (if (ne_eqb d 12 not_12 k) then limits_12 kind else only 0)))
    ∙ elim (d == 10) as (λ b. (if b then only (selector kind) else only 0) ≡ only (cond b (selector kind) 0)) [ true ↦ refl | false ↦ refl ]

pub one_within : (kind : Kind) (d x y : ℕ) → d ≢ 11 → d ≢ 12 → IsWithin (limits_of kind d) x → IsWithin (limits_of kind d) y → x ≡ y
one_within kind d x y not_11 not_12 a b =
    let is = limits_only kind d not_11 not_12 in
    let a' = subst (λ (l : ℕ × ℕ). IsWithin l x) is a in
    let b' = subst (λ (l : ℕ × ℕ). IsWithin l y) is b in
    omega (arith, a', b')

-- the least number is within the limits
least_11 : (kind : Kind) → IsWithin (limits_11 kind) (limits_11 kind).0
least_11 LogUserData = (omega arith, omega arith)
least_11 TrackMemory = (omega arith, omega arith)
least_11 MemoryChanges = (omega arith, omega arith)
least_11 Suspend = (omega arith, omega arith)
least_11 Resume = (omega arith, omega arith)
least_11 SetState = (omega arith, omega arith)
least_11 GetState = (omega arith, omega arith)
least_11 CreateQueue = (omega arith, omega arith)
least_11 DeleteQueue = (omega arith, omega arith)

least_12 : (kind : Kind) → IsWithin (limits_12 kind) (limits_12 kind).0
least_12 LogUserData = (omega arith, omega arith)
least_12 TrackMemory = (omega arith, omega arith)
least_12 MemoryChanges = (omega arith, omega arith)
least_12 Suspend = (omega arith, omega arith)
least_12 Resume = (omega arith, omega arith)
least_12 SetState = (omega arith, omega arith)
least_12 GetState = (omega arith, omega arith)
least_12 CreateQueue = (omega arith, omega arith)
least_12 DeleteQueue = (omega arith, omega arith)

pub least_within_limits : (kind : Kind) (d : ℕ) → IsWithin (limits_of kind d) (limits_of kind d).0
least_within_limits kind d =
    let one : (x : ℕ) → IsWithin (only x) x = λ x. (omega arith, omega arith) in
    elim (d == 10) as (λ a. IsWithin (if a then only (selector kind) else (if (d == 11) then limits_11 kind else (if (d == 12) then limits_12 kind else only 0)))
    (if a then only (selector kind) else (if (d == 11) then limits_11 kind else (if (d == 12) then limits_12 kind else only 0))).0) [
      | true ↦ one (selector kind)
      | false ↦ elim (d == 11) as (λ b. IsWithin (if b then limits_11 kind else (if (d == 12) then limits_12 kind else only 0)) (if b then limits_11 kind else (if (d == 12) then limits_12 kind else only 0)).0) [
        | true ↦ least_11 kind
        | false ↦ elim (d == 12) as (λ e. IsWithin (if e then limits_12 kind else only 0) (if e then limits_12 kind else only 0).0) [ true ↦ least_12 kind | false ↦ one 0 ]
      ]
    ]
