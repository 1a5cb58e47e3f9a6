use Rattle.std.proofs.Common.{◌≡◌, ◌⊎◌, inl, inr, ⊎_elim, ℕ, zero, suc, ◌+◌, ◌<◌, ◌≤◌, ◌||◌, Bool, true, false, cond, List, [], ◌∷◌, ◌++◌, length, set, filter, refl, sym, ap, subst, ◌∙◌, arith}
use Rattle.std.specs.List.{range_with_len}
use Rattle.std.proofs.lemmas.Bool.{cases_eq, cases_lt, eq-eqb}
use Rattle.std.proofs.lemmas.List.{get_or_default, get_or_past, get_or-set_other, get_or-set_same, length-set, same_lists}
use Rattle.nvm_model.specs.declared.trace.Step.{Step}
use Rattle.nvm_model.specs.declared.trace.Step.TheVariants.{Get, Put, Mark}
use Rattle.nvm_model.specs.Chain.{Chain}
use Rattle.nvm_model.specs.Medium.{At, Effect, blocks_with, flat_call}
use Rattle.nvm_model.specs.Owed.{DifferIn, IsAmong, either_of, is_among}
use Rattle.nvm_model.specs.Piece.{block_at}

-- In which blocks two sides may differ, while pieces change one side's and copies bring them to the other.

abbrev Blocks : Type 0
Blocks = List (List ℕ)

-- Numbers among others.

pub among_left : (i : ℕ) (xs ys : List ℕ) → IsAmong i xs → IsAmong i (xs ++ ys)
among_left i [] ys h = absurd h
among_left i (x ∷ xs) ys (inl is) = inl is
among_left i (x ∷ xs) ys (inr h) = inr (among_left i xs ys h)

pub among_right : (i : ℕ) (xs ys : List ℕ) → IsAmong i ys → IsAmong i (xs ++ ys)
among_right i [] ys h = h
among_right i (x ∷ xs) ys h = inr (among_right i xs ys h)

pub among_cases : (i : ℕ) (xs ys : List ℕ) → IsAmong i (xs ++ ys) → IsAmong i xs ⊎ IsAmong i ys
among_cases i [] ys h = inr h
among_cases i (x ∷ xs) ys (inl is) = inl (inl is)
among_cases i (x ∷ xs) ys (inr h) = ⊎_elim (λ a. inl (inr a)) inr (among_cases i xs ys h)

-- all but one of them
among_rest : (i b : ℕ) (front others : List ℕ) → (i ≡ b → ⊥) → IsAmong i (front ++ b ∷ others) → IsAmong i (front ++ others)
among_rest i b front others other h =
    ⊎_elim (λ a. among_left i front others a) (⊎_elim (λ (is : i ≡ b). absurd (other is)) (λ a. among_right i front others a)) (among_cases i front (b ∷ others) h)

-- where all of some are among others
pub differ_more : (count : ℕ) (xs ys : List ℕ) (from to : Blocks) → ((i : ℕ) → i < count → IsAmong i xs → IsAmong i ys) → DifferIn count xs from to → DifferIn count ys from to
differ_more count xs ys from to more d = record {
  from_long = d.from_long;
  to_long = d.to_long;
  same = λ i. ⊎_elim
      (λ (there : i < count). ⊎_elim inl (λ a. inr (more i there a)) (d.same i))
      (λ past. inl (get_or_past to i [] (omega (arith, past, d.to_long)) ∙ sym (get_or_past from i [] (omega (arith, past, d.from_long)))))
      (cases_lt i count);
}

-- where they differ in none they are the same
pub none_differs : (count : ℕ) (from to : Blocks) → DifferIn count [] from to → to ≡ from
none_differs count from to d = same_lists to from (d.to_long ∙ sym d.from_long) (λ i e there.
    get_or_default to i e [] there ∙ ⊎_elim (λ same. same) (λ among. absurd among) (d.same i) ∙ get_or_default from i [] e (omega (arith, there, d.from_long, d.to_long)))

-- What calls change.

-- the block that a call changes, if it changes one
abbrev pub put_at : Step → Bool → List ℕ
put_at (Put b) false = b ∷ []
put_at (Put b) true = []
put_at (Get b) failed = []
put_at (Mark n) failed = []

-- those of several, among all blocks of media of so many each
abbrev pub puts_in : ℕ → List At → List ℕ
puts_in size [] = []
puts_in size (a ∷ calls) = put_at (flat_call size a).step a.call.failed ++ puts_in size calls

-- blocks that are as they were but in these places
pub record ChangeIn (places : List ℕ) (old new : Blocks) : Type 0 where
  pub long : length new ≡ length old
  pub same : (i : ℕ) → (block_at new i ≡ block_at old i) ⊎ IsAmong i places

call_changes : (step : Step) (failed : Bool) (bytes : List ℕ) (old : Blocks) → ChangeIn (put_at step failed) old (blocks_with step failed bytes old)
call_changes (Put b) false bytes old = record {
  long = length-set old b bytes;
  same = λ i. ⊎_elim (λ (is : i ≡ b). inr (inl is)) (λ (other : i ≡ b → ⊥). inl (get_or-set_other old b i bytes [] other)) (cases_eq i b);
}
call_changes (Put b) true bytes old = record { long = refl; same = λ i. inl refl }
call_changes (Get b) failed bytes old = record { long = refl; same = λ i. inl refl }
call_changes (Mark n) failed bytes old = record { long = refl; same = λ i. inl refl }

change_more : (xs ys : List ℕ) (a b c : Blocks) → ChangeIn xs a b → ChangeIn ys b c → ChangeIn (xs ++ ys) a c
change_more xs ys a b c p q = record {
  long = q.long ∙ p.long;
  same = λ i. ⊎_elim (λ same. ⊎_elim (λ first. inl (same ∙ first)) (λ among. inr (among_left i xs ys among)) (p.same i)) (λ among. inr (among_right i xs ys among)) (q.same i);
}

pub calls_change : (size : ℕ) (calls : List At) (old new : Blocks) → Chain (λ x a y. Effect x (flat_call size a) y) old calls new → ChangeIn (puts_in size calls) old new
calls_change size [] old new c = subst (λ (b : Blocks). ChangeIn [] old b) (sym c) (record { long = refl; same = λ i. inl refl })
calls_change size (a ∷ calls) old new c =
    let one = subst (λ (b : Blocks). ChangeIn (put_at (flat_call size a).step a.call.failed) old b) (sym c.1.new_is) (call_changes (flat_call size a).step a.call.failed a.call.bytes old) in
    change_more (put_at (flat_call size a).step a.call.failed) (puts_in size calls) old c.0 new one (calls_change size calls c.0 new c.2)

-- The two sides.

-- one side changed in these places
pub differ_changed : (count : ℕ) (places changed : List ℕ) (from new to : Blocks) → ChangeIn changed from new → DifferIn count places from to → DifferIn count (places ++ changed) new to
differ_changed count places changed from new to c d = record {
  from_long = c.long ∙ d.from_long;
  to_long = d.to_long;
  same = λ i. ⊎_elim
      (λ same. ⊎_elim (λ before. inl (before ∙ sym same)) (λ among. inr (among_left i places changed among)) (d.same i))
      (λ among. inr (among_right i places changed among)) (c.same i);
}

-- a block came over
pub differ_copied : (count b : ℕ) (front others : List ℕ) (from to : Blocks) → b < count → DifferIn count (front ++ b ∷ others) from to → DifferIn count (front ++ others) from (set to b (block_at from b))
differ_copied count b front others from to there d = record {
  from_long = d.from_long;
  to_long = length-set to b (block_at from b) ∙ d.to_long;
  same = λ i. ⊎_elim
      (λ (here : i ≡ b). inl (subst (λ (k : ℕ). block_at (set to b (block_at from b)) k ≡ block_at from k) (sym here) (get_or-set_same to b (block_at from b) [] (omega (arith, d.to_long, there)))))
      (λ (other : i ≡ b → ⊥). ⊎_elim (λ same. inl (get_or-set_other to b i (block_at from b) [] other ∙ same)) (λ among. inr (among_rest i b front others other among)) (d.same i))
      (cases_eq i b);
}

-- What is owed after a round.

either_true : (a b : Bool) → (a ≡ true) ⊎ (b ≡ true) → (a || b) ≡ true
either_true true b h = refl
either_true false b (inl h) = absurd cc
either_true false b (inr h) = h

any_among : (i : ℕ) (xs : List ℕ) → IsAmong i xs → is_among i xs ≡ true
any_among i [] h = absurd h
any_among i (x ∷ xs) (inl is) = either_true _ _ (inl (eq-eqb x i (sym is)))
any_among i (x ∷ xs) (inr h) = either_true _ _ (inr (any_among i xs h))

pub any_left : (i : ℕ) (xs ys : List ℕ) → IsAmong i (xs ++ ys) → (is_among i xs || is_among i ys) ≡ true
any_left i xs ys h = either_true (is_among i xs) (is_among i ys) (⊎_elim (λ a. inl (any_among i xs a)) (λ a. inr (any_among i ys a)) (among_cases i xs ys h))

-- a number that passes the test is kept
kept_here : (b : Bool) (i a : ℕ) (others : List ℕ) → (i ≡ a) ⊎ IsAmong i others → (i ≡ a → b ≡ true) → IsAmong i (cond b (a ∷ others) others)
kept_here true i a others h is = h
kept_here false i a others (inl here) is = let e = is here in absurd cc
kept_here false i a others (inr later) is = later

kept_among : (p : ℕ → Bool) (a n i : ℕ) → p i ≡ true → a ≤ i → i < a + n → IsAmong i (filter p (range_with_len a n))
kept_among p a zero i is from there = absurd (omega (arith, from, there))
kept_among p a (suc n) i is from there =
    kept_here (p a) i a (filter p (range_with_len (a + 1) n))
    (⊎_elim inl (λ (other : i ≡ a → ⊥). inr (kept_among p (a + 1) n i is (omega (arith, from, other)) (omega (arith, there)))) (cases_eq i a))
    (λ here. ap p (sym here) ∙ is)

pub among_either : (count i : ℕ) (xs ys : List ℕ) → i < count → IsAmong i (xs ++ ys) → IsAmong i (either_of count xs ys)
among_either count i xs ys there h = kept_among (λ (n : ℕ). is_among n xs || is_among n ys) 0 count i (any_left i xs ys h) (omega arith) (omega (arith, there))

-- sides that differ in some or others alone differ in the one list of both
pub differ_either : (count : ℕ) (xs ys : List ℕ) (from to : Blocks) → DifferIn count (xs ++ ys) from to → DifferIn count (either_of count xs ys) from to
differ_either count xs ys from to d = differ_more count (xs ++ ys) (either_of count xs ys) from to (λ i there h. among_either count i xs ys there h) d

-- all is owed
among_all : (i a n : ℕ) → a ≤ i → i < a + n → IsAmong i (range_with_len a n)
among_all i a zero from there = absurd (omega (arith, from, there))
among_all i a (suc n) from there = ⊎_elim inl (λ (other : i ≡ a → ⊥). inr (among_all i (a + 1) n (omega (arith, from, other)) (omega (arith, there)))) (cases_eq i a)

pub all_differ : (count : ℕ) (from to : Blocks) → length from ≡ count → length to ≡ count → DifferIn count (range_with_len 0 count) from to
all_differ count from to from_long to_long = differ_more count (range_with_len 0 count) (range_with_len 0 count) from to (λ i there h. h) (record {
  from_long = from_long;
  to_long = to_long;
  same = λ i. ⊎_elim (λ there. inr (among_all i 0 count (omega arith) (omega (arith, there))))
      (λ past. inl (get_or_past to i [] (omega (arith, past, to_long)) ∙ sym (get_or_past from i [] (omega (arith, past, from_long))))) (cases_lt i count);
})
