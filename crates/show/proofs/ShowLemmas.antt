use Rattle.std.proofs.Common.{refl, ◌≡◌, ℕ, ◌+◌, ◌<◌, ◌≤◌, ◌==◌, List, [], ◌∷◌, Option, Result, cond, length, take, filter, get_or, set, sym, ap, subst, ◌∙◌, arith}
use Rattle.std.proofs.lemmas.Grind.{common_steps}
use Rattle.std.proofs.lemmas.Bool.Decides.{nat_tests}
use Rattle.std.proofs.lemmas.List.{length-map, length-set, get_or-replicate}
use Rattle.std.proofs.lemmas.List.Filters.{length-filter_more}
use Rattle.std.proofs.lemmas.List.Sums.{length-filter, count_by-le-length}
use Rattle.mig_base.specs.Stream.{Writes}
use Rattle.mig_base.proofs.WriteLemmas.{IsNumbered}
use Rattle.nvm_model.specs.declared.script.Act.{Act}
use Rattle.nvm_model.specs.declared.script.LaneSet.{LaneSet}
use Rattle.nvm_model.specs.World.{acts_of}
use Rattle.show.specs.ShowText.{lane_line, lane_lines}

pub lanes_are_numbered : (acts : List (ℕ × Act)) → IsNumbered (λ k set. lane_line k set (length (acts_of k acts))) (lane_lines acts)
lanes_are_numbered acts = record { none = λ k. refl; next = λ k set sets. refl }

pub few_of_lane : (k : ℕ) (acts : List (ℕ × Act)) → length (acts_of k acts) ≤ length acts
few_of_lane k acts =
    let of_lane = λ (a : ℕ × Act). a.0 == k in
    omega (arith, length-map (filter of_lane acts) (λ (a : ℕ × Act). a.1), length-filter of_lane acts, count_by-le-length of_lane acts)

-- one act more is one more of its lane
count_more : (k : ℕ) (acts : List (ℕ × Act)) (i : ℕ) (d : ℕ × Act) → i < length acts → length (acts_of k (take (i + 1) acts)) ≡ length (acts_of k (take i acts)) + cond ((get_or acts i d).0 == k) 1 0
count_more k acts i d there =
    let of_lane = λ (a : ℕ × Act). a.0 == k in
    length-map (filter of_lane (take (i + 1) acts)) (λ (a : ℕ × Act). a.1) ∙ length-filter_more of_lane acts i d there
    ∙ ap (λ (n : ℕ). n + cond ((get_or acts i d).0 == k) 1 0) (sym (length-map (filter of_lane (take i acts)) (λ (a : ℕ × Act). a.1)))

-- Where a lane's count is one more, so is the number of its acts, and all other counts are as before.
one_more : (counts : List ℕ) (lane j k : ℕ) (before now : ℕ) → lane < length counts → now ≡ before + cond (lane + 1 == j + 1) 1 0 → get_or counts j 0 ≡ before →
    get_or (set counts lane (get_or counts lane 0 + 1)) j 0 ≡ now
one_more counts lane j k before now within more so = grind (arith, common_steps, nat_tests)

-- a count for each lane
pub record AreCounted (counts : List ℕ) (acts : List (ℕ × Act)) : Type 0 where
  pub long : length counts ≡ 8
  pub each : (i : ℕ) → i < 8 → get_or counts i 0 ≡ length (acts_of (i + 1) acts)

pub none_counted : AreCounted (0 ∷ 0 ∷ 0 ∷ 0 ∷ 0 ∷ 0 ∷ 0 ∷ 0 ∷ []) []
none_counted = record { long = refl; each = λ i lt. get_or-replicate 8 i 0 0 lt }

pub counted_more : (counts : List ℕ) (acts : List (ℕ × Act)) (i lane : ℕ) (d : ℕ × Act) → i < length acts → (get_or acts i d).0 ≡ lane + 1 → lane < 8 →
    AreCounted counts (take i acts) → AreCounted (set counts lane (get_or counts lane 0 + 1)) (take (i + 1) acts)
counted_more counts acts i lane d there is within so = record {
  long = length-set counts lane (get_or counts lane 0 + 1) ∙ so.long;
  each = λ j lt. one_more counts lane j 0 _ _ (omega (arith, so.long)) (rw is at (count_more (j + 1) acts i d there)) (so.each j lt);
}

-- the line of a lane with its count
pub lane_counted : {T E : Type 0} {before after : Option (List ℕ)} {f g : ℕ} {result : Result T E} → (counts : List ℕ) (acts : List (ℕ × Act)) (i : ℕ) (set : LaneSet) → get_or counts i 0 ≡ length (acts_of (i + 1) acts) →
    Writes (lane_line (i + 1) set (get_or counts i 0)) before after f g result → Writes (lane_line (i + 1) set (length (acts_of (i + 1) acts))) before after f g result
lane_counted {before = before} {after = after} {f = f} {g = g} {result = result} counts acts i set is line = subst (λ (n : ℕ). Writes (lane_line (i + 1) set n) before after f g result) is line
