-- What was read goes on as a script: the lowest numbers stand for those that aren't read yet.
use Rattle.std.proofs.Common.{◌≡◌, ℕ, zero, suc, ◌+◌, ◌-◌, ◌≤◌, true, false, List, [], ◌∷◌, ◌++◌, length, take, drop, set, codes, None, refl, sym, ap, subst, ◌∙◌, append_assoc, arith, inl, inr}
use Rattle.std.specs.List.{AllByRecursion}
use Rattle.std.proofs.lemmas.Bool.{eq-eqb, ne_eqb}
use Rattle.std.proofs.lemmas.List.{append-nil, length-take-le}
use Rattle.std.proofs.lemmas.List.Elements.{All-from_recursion, All-get_or}
use Rattle.nvm_model.specs.declared.script.Act.{Act}
use Rattle.nvm_model.specs.declared.script.Head.{Head}
use Rattle.nvm_model.specs.declared.script.LaneSet.{LaneSet}
use Rattle.nvm_model.specs.declared.script.Script.{Script}
use Rattle.nvm_model.specs.ScriptText.{script_text, IsSet, IsScript}
use Rattle.script.specs.declared.key.Key.{Key}
use Rattle.script.specs.declared.key.Key.TheVariants.{Blocks, Shelf, Lanes, Burst}
use Rattle.script.specs.declared.key.Due.{Due}
use Rattle.script.specs.declared.key.Due.TheVariants.{Title, Number, Lane, Behind, Body, Done}
use Rattle.script.specs.Keys.{with_number, lowest, later_keys, after, earlier}
use Rattle.script.specs.BadLine.{lined, BeginsOf, IsStart}
use Rattle.script.proofs.KeyLaws.{is_later, IsChain, later_chain, place_of, lowest_fits}
use Rattle.script.proofs.StepLaws.{key_line, lane_text}
use Rattle.script.proofs.LineRuns.{lined_append}
use Rattle.script.proofs.ScriptLines.{lanes_list, head_list, body_list, lines_before, lines_after, body_is, text_is, keys_are}
use Rattle.script.proofs.Sounds.{BaseFits, FitsAt, Agrees, number_fits, whole_head, lane_by}

pub record IsBegun (lanes : ℕ) (lines : List (List ℕ)) : Type 0 where
  pub script : Script
  pub fits : IsScript script
  pub same : script.head.lanes ≡ lanes
  pub rest : List ℕ
  pub parts : script_text script ≡ lined lines ++ rest

shorter : (lanes : ℕ) (more lines : List (List ℕ)) (line : List ℕ) → more ≡ lines ++ line ∷ [] → IsBegun lanes more → IsBegun lanes lines
shorter lanes more lines line e b = record {
  script = b.script;
  fits = b.fits;
  same = b.same;
  rest = lined (line ∷ []) ++ b.rest;
  parts = b.parts ∙ ap (λ (ls : List (List ℕ)). lined ls ++ b.rest) e ∙ ap (λ (t : List ℕ). t ++ b.rest) (lined_append lines (line ∷ [])) ∙ append_assoc (lined lines) (lined (line ∷ [])) b.rest;
}

abbrev GoesOn : Due → Type 0
GoesOn d = (h : Head) (done : List (ℕ × Act)) → FitsAt d h done → IsBegun h.lanes (lines_before d h done)

pub sets_few : (h : Head) → length h.sets ≡ 8 → h.lanes ≤ 8 → length (take h.lanes h.sets) ≤ 8
sets_few h eight few = let count = length-take-le h.lanes h.sets (omega (arith, eight)) in omega (arith, count)

body_begun : GoesOn Body
body_begun h done f = record {
  script = record { head = h; acts = done };
  fits = record { head = f.0; acts = f.1; few = f.2 };
  same = refl;
  rest = codes "end\n";
  parts = ap (λ (t : List ℕ). t ++ codes "end\n") (sym (body_is h done (sets_few h f.0.sets.0 f.0.lanes.1)));
}

behind_begun : GoesOn Behind
behind_begun h done f =
    let g : Head = record h { migrate = None } in
    let same : body_list g [] ≡ head_list h = append-nil (head_list h ++ []) ∙ append-nil (head_list h) in
    subst (λ (ls : List (List ℕ)). IsBegun h.lanes ls) same (body_begun g [] (whole_head g f.0 f.1 tt, tt, omega arith))

-- ---- numbers

lanes_kept : (key : Key) (n : ℕ) (h : Head) → is_later key ≡ true → (with_number key n h).lanes ≡ h.lanes
lanes_kept Lanes n h later = absurd cc
lanes_kept key n h later = refl

some_blocks : (key : Key) (h : Head) → is_later key ≡ true → BaseFits key h → 1 ≤ h.blocks
some_blocks Blocks h later b = absurd cc
some_blocks Shelf h later b = absurd cc
some_blocks Lanes h later b = absurd cc
some_blocks key h later b = b.0.1.1.0.0

number_begun : (key : Key) → is_later key ≡ true → GoesOn (after key) → GoesOn (Number key)
number_begun key later more h done f =
    let n : ℕ = lowest key h in
    let g : Head = with_number key n h in
    let fits = number_fits key n h done f (lowest_fits key h later f.0 (some_blocks key h later f.1)) in
    shorter h.lanes (lines_before (after key) g done) (lines_before (Number key) h done) (key_line key n) (lines_after key n h done)
    (subst (λ (m : ℕ). IsBegun m (lines_before (after key) g done)) (lanes_kept key n h later) (more g done fits))

chain_begun : (key : Key) (keys : List Key) → is_later key ≡ true → IsChain key keys → AllByRecursion (λ k. GoesOn (Number k)) (key ∷ keys)
chain_begun key [] later c = (number_begun key later (subst GoesOn (sym c) behind_begun), tt)
chain_begun key (next ∷ keys) later c =
    let others = chain_begun next keys c.0 c.2 in
    (number_begun key later (subst GoesOn (sym c.1) others.0), others)

later_begun : (key : Key) → is_later key ≡ true → GoesOn (Number key)
later_begun key later =
    let p = place_of key later in
    subst (λ (k : Key). GoesOn (Number k)) p.0
    (All-get_or (λ k. GoesOn (Number k)) later_keys (length (earlier key)) Burst p.1 (All-from_recursion (λ k. GoesOn (Number k)) later_keys (chain_begun Burst (drop 1 later_keys) refl later_chain)))

-- ---- lanes

abbrev a_set : LaneSet
a_set = record { sq = 2; cq = 2; pages = 1 }

a_set_fits : IsSet a_set
a_set_fits = (omega arith, omega arith, omega arith, omega arith, omega arith, omega arith)

lane_begun : (n k : ℕ) (h : Head) (done : List (ℕ × Act)) → FitsAt (Lane k) h done → k + suc n ≡ h.lanes → IsBegun h.lanes (lanes_list k h)
lane_begun zero k h done f e =
    let g : Head = record h { sets = set h.sets k a_set } in
    let next = lane_by k h done (lane_text (k + 1) a_set) a_set f (refl, a_set_fits) true (eq-eqb (k + 1) h.lanes (omega arith)) in
    shorter h.lanes (lines_before (Number Burst) g done) (lanes_list k h) (lane_text (k + 1) a_set) next.lines (later_begun Burst refl g done next.fits)
lane_begun (suc n) k h done f e =
    let g : Head = record h { sets = set h.sets k a_set } in
    let next = lane_by k h done (lane_text (k + 1) a_set) a_set f (refl, a_set_fits) false (ne_eqb (k + 1) h.lanes (λ z. omega arith)) in
    shorter h.lanes (lanes_list (k + 1) g) (lanes_list k h) (lane_text (k + 1) a_set) next.lines (lane_begun n (k + 1) g done next.fits (omega arith))

lanes_begun : (h : Head) (done : List (ℕ × Act)) → FitsAt (Number Lanes) h done → IsBegun 1 (lines_before (Number Lanes) h done)
lanes_begun h done f =
    let g : Head = with_number Lanes 1 h in
    shorter 1 (lines_before (Lane 0) g done) (lines_before (Number Lanes) h done) (key_line Lanes 1) (lines_after Lanes 1 h done)
    (lane_begun 0 0 g done (number_fits Lanes 1 h done f (omega arith, omega arith, refl)) refl)

blocks_begun : (h : Head) (done : List (ℕ × Act)) → FitsAt (Number Blocks) h done → IsBegun 1 (lines_before (Number Blocks) h done)
blocks_begun h done f =
    let g : Head = with_number Blocks 1 h in
    let fg = number_fits Blocks 1 h done f (omega arith, omega arith, refl) in
    let fs = number_fits Shelf 1 g done fg (omega arith, omega arith, refl) in
    let all = lanes_begun (with_number Shelf 1 g) done fs in
    shorter 1 (lines_before (Number Shelf) g done) (lines_before (Number Blocks) h done) (key_line Blocks 1) refl
    (shorter 1 (lines_before (Number Lanes) (with_number Shelf 1 g) done) (lines_before (Number Shelf) g done) (key_line Shelf 1) refl all)

-- ---- all of them

begun : (lanes : ℕ) (lines : List (List ℕ)) → IsBegun lanes lines → BeginsOf lanes (lined lines)
begun lanes lines b = inr (b.script, b.fits, b.same, b.rest, b.parts)

starts : (h : Head) (done : List (ℕ × Act)) → FitsAt (Number Shelf) h done → IsStart (lined (lines_before (Number Shelf) h done))
starts h done f = (h.blocks, f.0.0.0, f.0.0.1, keys_are (Blocks ∷ []) h (codes "nvmigrate script 1" ∷ []))

pub record IsBegin (d : Due) (h : Head) (done : List (ℕ × Act)) : Type 0 where
  pub lanes : ℕ
  pub begins : BeginsOf lanes (lined (lines_before d h done))
  pub agrees : Agrees d h lanes

later_agrees : (key : Key) (h : Head) → is_later key ≡ true → Agrees (Number key) h h.lanes
later_agrees Blocks h later = tt
later_agrees Shelf h later = tt
later_agrees Lanes h later = tt
later_agrees key h later = refl

number_begin : (key : Key) (h : Head) (done : List (ℕ × Act)) → FitsAt (Number key) h done → IsBegin (Number key) h done
number_begin Blocks h done f = record { lanes = 1; begins = begun 1 (lines_before (Number Blocks) h done) (blocks_begun h done f); agrees = tt }
number_begin Shelf h done f = record { lanes = 1; begins = inl (starts h done f); agrees = tt }
number_begin Lanes h done f = record { lanes = 1; begins = begun 1 (lines_before (Number Lanes) h done) (lanes_begun h done f); agrees = tt }
number_begin key h done f = record { lanes = h.lanes; begins = begun h.lanes (lines_before (Number key) h done) (later_begun key refl h done f); agrees = later_agrees key h refl }

pub begin_is : (d : Due) (h : Head) (done : List (ℕ × Act)) → FitsAt d h done → IsBegin d h done
begin_is Title h done f =
    record { lanes = 1; begins = begun 1 [] (shorter 1 (lines_before (Number Blocks) h done) [] (codes "nvmigrate script 1") refl (blocks_begun h done (tt, f.0, f.1))); agrees = tt }
begin_is (Number key) h done f = number_begin key h done f
begin_is (Lane k) h done f =
    let lt = f.1 in
    record { lanes = h.lanes; begins = begun h.lanes (lanes_list k h) (lane_begun (h.lanes - (k + 1)) k h done f (omega arith)); agrees = refl }
begin_is Behind h done f = record { lanes = h.lanes; begins = begun h.lanes (head_list h) (behind_begun h done f); agrees = refl }
begin_is Body h done f = record { lanes = h.lanes; begins = begun h.lanes (body_list h done) (body_begun h done f); agrees = refl }
begin_is Done h done f =
    let s : Script = record { head = h; acts = done } in
    record { lanes = h.lanes; begins = inr (s, record { head = f.0; acts = f.1; few = f.2 }, refl, [], sym (text_is s (sets_few h f.0.sets.0 f.0.lanes.1)) ∙ sym (append-nil (lined (lines_before Done h done)))); agrees = refl }
