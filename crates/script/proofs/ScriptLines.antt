-- The lines of a script up to each that may be due, and what is read of them.
use Rattle.std.proofs.Common.{◌≡◌, ℕ, suc, ◌+◌, ◌<◌, ◌≤◌, List, [], ◌∷◌, ◌++◌, length, take, codes, Option, Some, None, refl, sym, ap, ◌∙◌, append_assoc, arith, decimal}
use Rattle.std.specs.Prelude.{map}
use Rattle.std.specs.List.{flat_map}
use Rattle.std.proofs.lemmas.List.{append-nil}
use Rattle.std.proofs.lemmas.Fmt.{decimal_digit}
use Rattle.nvm_model.specs.declared.script.Act.{Act}
use Rattle.nvm_model.specs.declared.script.Head.{Head}
use Rattle.nvm_model.specs.declared.script.LaneSet.{LaneSet}
use Rattle.nvm_model.specs.declared.script.Script.{Script}
use Rattle.nvm_model.specs.ScriptText.{lane_line, lane_lines, migrate_line, head_text, act_line, script_text}
use Rattle.script.specs.declared.key.Key.{Key}
use Rattle.script.specs.declared.key.Key.TheVariants.{Blocks, Shelf, Lanes}
use Rattle.script.specs.declared.key.Due.{Due}
use Rattle.script.specs.declared.key.Due.TheVariants.{Title, Number, Lane, Behind, Body, Done}
use Rattle.script.specs.Keys.{key_word, number, with_number, after, earlier, later_back}
use Rattle.script.specs.Lines.{title}
use Rattle.script.specs.BadLine.{lined}
use Rattle.script.proofs.WordLaws.{spaced}
use Rattle.script.proofs.ActLaws.{act_words, act_line_is}
use Rattle.script.proofs.StepLaws.{keyed_line, key_line, lane_text}
use Rattle.script.proofs.LineRuns.{lined_append}

abbrev pub keys_list : List Key → Head → List (List ℕ) → List (List ℕ)
keys_list [] h base = base
keys_list (key ∷ keys) h base = keys_list keys h base ++ key_line key (number key h) ∷ []

abbrev pub first_list : Head → List (List ℕ)
first_list h = keys_list (Lanes ∷ Shelf ∷ Blocks ∷ []) h (title ∷ [])

-- the lines of lanes, the first of them lane k
abbrev pub sets_list : ℕ → List LaneSet → List (List ℕ)
sets_list k [] = []
sets_list k (set ∷ sets) = lane_text k set ∷ sets_list (k + 1) sets

-- up to so many lanes
abbrev pub lanes_list : ℕ → Head → List (List ℕ)
lanes_list k h = first_list h ++ sets_list 1 (take k h.sets)

abbrev pub base_list : Key → Head → List (List ℕ)
base_list Blocks h = title ∷ []
base_list Shelf h = title ∷ []
base_list Lanes h = title ∷ []
base_list key h = lanes_list h.lanes h

abbrev pub head_list : Head → List (List ℕ)
head_list h = keys_list later_back h (lanes_list h.lanes h)

abbrev pub turn_text : ℕ → List ℕ
turn_text turn = keyed_line (codes "migrate") turn

abbrev pub turn_list : Option ℕ → List (List ℕ)
turn_list None = []
turn_list (Some turn) = turn_text turn ∷ []

abbrev pub act_text : ℕ × Act → List ℕ
act_text a = decimal a.0 ++ spaced (act_words a.1)

abbrev pub body_list : Head → List (ℕ × Act) → List (List ℕ)
body_list h acts = head_list h ++ turn_list h.migrate ++ map act_text acts

abbrev pub end_line : List ℕ
end_line = codes "end"

-- the lines before the one that is due
abbrev pub lines_before : Due → Head → List (ℕ × Act) → List (List ℕ)
lines_before Title h acts = []
lines_before (Number key) h acts = keys_list (earlier key) h (base_list key h)
lines_before (Lane k) h acts = lanes_list k h
lines_before Behind h acts = head_list h
lines_before Body h acts = body_list h acts
lines_before Done h acts = body_list h acts ++ end_line ∷ []

-- one number more
pub lines_after : (key : Key) (n : ℕ) (h : Head) (acts : List (ℕ × Act)) → lines_before (after key) (with_number key n h) acts ≡ lines_before (Number key) h acts ++ key_line key n ∷ []
lines_after Lanes n h acts = append-nil (lines_before (Number Lanes) h acts ++ key_line Lanes n ∷ [])
lines_after key n h acts = refl

pub sets_more : (k : ℕ) (sets : List LaneSet) (set : LaneSet) → sets_list k (sets ++ set ∷ []) ≡ sets_list k sets ++ lane_text (k + length sets) set ∷ []
sets_more k [] set = let n : k ≡ k + 0 = omega arith in ap (λ (j : ℕ). lane_text j set ∷ []) n
sets_more k (first ∷ sets) set = let n : k + 1 + length sets ≡ k + suc (length sets) = omega arith in ap (λ (ls : List (List ℕ)). lane_text k first ∷ ls) (sets_more (k + 1) sets set ∙ ap (λ (j : ℕ). sets_list (k + 1) sets ++ lane_text j set ∷ []) n)

pub acts_more : (done : List (ℕ × Act)) (a : ℕ × Act) → map act_text (done ++ a ∷ []) ≡ map act_text done ++ act_text a ∷ []
acts_more [] a = refl
acts_more (b ∷ done) a = ap (λ (ls : List (List ℕ)). act_text b ∷ ls) (acts_more done a)

-- ---- the text

lane_is : (k : ℕ) (set : LaneSet) → k < 10 → lane_text k set ++ 10 ∷ [] ≡ lane_line k set
lane_is k set few = let digit = decimal_digit k few in rw digit (simp append_assoc)

lanes_are : (k : ℕ) (sets : List LaneSet) → k + length sets ≤ 9 → lined (sets_list k sets) ≡ lane_lines k sets
lanes_are k [] few = refl
lanes_are k (set ∷ sets) few = ap (λ (t : List ℕ). t ++ lined (sets_list (k + 1) sets)) (lane_is k set (omega arith)) ∙ ap (λ (t : List ℕ). lane_line k set ++ t) (lanes_are (k + 1) sets (omega arith))

keyed_text : (word : List ℕ) (n : ℕ) → lined (keyed_line word n ∷ []) ≡ word ++ 32 ∷ (decimal n ++ 10 ∷ [])
keyed_text word n = append-nil (keyed_line word n ++ 10 ∷ []) ∙ append_assoc word (32 ∷ decimal n) (10 ∷ [])

turn_is : (turn : Option ℕ) → lined (turn_list turn) ≡ migrate_line turn
turn_is None = refl
turn_is (Some turn) = keyed_text (codes "migrate") turn

acts_are : (acts : List (ℕ × Act)) → lined (map act_text acts) ≡ flat_map act_line acts
acts_are [] = refl
acts_are (a ∷ acts) = ap (λ (t : List ℕ). t ++ lined (map act_text acts)) (sym (act_line_is a.0 a.1)) ∙ ap (λ (t : List ℕ). act_line a ++ t) (acts_are acts)

-- lines of numbers, one behind the other
abbrev pub keys_text : List Key → Head → List ℕ → List ℕ
keys_text [] h base = base
keys_text (key ∷ keys) h base = keys_text keys h base ++ (key_word key ++ 32 ∷ (decimal (number key h) ++ 10 ∷ []))

pub keys_are : (keys : List Key) (h : Head) (base : List (List ℕ)) → lined (keys_list keys h base) ≡ keys_text keys h (lined base)
keys_are [] h base = refl
keys_are (key ∷ keys) h base =
    lined_append (keys_list keys h base) (key_line key (number key h) ∷ [])
    ∙ ap (λ (t : List ℕ). t ++ lined (key_line key (number key h) ∷ [])) (keys_are keys h base)
    ∙ ap (λ (t : List ℕ). keys_text keys h (lined base) ++ t) (keyed_text (key_word key) (number key h))

first_is : (h : Head) → lined (first_list h) ≡ keys_text (Lanes ∷ Shelf ∷ Blocks ∷ []) h (codes "nvmigrate script 1\n")
first_is h = keys_are (Lanes ∷ Shelf ∷ Blocks ∷ []) h (title ∷ [])

pub head_is : (h : Head) → length (take h.lanes h.sets) ≤ 8 → lined (head_list h) ++ migrate_line h.migrate ≡ head_text h
head_is h few =
    let keys : List Key = later_back in
    let sets : List (List ℕ) = sets_list 1 (take h.lanes h.sets) in
    let base : lined (lanes_list h.lanes h) ≡ keys_text (Lanes ∷ Shelf ∷ Blocks ∷ []) h (codes "nvmigrate script 1\n") ++ lane_lines 1 (take h.lanes h.sets) =
    lined_append (first_list h) sets ∙ ap (λ (t : List ℕ). t ++ lined sets) (first_is h) ∙ ap (λ (t : List ℕ). keys_text (Lanes ∷ Shelf ∷ Blocks ∷ []) h (codes "nvmigrate script 1\n") ++ t) (lanes_are 1 (take h.lanes h.sets) (omega arith)) in
    ap (λ (t : List ℕ). t ++ migrate_line h.migrate) (keys_are keys h (lanes_list h.lanes h) ∙ ap (keys_text keys h) base)

-- a script's text is that of its lines
pub body_is : (h : Head) (acts : List (ℕ × Act)) → length (take h.lanes h.sets) ≤ 8 → lined (body_list h acts) ≡ head_text h ++ flat_map act_line acts
body_is h acts few =
    lined_append (head_list h ++ turn_list h.migrate) (map act_text acts)
    ∙ ap (λ (t : List ℕ). t ++ lined (map act_text acts)) (lined_append (head_list h) (turn_list h.migrate) ∙ ap (λ (t : List ℕ). lined (head_list h) ++ t) (turn_is h.migrate) ∙ head_is h few)
    ∙ ap (λ (t : List ℕ). head_text h ++ t) (acts_are acts)

pub text_is : (s : Script) → length (take s.head.lanes s.head.sets) ≤ 8 → lined (lines_before Done s.head s.acts) ≡ script_text s
text_is s few = lined_append (body_list s.head s.acts) (end_line ∷ []) ∙ ap (λ (t : List ℕ). t ++ codes "end\n") (body_is s.head s.acts few)
