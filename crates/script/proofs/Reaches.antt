-- The lines of a script in range are read, one after the other.
use Rattle.std.proofs.Common.{◌≡◌, ℕ, zero, suc, ◌+◌, ◌-◌, ◌^◌, ◌<◌, ◌≤◌, true, false, eqb, ltb, List, [], ◌∷◌, ◌++◌, length, take, drop, replicate, set, get_or, codes, Option, Some, None, refl, sym, ap, subst, ◌∙◌, append_assoc, add-one, arith, decimal}
use Rattle.std.specs.Prelude.{map}
use Rattle.std.specs.List.{AllByRecursion}
use Rattle.std.specs.Str.{bytes_eq}
use Rattle.std.proofs.lemmas.Bool.{eq-eqb, ne_eqb, lt-ltb, false_from_ne_true}
use Rattle.std.proofs.lemmas.List.{append-nil, length_push, length-take-le, take_more, set_at, take-append-drop, get_or-take}
use Rattle.std.proofs.lemmas.List.Elements.{All-from_recursion, All-get_or}
use Rattle.nvm_model.specs.declared.script.Act.{Act}
use Rattle.nvm_model.specs.declared.script.Head.{Head}
use Rattle.nvm_model.specs.declared.script.LaneSet.{LaneSet}
use Rattle.nvm_model.specs.declared.script.Script.{Script}
use Rattle.nvm_model.specs.World.{set_of as lane_set}
use Rattle.nvm_model.specs.ScriptText.{IsSet, IsTurn, IsHead, IsActLine, IsScript}
use Rattle.script.specs.declared.key.Key.{Key}
use Rattle.script.specs.declared.key.Key.TheVariants.{Blocks, Shelf, Lanes, Burst}
use Rattle.script.specs.declared.key.Due.{Due}
use Rattle.script.specs.declared.key.Due.TheVariants.{Title, Number, Lane, Behind, Body, Done}
use Rattle.script.specs.Words.{◌>>=◌, cut_at, words_of, digits_on, number_in as word_number, ranged_in}
use Rattle.script.specs.Keys.{key_word, number, with_number, later_keys, after, no_set, no_head, later_back}
use Rattle.script.specs.ActWords.{line_in}
use Rattle.script.specs.Lines.{title, keyed, lane_words, set_of, State, start, due_next, number_in, with_lane, with_act, body_step, with_turn, step_at, step, run}
use Rattle.script.proofs.WordLaws.{bind_step, words_joined, joined_free}
use Rattle.script.proofs.ValueLaws.{number_again, ranged_again, decimal_plain, is_text}
use Rattle.script.proofs.ActLaws as acts
use Rattle.script.proofs.KeyLaws.{IsChain, later_chain, lanes_head, head_before, range_before, number_small, ranges}
use Rattle.script.proofs.StepLaws.{key_line, key_plain, keyed_free, number_read, lane_text, lane_free, set_again, keyed_words, keyed_again, decimal_other}
use Rattle.script.proofs.LineRuns.{AreLines, lines_append, run_more, run_one}
use Rattle.script.proofs.ScriptLines.{keys_list, first_list, sets_list, lanes_list, head_list, turn_text, turn_list, act_text, body_list, end_line, lines_before, sets_more, acts_more}

-- the head as far as it is read
abbrev pub head_at : Due → Head → Head
head_at Title h = no_head
head_at (Number key) h = head_before key h
head_at (Lane k) h = record (lanes_head h) { sets = take k h.sets ++ replicate (8 - k) no_set }
head_at Behind h = record h { migrate = None }
head_at Body h = h
head_at Done h = h

-- behind the head the line of a move is due only where none was read, and no act
abbrev pub body_due : Option ℕ → List (ℕ × Act) → Due
body_due None [] = Behind
body_due None (a ∷ acts) = Body
body_due (Some turn) acts = Body

abbrev pub due_of : Due → Head → List (ℕ × Act) → Due
due_of Title h acts = Title
due_of (Number key) h acts = Number key
due_of (Lane k) h acts = Lane k
due_of Behind h acts = Behind
due_of Body h acts = body_due h.migrate acts
due_of Done h acts = Done

abbrev pub seen : Due → Head → List (ℕ × Act) → State
seen d h acts = record { due = due_of d h acts; head = head_at d h; acts = acts }

-- the lines before the one that is due are read
pub record IsReached (d : Due) (h : Head) (done : List (ℕ × Act)) : Type 0 where
  pub runs : run start (lines_before d h done) ≡ Some (seen d h done)

reach : (d e : Due) (h : Head) (done more : List (ℕ × Act)) (line : List ℕ) → IsReached d h done → step_at (due_of d h done) (seen d h done) line ≡ Some (seen e h more) → lines_before e h more ≡ lines_before d h done ++ line ∷ [] → IsReached e h more
unfolding step
reach d e h done more line r s l = record { runs = ap (run start) l ∙ run_more start (lines_before d h done) (line ∷ []) (seen d h done) (seen e h more) r.runs (run_one (seen d h done) line (seen e h more) s) }

-- ---- numbers

number_head : (key : Key) (h : Head) (done : List (ℕ × Act)) → record { due = after key; head = with_number key (number key h) (head_before key h); acts = done } ≡ seen (after key) h done
number_head Blocks h done = refl
number_head key h done = refl

same_lines : (key : Key) (h : Head) → lines_before (after key) h [] ≡ lines_before (Number key) h [] ++ key_line key (number key h) ∷ []
same_lines Lanes h = append-nil (first_list h)
same_lines key h = refl

reach_number : (key : Key) (h : Head) → IsHead h → IsReached (Number key) h [] → IsReached (after key) h []
reach_number key h f r =
    let fits = ranges h f key in
    let read = number_read key (head_before key h) (number key h) (number_small key (number key h) h f.blocks.1 fits) (range_before key h fits) in
    reach (Number key) (after key) h [] [] (key_line key (number key h)) r (bind_step (number_in key (head_before key h) (key_line key (number key h))) _ (number key h) _ read (ap (λ (t : State). Some t) (number_head key h []))) (same_lines key h)

-- ---- lanes

zeros : (k : ℕ) → k < 8 → replicate (8 - k) no_set ≡ no_set ∷ replicate (8 - (k + 1)) no_set
zeros k lt = let n : 8 - k ≡ suc (8 - (k + 1)) = omega arith in ap (λ (m : ℕ). replicate m no_set) n

put_set : (k : ℕ) (sets : List LaneSet) → length sets ≡ 8 → k < 8 → set (take k sets ++ replicate (8 - k) no_set) k (get_or sets k no_set) ≡ take (k + 1) sets ++ replicate (8 - (k + 1)) no_set
put_set k sets eight lt =
    let here : LaneSet = get_or sets k no_set in
    ap (λ (t : List LaneSet). set (take k sets ++ t) k here) (zeros k lt)
    ∙ set_at (take k sets) no_set (replicate (8 - (k + 1)) no_set) here k (length-take-le k sets (omega (arith, eight)))
    ∙ sym (append_assoc (take k sets) (here ∷ []) (replicate (8 - (k + 1)) no_set))
    ∙ ap (λ (t : List LaneSet). t ++ replicate (8 - (k + 1)) no_set) (sym (take_more sets k no_set (omega (arith, eight))))

pub a_set : (h : Head) → IsHead h → (k : ℕ) → k < h.lanes → IsSet (get_or h.sets k no_set)
a_set h f k lt =
    let long = f.sets.0 in
    let few = f.lanes.1 in
    let count : length (take h.lanes h.sets) ≡ h.lanes = length-take-le h.lanes h.sets (omega (arith, long)) in
    subst IsSet (get_or-take h.lanes h.sets k no_set lt) (All-get_or IsSet (take h.lanes h.sets) k no_set (omega (arith, count)) (All-from_recursion IsSet (take h.lanes h.sets) f.sets.1))

one_lane : (k : ℕ) (h : Head) → length h.sets ≡ 8 → k < 8 → lanes_list (k + 1) h ≡ lanes_list k h ++ lane_text (k + 1) (get_or h.sets k no_set) ∷ []
one_lane k h eight lt =
    let here : LaneSet = get_or h.sets k no_set in
    let count = length-take-le k h.sets (omega (arith, eight)) in
    let place : 1 + length (take k h.sets) ≡ k + 1 = omega (arith, count) in
    ap (λ (t : List LaneSet). first_list h ++ sets_list 1 t) (take_more h.sets k no_set (omega (arith, eight)))
    ∙ ap (λ (t : List (List ℕ)). first_list h ++ t) (sets_more 1 (take k h.sets) here ∙ ap (λ (j : ℕ). sets_list 1 (take k h.sets) ++ lane_text j here ∷ []) place)
    ∙ sym (append_assoc (first_list h) (sets_list 1 (take k h.sets)) (lane_text (k + 1) here ∷ []))

all_sets : (h : Head) → IsHead h → take h.lanes h.sets ++ replicate (8 - h.lanes) no_set ≡ h.sets
all_sets h f = ap (λ (t : List LaneSet). take h.lanes h.sets ++ t) (sym f.rest) ∙ take-append-drop h.lanes h.sets

reach_lane : (k : ℕ) (h : Head) → IsHead h → k < h.lanes → IsReached (Lane k) h [] → (e : Due) → due_next h.lanes (Lane k) ≡ due_of e h [] → lines_before e h [] ≡ lanes_list (k + 1) h → head_at e h ≡ record (lanes_head h) { sets = take (k + 1) h.sets ++ replicate (8 - (k + 1)) no_set } → IsReached e h []
reach_lane k h f lt r e due lines head =
    let few = f.lanes.1 in
    let here : LaneSet = get_or h.sets k no_set in
    let put = put_set k h.sets f.sets.0 (omega arith) in
    let state : with_lane k here (seen (Lane k) h []) ≡ seen e h [] =
    ap (λ (t : List LaneSet). record { due = due_next h.lanes (Lane k); head = record (lanes_head h) { sets = t }; acts = [] }) put
    ∙ ap (λ (g : Head). record { due = due_next h.lanes (Lane k); head = g; acts = [] }) (sym head)
    ∙ ap (λ (d : Due). record { due = d; head = head_at e h; acts = [] }) due in
    reach (Lane k) e h [] [] (lane_text (k + 1) here) r
    (rw (lt-ltb k 8 (omega arith)) (bind_step (lane_words (k + 1) (words_of (lane_text (k + 1) here)) >>= set_of) _ here _ (set_again (k + 1) here (a_set h f k lt)) (ap (λ (t : State). Some t) state)))
    (lines ∙ one_lane k h f.sets.0 (omega arith))

-- lane k is reached, or they all are
reach_lanes : (h : Head) → IsHead h → IsReached (Lane 0) h [] → (k : ℕ) → k < h.lanes → IsReached (Lane k) h []
reach_lanes h f r zero lt = r
reach_lanes h f r (suc k) lt =
    let other : eqb (k + 1) h.lanes ≡ false = ne_eqb (k + 1) h.lanes (λ e. omega arith) in
    subst (λ (j : ℕ). IsReached (Lane j) h []) (add-one k)
    (reach_lane k h f (omega arith) (reach_lanes h f r k (omega arith)) (Lane (k + 1)) (rw other refl) refl refl)

reach_burst : (h : Head) → IsHead h → IsReached (Lane 0) h [] → IsReached (Number Burst) h []
reach_burst h f r =
    let some = f.lanes.0 in
    let k : ℕ = h.lanes - 1 in
    let all : k + 1 ≡ h.lanes = omega arith in
    let whole : eqb (k + 1) h.lanes ≡ true = eq-eqb (k + 1) h.lanes all in
    reach_lane k h f (omega arith) (reach_lanes h f r k (omega arith)) (Number Burst) (rw whole refl) (ap (λ (n : ℕ). lanes_list n h) (sym all))
    (ap (λ (t : List LaneSet). record (lanes_head h) { sets = t }) (sym (all_sets h f)) ∙ ap (λ (n : ℕ). record (lanes_head h) { sets = take n h.sets ++ replicate (8 - n) no_set }) (sym all))

reach_start : (h : Head) → IsReached Title h []
unfolding run
reach_start h = record { runs = refl }

reach_keys : (key : Key) (keys : List Key) (h : Head) → IsHead h → IsChain key keys → IsReached (Number key) h [] → IsReached Behind h []
reach_keys key [] h f c r = subst (λ (d : Due). IsReached d h []) c (reach_number key h f r)
reach_keys key (next ∷ keys) h f c r = reach_keys next keys h f c.2 (subst (λ (d : Due). IsReached d h []) c.1 (reach_number key h f r))

reach_behind : (h : Head) → IsHead h → IsReached Behind h []
reach_behind h f =
    let blocks : IsReached (Number Blocks) h [] = reach Title (Number Blocks) h [] [] title (reach_start h) refl refl in
    let lanes = reach_number Lanes h f (reach_number Shelf h f (reach_number Blocks h f blocks)) in
    reach_keys Burst (drop 1 later_keys) h f later_chain (reach_burst h f lanes)

-- ---- the body

none_body : (h : Head) → h.migrate ≡ None → IsReached Behind h [] → IsReached Body h []
none_body h e r =
    let lines : lines_before Body h [] ≡ lines_before Behind h [] = append-nil (head_list h ++ turn_list h.migrate) ∙ ap (λ (m : Option ℕ). head_list h ++ turn_list m) e ∙ append-nil (head_list h) in
    let state : seen Behind h [] ≡ seen Body h [] = ap (λ (m : Option ℕ). record { due = body_due m []; head = record h { migrate = m }; acts = [] }) (sym e) in
    record { runs = ap (run start) lines ∙ r.runs ∙ ap (λ (s : State). Some s) state }

reach_body : (h : Head) → IsHead h → (turn : Option ℕ) → h.migrate ≡ turn → IsTurn turn → IsReached Behind h [] → IsReached Body h []
reach_body h f None e t r = none_body h e r
reach_body h f (Some turn) e t r =
    let few = t.1 in
    let lt : turn < 2 ^ 64 = omega arith in
    let words = keyed_words (codes "migrate") turn refl lt in
    reach Behind Body h [] [] (turn_text turn) r
    (ap (λ (w : Option (List ℕ)). with_turn w (seen Behind h []) (turn_text turn)) (ap (keyed (codes "migrate")) words ∙ keyed_again (codes "migrate") (decimal turn))
    ∙ bind_step (ranged_in 1 65535 (decimal turn)) _ turn _ (ranged_again 1 65535 turn lt t.0 t.1) (ap (λ (m : Option ℕ). Some (record { due = body_due m []; head = record h { migrate = m }; acts = [] })) (sym e)))
    (append-nil (head_list h ++ turn_list h.migrate) ∙ ap (λ (m : Option ℕ). head_list h ++ turn_list m) e)

-- ---- acts

pub pages_small : (h : Head) (k : ℕ) → IsHead h → 1 ≤ k → k ≤ h.lanes → (lane_set h k).pages < 2 ^ 64
pages_small h k f low high = let set = a_set h f (k - 1) (omega arith) in let few = set.5 in omega arith

-- an act's line has its words
pub record IsActText (h : Head) (a : ℕ × Act) : Type 0 where
  pub lane : a.0 < 2 ^ 64
  pub small : (lane_set h a.0).pages < 2 ^ 64
  pub words : words_of (act_text a) ≡ decimal a.0 ∷ acts.act_words a.1
  pub free : cut_at 10 (act_text a) ≡ None

pub act_texts : (h : Head) (a : ℕ × Act) → IsHead h → IsActLine h a → IsActText h a
act_texts h a f fits =
    let few = f.lanes.1 in
    let high = fits.1 in
    let lt : a.0 < 2 ^ 64 = omega arith in
    let small = pages_small h a.0 f fits.0 fits.1 in
    let plain = acts.act_plain (lane_set h a.0).pages a.1 small fits.2 in
    record { lane = lt; small = small; words = words_joined (decimal a.0) (acts.act_words a.1) (decimal_plain a.0 lt) plain; free = joined_free (decimal a.0) (acts.act_words a.1) (decimal_plain a.0 lt) plain }

no_number : word_number (codes "end") ≡ None
unfolding digits_on
no_number = refl

no_turn : word_number (codes "migrate") ≡ None
unfolding digits_on
no_turn = refl

end_words : words_of end_line ≡ end_line ∷ []
unfolding words_of
end_words = refl

pub not_end : (h : Head) (a : ℕ × Act) → IsActText h a → bytes_eq (act_text a) end_line ≡ false
not_end h a t =
    false_from_ne_true (bytes_eq (act_text a) end_line) (λ e.
    let words = sym t.words ∙ (ap words_of (is_text (act_text a) end_line e) ∙ end_words) in
    let first : decimal a.0 ≡ end_line = cc in
    let both = sym no_number ∙ (ap word_number (sym first) ∙ number_again a.0 t.lane) in
    absurd cc)

pub act_no_turn : (h : Head) (a : ℕ × Act) → IsActText h a → keyed (codes "migrate") (words_of (act_text a)) ≡ None
act_no_turn h a t = ap (keyed (codes "migrate")) t.words ∙ rw (decimal_other a.0 (codes "migrate") t.lane no_turn) refl

end_no_turn : keyed (codes "migrate") (words_of end_line) ≡ None
end_no_turn = ap (keyed (codes "migrate")) end_words

-- a line that is no move's is read alike behind the head and behind acts
any_body : (turn : Option ℕ) (done : List (ℕ × Act)) (s : State) (line : List ℕ) → keyed (codes "migrate") (words_of line) ≡ None → step_at (body_due turn done) s line ≡ body_step s line
any_body None [] s line e = ap (λ (w : Option (List ℕ)). with_turn w s line) e
any_body None (a ∷ done) s line e = refl
any_body (Some turn) done s line e = refl

body_more : (turn : Option ℕ) (done : List (ℕ × Act)) (a : ℕ × Act) → Body ≡ body_due turn (done ++ a ∷ [])
body_more None [] a = refl
body_more None (b ∷ done) a = refl
body_more (Some turn) done a = refl

reach_act : (h : Head) (done : List (ℕ × Act)) (a : ℕ × Act) → IsHead h → IsActLine h a → length done < 65536 → IsReached Body h done → IsReached Body h (done ++ a ∷ [])
reach_act h done a f fits few r =
    let t = act_texts h a f fits in
    let other = not_end h a t in
    let room : ltb (length done) 65536 ≡ true = lt-ltb (length done) 65536 few in
    let read : line_in h (words_of (act_text a)) ≡ Some a = ap (line_in h) t.words ∙ acts.line_again h a f.lanes.1 t.small fits in
    let made : with_act a (seen Body h done) ≡ Some (seen Body h (done ++ a ∷ [])) = rw room (ap (λ (d : Due). Some (record { due = d; head = h; acts = done ++ a ∷ [] })) (body_more h.migrate done a)) in
    reach Body Body h done (done ++ a ∷ []) (act_text a) r
    (any_body h.migrate done (seen Body h done) (act_text a) (act_no_turn h a t)
    ∙ rw other (bind_step (line_in h (words_of (act_text a))) (λ (b : ℕ × Act). with_act b (seen Body h done)) a (Some (seen Body h (done ++ a ∷ []))) read made))
    (ap (λ (ls : List (List ℕ)). head_list h ++ turn_list h.migrate ++ ls) (acts_more done a) ∙ sym (append_assoc (head_list h ++ turn_list h.migrate) (map act_text done) (act_text a ∷ [])))

reach_acts : (h : Head) (done rest : List (ℕ × Act)) → IsHead h → AllByRecursion (IsActLine h) rest → length done + length rest ≤ 65536 → IsReached Body h done → IsReached Body h (done ++ rest)
reach_acts h done [] f fits few r = subst (λ (x : List (ℕ × Act)). IsReached Body h x) (sym (append-nil done)) r
reach_acts h done (a ∷ rest) f fits few r =
    let len = length_push done a in
    subst (λ (x : List (ℕ × Act)). IsReached Body h x) (append_assoc done (a ∷ []) rest)
    (reach_acts h (done ++ a ∷ []) rest f fits.1 (omega (arith, len)) (reach_act h done a f fits.0 (omega arith) r))

pub reach_done : (s : Script) → IsScript s → IsReached Done s.head s.acts
reach_done s f =
    let body = reach_body s.head f.head s.head.migrate refl f.head.migrate (reach_behind s.head f.head) in
    let all = reach_acts s.head [] s.acts f.head f.acts (let few = f.few in omega arith) body in
    reach Body Done s.head s.acts s.acts end_line all (any_body s.head.migrate s.acts (seen Body s.head s.acts) end_line end_no_turn) refl

-- ---- its lines have no line feeds

keys_free : (keys : List Key) (h : Head) (base : List (List ℕ)) → IsHead h → AreLines base → AreLines (keys_list keys h base)
keys_free [] h base f free = free
keys_free (key ∷ keys) h base f free =
    lines_append (keys_list keys h base) (key_line key (number key h) ∷ []) (keys_free keys h base f free) (keyed_free (key_word key) (number key h) (key_plain key) (number_small key (number key h) h f.blocks.1 (ranges h f key)), tt)

sets_free : (k : ℕ) (sets : List LaneSet) → AllByRecursion IsSet sets → AreLines (sets_list k sets)
sets_free k [] fit = tt
sets_free k (set ∷ sets) fit = (lane_free k set fit.0, sets_free (k + 1) sets fit.1)

turn_free : (turn : Option ℕ) → IsTurn turn → AreLines (turn_list turn)
turn_free None t = tt
turn_free (Some turn) t = let few = t.1 in (keyed_free (codes "migrate") turn refl (omega arith), tt)

acts_free : (h : Head) (done : List (ℕ × Act)) → IsHead h → AllByRecursion (IsActLine h) done → AreLines (map act_text done)
acts_free h [] f fits = tt
acts_free h (a ∷ done) f fits = ((act_texts h a f fits.0).free, acts_free h done f fits.1)

title_free : cut_at 10 title ≡ None
unfolding cut_at
title_free = refl

end_free : cut_at 10 end_line ≡ None
unfolding cut_at
end_free = refl

pub script_free : (s : Script) → IsScript s → AreLines (lines_before Done s.head s.acts)
script_free s f =
    let h : Head = s.head in
    let first = keys_free (Lanes ∷ Shelf ∷ Blocks ∷ []) h (title ∷ []) f.head (title_free, tt) in
    let lanes = lines_append (first_list h) (sets_list 1 (take h.lanes h.sets)) first (sets_free 1 (take h.lanes h.sets) f.head.sets.1) in
    let head = keys_free later_back h (lanes_list h.lanes h) f.head lanes in
    lines_append (body_list h s.acts) (end_line ∷ []) (lines_append (head_list h ++ turn_list h.migrate) (map act_text s.acts) (lines_append (head_list h) (turn_list h.migrate) head (turn_free h.migrate f.head.migrate)) (acts_free h s.acts f.head f.acts)) (end_free, tt)
