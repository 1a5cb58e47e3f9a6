-- What is read line by line are the first lines of a script, with their numbers in range.
use Rattle.std.proofs.Common.{◌≡◌, ℕ, ◌+◌, ◌-◌, ◌<◌, ◌≤◌, ◌⊎◌, Bool, true, false, cond, eqb, ltb, List, [], ◌∷◌, ◌++◌, length, take, drop, replicate, set, codes, Option, Some, None, refl, sym, ap, subst, ◌∙◌, append_assoc, arith, inl, inr, decimal}
use Rattle.std.specs.Prelude.{map}
use Rattle.std.specs.List.{AllByRecursion}
use Rattle.std.specs.Str.{bytes_eq}
use Rattle.std.proofs.lemmas.Bool.{eqb-true, eqb-false, ltb-true, lt-ltb, and_from, or_left, or_right}
use Rattle.std.proofs.lemmas.List.{append-nil, length_push, length-set, take_more_set, drop-set-lt, drop-drop, drop-replicate, length-take-le}
use Rattle.nvm_model.specs.declared.script.Act.{Act}
use Rattle.nvm_model.specs.declared.script.Head.{Head}
use Rattle.nvm_model.specs.declared.script.LaneSet.{LaneSet}
use Rattle.nvm_model.specs.World.{set_of as lane_set}
use Rattle.nvm_model.specs.ScriptText.{IsSet, IsTurn, IsHead, IsActLine}
use Rattle.script.specs.declared.key.Key.{Key}
use Rattle.script.specs.declared.key.Key.TheVariants.{Blocks, Shelf, Lanes, Burst}
use Rattle.script.specs.declared.key.Due.{Due}
use Rattle.script.specs.declared.key.Due.TheVariants.{Title, Number, Lane, Behind, Body, Done}
use Rattle.script.specs.Words.{◌>>=◌, words_of, ranged_in, is_numeral}
use Rattle.script.specs.Keys.{key_word, with_number, after, no_set, later_back}
use Rattle.script.specs.ActWords.{line_in, is_act_form}
use Rattle.script.specs.Lines.{title, keyed, lane_words, set_of, is_number, are_numbers, is_body, is_due, State, due_next, number_in, with_lane, with_act, body_step, with_turn, step_at}
use Rattle.script.proofs.WordLaws.{bind_some, some_is, chosen}
use Rattle.script.proofs.ValueLaws.{ranged_takes, is_text, numeral_again}
use Rattle.script.proofs.ActLaws as acts
use Rattle.script.proofs.KeyLaws.{InRange, Fits, FitsBefore, kept, put_fits, shelves_from}
use Rattle.script.proofs.StepLaws.{keyed_takes, keyed_is, keyed_form, key_plain, number_takes, lane_text, set_takes, lane_form, line_is}
use Rattle.script.proofs.ScriptLines.{first_list, sets_list, lanes_list, head_list, turn_text, turn_list, act_text, body_list, end_line, lines_before, lines_after, sets_more, acts_more}
use Rattle.script.proofs.Reaches.{pages_small}

-- the sets of the first lanes, and none behind them
abbrev pub SetsTo : ℕ → Head → Type 0
SetsTo k h = (length h.sets ≡ 8) × AllByRecursion IsSet (take k h.sets) × (drop k h.sets ≡ replicate (8 - k) no_set)

abbrev pub FirstFits : Head → Type 0
FirstFits h = AllByRecursion (λ key. Fits key h) (Lanes ∷ Shelf ∷ Blocks ∷ [])

abbrev pub BaseFits : Key → Head → Type 0
BaseFits Blocks h = SetsTo 0 h
BaseFits Shelf h = SetsTo 0 h
BaseFits Lanes h = SetsTo 0 h
BaseFits key h = FirstFits h × SetsTo h.lanes h

-- no move and no act was read
abbrev pub IsBlank : Head → List (ℕ × Act) → Type 0
IsBlank h done = (h.migrate ≡ None) × (done ≡ [])

-- what is known of what was read
abbrev pub FitsAt : Due → Head → List (ℕ × Act) → Type 0
FitsAt Title h done = SetsTo 0 h × IsBlank h done
FitsAt (Number key) h done = FitsBefore key h × BaseFits key h × IsBlank h done
FitsAt (Lane k) h done = FirstFits h × (k < h.lanes) × SetsTo k h × IsBlank h done
FitsAt Behind h done = AllByRecursion (λ key. Fits key h) later_back × BaseFits Burst h × IsBlank h done
FitsAt Body h done = IsHead h × AllByRecursion (IsActLine h) done × (length done ≤ 65536)
FitsAt Done h done = IsHead h × AllByRecursion (IsActLine h) done × (length done ≤ 65536)

-- the number of lanes, once it is read
abbrev pub Agrees : Due → Head → ℕ → Type 0
Agrees Title h lanes = Unit {0}
Agrees (Number Blocks) h lanes = Unit {0}
Agrees (Number Shelf) h lanes = Unit {0}
Agrees (Number Lanes) h lanes = Unit {0}
Agrees (Number key) h lanes = lanes ≡ h.lanes
Agrees (Lane k) h lanes = lanes ≡ h.lanes
Agrees Behind h lanes = lanes ≡ h.lanes
Agrees Body h lanes = lanes ≡ h.lanes
Agrees Done h lanes = lanes ≡ h.lanes

-- one line more
pub record IsNext (d : Due) (h : Head) (done : List (ℕ × Act)) (line : List ℕ) (u : State) : Type 0 where
  pub fits : FitsAt u.due u.head u.acts
  pub lines : lines_before u.due u.head u.acts ≡ lines_before d h done ++ line ∷ []
  pub formed : is_due d line ≡ true
  pub due : (lanes : ℕ) → Agrees d h lanes → (u.due ≡ Done) ⊎ (due_next lanes d ≡ u.due)
  pub agrees : (lanes : ℕ) → Agrees u.due u.head lanes → Agrees d h lanes

title_next : (h : Head) (done : List (ℕ × Act)) (line : List ℕ) (u : State) → FitsAt Title h done → step_at Title (record { due = Title; head = h; acts = done }) line ≡ Some u → IsNext Title h done line u
title_next h done line u f e =
    elim (chosen (bytes_eq line title) (Some (record { due = Number Blocks; head = h; acts = done })) None (Some u) e) [
      | inl g ↦
          subst (λ (v : State). IsNext Title h done line v) (some_is (record { due = Number Blocks; head = h; acts = done }) u g.1)
          (record { fits = (tt, f.0, f.1); lines = ap (λ (l : List ℕ). l ∷ []) (sym (is_text line title g.0)); formed = g.0; due = λ lanes a. inr refl; agrees = λ lanes a. tt })
      | inr g ↦ absurd cc
    ]

pub number_fits : (key : Key) (n : ℕ) (h : Head) (done : List (ℕ × Act)) → FitsAt (Number key) h done → InRange key n h → FitsAt (after key) (with_number key n h) done
number_fits Lanes n h done f r = ((put_fits Lanes n h r, kept Lanes n h f.0), r.0, f.1, f.2)
number_fits key n h done f r = ((put_fits key n h r, kept key n h f.0), f.1, f.2)

number_agrees : (key : Key) (n : ℕ) (h : Head) (lanes : ℕ) → Agrees (after key) (with_number key n h) lanes → Agrees (Number key) h lanes
number_agrees Blocks n h lanes a = tt
number_agrees Shelf n h lanes a = tt
number_agrees Lanes n h lanes a = tt
number_agrees key n h lanes a = a

number_next : (key : Key) (h : Head) (done : List (ℕ × Act)) (line : List ℕ) (u : State) → FitsAt (Number key) h done → step_at (Number key) (record { due = Number key; head = h; acts = done }) line ≡ Some u → IsNext (Number key) h done line u
number_next key h done line u f e =
    let n = bind_some (number_in key h line) (λ (m : ℕ). Some (record { due = after key; head = with_number key m h; acts = done })) u e in
    let t = number_takes key h line n.0 n.1 in
    subst (λ (v : State). IsNext (Number key) h done line v) (some_is (record { due = after key; head = with_number key n.0 h; acts = done }) u n.2)
    (record {
      fits = number_fits key n.0 h done f t.1;
      lines = lines_after key n.0 h done ∙ ap (λ (l : List ℕ). lines_before (Number key) h done ++ l ∷ []) (sym t.0);
      formed = ap (λ (l : List ℕ). is_number (keyed (key_word key) (words_of l))) t.0 ∙ keyed_form (key_word key) n.0 (key_plain key) t.2;
      due = λ lanes a. inr refl;
      agrees = λ lanes a. number_agrees key n.0 h lanes a;
    })

-- ---- lanes

sets_push : (sets : List LaneSet) (s : LaneSet) → AllByRecursion IsSet sets → IsSet s → AllByRecursion IsSet (sets ++ s ∷ [])
sets_push [] s fit f = (f, tt)
sets_push (x ∷ sets) s fit f = (fit.0, sets_push sets s fit.1 f)

pub one_set : (k : ℕ) (h : Head) (s : LaneSet) → k < 8 → SetsTo k h → IsSet s → SetsTo (k + 1) (record h { sets = set h.sets k s })
one_set k h s lt f fit =
    let eight = f.0 in
    let n : 8 - k - 1 ≡ 8 - (k + 1) = omega arith in (
      length-set h.sets k s ∙ eight,
      subst (λ (t : List LaneSet). AllByRecursion IsSet t) (sym (take_more_set h.sets k s (omega (arith, eight)))) (sets_push (take k h.sets) s f.1 fit),
      drop-set-lt (k + 1) h.sets k s (omega arith) ∙ sym (drop-drop 1 k h.sets) ∙ ap (λ (t : List LaneSet). drop 1 t) f.2 ∙ drop-replicate 1 (8 - k) no_set ∙ ap (λ (m : ℕ). replicate m no_set) n,
    )

pub lane_more : (k : ℕ) (h : Head) (s : LaneSet) → length h.sets ≡ 8 → k < 8 → lanes_list (k + 1) (record h { sets = set h.sets k s }) ≡ lanes_list k h ++ lane_text (k + 1) s ∷ []
lane_more k h s eight lt =
    let count = length-take-le k h.sets (omega (arith, eight)) in
    let place : 1 + length (take k h.sets) ≡ k + 1 = omega (arith, count) in
    ap (λ (t : List LaneSet). first_list h ++ sets_list 1 t) (take_more_set h.sets k s (omega (arith, eight)))
    ∙ ap (λ (t : List (List ℕ)). first_list h ++ t) (sets_more 1 (take k h.sets) s ∙ ap (λ (j : ℕ). sets_list 1 (take k h.sets) ++ lane_text j s ∷ []) place)
    ∙ sym (append_assoc (first_list h) (sets_list 1 (take k h.sets)) (lane_text (k + 1) s ∷ []))

-- behind one more lane there is another, or they are all read
pub lane_by : (k : ℕ) (h : Head) (done : List (ℕ × Act)) (line : List ℕ) (s : LaneSet) → FitsAt (Lane k) h done → (line ≡ lane_text (k + 1) s) × IsSet s
    → (b : Bool) → eqb (k + 1) h.lanes ≡ b → IsNext (Lane k) h done line (record { due = cond b (Number Burst) (Lane (k + 1)); head = record h { sets = set h.sets k s }; acts = done })
lane_by k h done line s f t true e =
    let all = eqb-true (k + 1) h.lanes e in
    let few = f.0.0.1 in
    let lt = f.1 in
    let sets = one_set k h s (omega arith) f.2 t.1 in
    let g : Head = record h { sets = set h.sets k s } in
    record {
      fits = (tt, (f.0, subst (λ (n : ℕ). SetsTo n g) all sets), f.3);
      lines = ap (λ (n : ℕ). lanes_list n g) (sym all) ∙ lane_more k h s f.2.0 (omega arith) ∙ ap (λ (l : List ℕ). lanes_list k h ++ l ∷ []) (sym t.0);
      formed = and_from (ltb k 8) _ (lt-ltb k 8 (omega arith)) (ap (λ (l : List ℕ). are_numbers (lane_words (k + 1) (words_of l))) t.0 ∙ lane_form (k + 1) s t.1);
      due = λ lanes a. inr (ap (λ (n : ℕ). due_next n (Lane k)) a ∙ ap (λ (b : Bool). cond b (Number Burst) (Lane (k + 1))) e);
      agrees = λ lanes a. a;
    }
lane_by k h done line s f t false e =
    let other = eqb-false (k + 1) h.lanes e in
    let few = f.0.0.1 in
    let lt = f.1 in
    record {
      fits = (f.0, omega (arith, other), one_set k h s (omega arith) f.2 t.1, f.3);
      lines = lane_more k h s f.2.0 (omega arith) ∙ ap (λ (l : List ℕ). lanes_list k h ++ l ∷ []) (sym t.0);
      formed = and_from (ltb k 8) _ (lt-ltb k 8 (omega arith)) (ap (λ (l : List ℕ). are_numbers (lane_words (k + 1) (words_of l))) t.0 ∙ lane_form (k + 1) s t.1);
      due = λ lanes a. inr (ap (λ (n : ℕ). due_next n (Lane k)) a ∙ ap (λ (b : Bool). cond b (Number Burst) (Lane (k + 1))) e);
      agrees = λ lanes a. a;
    }

lane_next : (k : ℕ) (h : Head) (done : List (ℕ × Act)) (line : List ℕ) (u : State) → FitsAt (Lane k) h done → step_at (Lane k) (record { due = Lane k; head = h; acts = done }) line ≡ Some u → IsNext (Lane k) h done line u
lane_next k h done line u f e =
    elim (chosen (ltb k 8) (lane_words (k + 1) (words_of line) >>= set_of >>= λ x. Some (with_lane k x (record { due = Lane k; head = h; acts = done }))) None (Some u) e) [
      | inl g ↦
          let s = bind_some (lane_words (k + 1) (words_of line) >>= set_of) (λ (x : LaneSet). Some (with_lane k x (record { due = Lane k; head = h; acts = done }))) u g.1 in
          subst (λ (v : State). IsNext (Lane k) h done line v) (some_is (with_lane k s.0 (record { due = Lane k; head = h; acts = done })) u s.2)
          (lane_by k h done line s.0 f (set_takes (k + 1) line s.0 s.1) (eqb (k + 1) h.lanes) refl)
      | inr g ↦ absurd cc
    ]

-- ---- the body

pub whole_head : (h : Head) → AllByRecursion (λ key. Fits key h) later_back → BaseFits Burst h → IsTurn h.migrate → IsHead h
whole_head h f b t = let shelves = shelves_from h.blocks h.shelf b.0.1.0.2 in assumption

acts_push : (h : Head) (done : List (ℕ × Act)) (a : ℕ × Act) → AllByRecursion (IsActLine h) done → IsActLine h a → AllByRecursion (IsActLine h) (done ++ a ∷ [])
acts_push h [] a fit f = (f, tt)
acts_push h (b ∷ done) a fit f = (fit.0, acts_push h done a fit.1 f)

record IsNextBody (h : Head) (done : List (ℕ × Act)) (line : List ℕ) (u : State) : Type 0 where
  fits : FitsAt u.due u.head u.acts
  lines : lines_before u.due u.head u.acts ≡ body_list h done ++ line ∷ []
  formed : is_body line ≡ true
  due : (u.due ≡ Done) ⊎ (Body ≡ u.due)
  agrees : (lanes : ℕ) → Agrees u.due u.head lanes → lanes ≡ h.lanes

act_next : (d : Due) (h : Head) (done : List (ℕ × Act)) (line : List ℕ) (a : ℕ × Act) (u : State) → FitsAt Body h done → line_in h (words_of line) ≡ Some a → with_act a (record { due = d; head = h; acts = done }) ≡ Some u → IsNextBody h done line u
act_next d h done line a u f read e =
    elim (chosen (ltb (length done) 65536) (Some (record { due = Body; head = h; acts = done ++ a ∷ [] })) None (Some u) e) [
      | inl g ↦
          let t = acts.line_takes h (words_of line) a read in
          let few = f.0.lanes.1 in
          let high = t.1.1 in
          let room = ltb-true (length done) 65536 g.0 in
          let len = length_push done a in
          let is = line_is line (decimal a.0) (acts.act_words a.1) t.0 in
          subst (λ (v : State). IsNextBody h done line v) (some_is (record { due = Body; head = h; acts = done ++ a ∷ [] }) u g.1)
          (record {
            fits = (f.0, acts_push h done a f.1 t.1, omega (arith, len));
            lines = ap (λ (ls : List (List ℕ)). head_list h ++ turn_list h.migrate ++ ls) (acts_more done a) ∙ sym (append_assoc (head_list h ++ turn_list h.migrate) (map act_text done) (act_text a ∷ [])) ∙ ap (λ (l : List ℕ). body_list h done ++ l ∷ []) (sym is);
            formed = or_right (bytes_eq line end_line) (is_act_form (words_of line)) (ap is_act_form t.0 ∙ acts.line_form_again a.0 (lane_set h a.0).pages a.1 (omega arith) (pages_small h a.0 f.0 t.1.0 t.1.1) t.1.2);
            due = inr refl;
            agrees = λ lanes b. b;
          })
      | inr g ↦ absurd cc
    ]

body_next : (d : Due) (h : Head) (done : List (ℕ × Act)) (line : List ℕ) (u : State) → FitsAt Body h done → body_step (record { due = d; head = h; acts = done }) line ≡ Some u → IsNextBody h done line u
body_next d h done line u f e =
    elim (chosen (bytes_eq line end_line) (Some (record { due = Done; head = h; acts = done })) (line_in h (words_of line) >>= λ a. with_act a (record { due = d; head = h; acts = done })) (Some u) e) [
      | inl g ↦
          subst (λ (v : State). IsNextBody h done line v) (some_is (record { due = Done; head = h; acts = done }) u g.1)
          (record { fits = f; lines = ap (λ (l : List ℕ). body_list h done ++ l ∷ []) (sym (is_text line end_line g.0)); formed = or_left (bytes_eq line end_line) (is_act_form (words_of line)) g.0; due = inl refl; agrees = λ lanes a. a })
      | inr g ↦ let a = bind_some (line_in h (words_of line)) (λ (x : ℕ × Act). with_act x (record { due = d; head = h; acts = done })) u g.1 in act_next d h done line a.0 u f a.1 a.2
    ]

turn_next : (h : Head) (done : List (ℕ × Act)) (line : List ℕ) (u : State) (r : Option (List ℕ)) → FitsAt Behind h done → keyed (codes "migrate") (words_of line) ≡ r → with_turn r (record { due = Behind; head = h; acts = done }) line ≡ Some u → IsNext Behind h done line u
turn_next h done line u None f k e =
    let fits : FitsAt Body h done = (whole_head h f.0 f.1 (subst IsTurn (sym f.2.0) tt), subst (λ (x : List (ℕ × Act)). AllByRecursion (IsActLine h) x) (sym f.2.1) tt, subst (λ (x : List (ℕ × Act)). length x ≤ 65536) (sym f.2.1) (omega arith)) in
    let n = body_next Behind h done line u fits e in
    let same : body_list h done ≡ head_list h = ap (λ (x : List (ℕ × Act)). body_list h x) f.2.1 ∙ append-nil (head_list h ++ turn_list h.migrate) ∙ ap (λ (m : Option ℕ). head_list h ++ turn_list m) f.2.0 ∙ append-nil (head_list h) in
    record {
      fits = n.fits;
      lines = n.lines ∙ ap (λ (ls : List (List ℕ)). ls ++ line ∷ []) same;
      formed = or_right (is_number (keyed (codes "migrate") (words_of line))) (is_body line) n.formed;
      due = λ lanes a. n.due;
      agrees = n.agrees;
    }
turn_next h done line u (Some w) f k e =
    let t = bind_some (ranged_in 1 65535 w) (λ (turn : ℕ). Some (record { due = Body; head = record h { migrate = Some turn }; acts = done })) u e in
    let r = ranged_takes 1 65535 w t.0 t.1 in
    let words = keyed_takes (codes "migrate") (words_of line) w k ∙ ap (λ (x : List ℕ). codes "migrate" ∷ x ∷ []) r.0 in
    let is : line ≡ turn_text t.0 = line_is line (codes "migrate") (decimal t.0 ∷ []) words ∙ keyed_is (codes "migrate") t.0 in
    let g : Head = record h { migrate = Some t.0 } in
    subst (λ (v : State). IsNext Behind h done line v) (some_is (record { due = Body; head = g; acts = done }) u t.2)
    (record {
      fits = (whole_head g f.0 f.1 (r.1, r.2), subst (λ (x : List (ℕ × Act)). AllByRecursion (IsActLine g) x) (sym f.2.1) tt, subst (λ (x : List (ℕ × Act)). length x ≤ 65536) (sym f.2.1) (omega arith));
      lines = ap (λ (x : List (ℕ × Act)). body_list g x) f.2.1 ∙ append-nil (head_list h ++ turn_text t.0 ∷ []) ∙ ap (λ (l : List ℕ). head_list h ++ l ∷ []) (sym is);
      formed = or_left (is_number (keyed (codes "migrate") (words_of line))) (is_body line) (ap is_number k ∙ ap is_numeral r.0 ∙ numeral_again t.0 r.3);
      due = λ lanes a. inr refl;
      agrees = λ lanes a. a;
    })

pub next_is : (d : Due) (h : Head) (done : List (ℕ × Act)) (line : List ℕ) (u : State) → FitsAt d h done → step_at d (record { due = d; head = h; acts = done }) line ≡ Some u → IsNext d h done line u
next_is Title h done line u f e = title_next h done line u f e
next_is (Number key) h done line u f e = number_next key h done line u f e
next_is (Lane k) h done line u f e = lane_next k h done line u f e
next_is Behind h done line u f e = turn_next h done line u (keyed (codes "migrate") (words_of line)) f refl e
next_is Body h done line u f e = let n = body_next Body h done line u f e in record { fits = n.fits; lines = n.lines; formed = n.formed; due = λ lanes a. n.due; agrees = n.agrees }
next_is Done h done line u f e = absurd cc
