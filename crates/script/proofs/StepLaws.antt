-- Lines of a head: what is read is spelled so and in range, and what is spelled so and in range is read and has its form.
use Rattle.std.proofs.Common.{◌≡◌, ℕ, ◌+◌, ◌^◌, ◌<◌, true, false, cond, List, [], ◌∷◌, ◌++◌, codes, Option, Some, None, refl, sym, ap, subst, ◌∙◌, arith, inl, inr, decimal}
use Rattle.std.specs.List.{AllByRecursion}
use Rattle.std.specs.Str.{bytes_eq}
use Rattle.std.proofs.lemmas.Bool.{and_from, false_from_ne_true, lt-ltb}
use Rattle.std.proofs.lemmas.List.{append-nil}
use Rattle.std.proofs.lemmas.Slice.Eq.{bytes_eq-Decides}
use Rattle.nvm_model.specs.declared.script.Head.{Head}
use Rattle.nvm_model.specs.declared.script.LaneSet.{LaneSet}
use Rattle.nvm_model.specs.ScriptText.{IsSet}
use Rattle.script.specs.declared.key.Key.{Key}
use Rattle.script.specs.declared.key.Key.TheVariants.{Blocks}
use Rattle.script.specs.Words.{◌>>=◌, cut_at, words_of, next, last, number_in as word_number, ranged_in}
use Rattle.script.specs.Keys.{key_word, lowest, highest, are_shelves}
use Rattle.script.specs.Lines.{lead, keyed, LaneWords, lane_words, set_of, is_number, are_numbers, number_in}
use Rattle.script.proofs.WordLaws.{bind_some, bind_step, some_is, chosen, is_plain, IsPlain, spaced, joined, words_joined, joined_words, joined_free}
use Rattle.script.proofs.ValueLaws.{number_again, numeral_again, ranged_takes, ranged_again, decimal_plain, is_text}
use Rattle.script.proofs.ActLaws.{next_takes, last_takes}
use Rattle.script.proofs.KeyLaws.{InRange}

-- ---- words in a row

pub same_text : (w : List ℕ) → bytes_eq w w ≡ true
same_text w = (bytes_eq-Decides w w).1 refl

pub lead_takes : (word : List ℕ) (ws vs : List (List ℕ)) → lead word ws ≡ Some vs → ws ≡ word ∷ vs
lead_takes word [] vs e = absurd cc
lead_takes word (w ∷ ws) vs e =
    elim (chosen (bytes_eq w word) (Some ws) None (Some vs) e) [
      | inl h ↦ let same = is_text w word h.0 in let others = some_is ws vs h.1 in cc
      | inr h ↦ absurd cc
    ]

pub lead_again : (word : List ℕ) (ws : List (List ℕ)) → lead word (word ∷ ws) ≡ Some ws
lead_again word ws = rw (same_text word) refl

pub keyed_takes : (word : List ℕ) (ws : List (List ℕ)) (w : List ℕ) → keyed word ws ≡ Some w → ws ≡ word ∷ w ∷ []
keyed_takes word ws w e =
    let l = bind_some (lead word ws) last w e in
    lead_takes word ws l.0 l.1 ∙ ap (λ (vs : List (List ℕ)). word ∷ vs) (last_takes l.0 w l.2)

pub keyed_again : (word w : List ℕ) → keyed word (word ∷ w ∷ []) ≡ Some w
keyed_again word w = bind_step (lead word (word ∷ w ∷ [])) last (w ∷ []) (Some w) (lead_again word (w ∷ [])) refl

-- a line is its words
pub line_is : (line w : List ℕ) (ws : List (List ℕ)) → words_of line ≡ w ∷ ws → line ≡ w ++ spaced ws
line_is line w ws e = sym (joined_words line) ∙ ap joined e

-- a decimal number isn't another word
pub decimal_other : (n : ℕ) (w : List ℕ) → n < 2 ^ 64 → word_number w ≡ None → bytes_eq (decimal n) w ≡ false
decimal_other n w lt none = false_from_ne_true (bytes_eq (decimal n) w) (λ e. let both = sym none ∙ (ap word_number (sym (is_text (decimal n) w e)) ∙ number_again n lt) in absurd cc)

-- ---- a word and a number

abbrev pub keyed_line : List ℕ → ℕ → List ℕ
keyed_line word n = word ++ 32 ∷ decimal n

pub keyed_is : (word : List ℕ) (n : ℕ) → word ++ spaced (decimal n ∷ []) ≡ keyed_line word n
keyed_is word n = ap (λ (t : List ℕ). word ++ 32 ∷ t) (append-nil (decimal n))

pub keyed_words : (word : List ℕ) (n : ℕ) → IsPlain word → n < 2 ^ 64 → words_of (keyed_line word n) ≡ word ∷ decimal n ∷ []
keyed_words word n plain lt = ap words_of (sym (keyed_is word n)) ∙ words_joined word (decimal n ∷ []) plain (decimal_plain n lt, tt)

pub keyed_free : (word : List ℕ) (n : ℕ) → IsPlain word → n < 2 ^ 64 → cut_at 10 (keyed_line word n) ≡ None
keyed_free word n plain lt = ap (cut_at 10) (sym (keyed_is word n)) ∙ joined_free word (decimal n ∷ []) plain (decimal_plain n lt, tt)

pub keyed_form : (word : List ℕ) (n : ℕ) → IsPlain word → n < 2 ^ 64 → is_number (keyed word (words_of (keyed_line word n))) ≡ true
keyed_form word n plain lt = ap (λ (ws : List (List ℕ)). is_number (keyed word ws)) (keyed_words word n plain lt) ∙ ap is_number (keyed_again word (decimal n)) ∙ numeral_again n lt

pub key_plain : (key : Key) → IsPlain (key_word key)
key_plain Blocks = refl
key_plain key = refl

abbrev pub key_line : Key → ℕ → List ℕ
key_line key n = keyed_line (key_word key) n

pub number_takes : (key : Key) (h : Head) (line : List ℕ) (n : ℕ) → number_in key h line ≡ Some n → (line ≡ key_line key n) × InRange key n h × (n < 2 ^ 64)
number_takes key h line n e =
    let w = bind_some (keyed (key_word key) (words_of line)) (λ (v : List ℕ). ranged_in (lowest key h) (highest key h) v >>= λ m. cond (are_shelves key m h) (Some m) None) n e in
    let v = bind_some (ranged_in (lowest key h) (highest key h) w.0) (λ (m : ℕ). cond (are_shelves key m h) (Some m) None) n w.2 in
    elim (chosen (are_shelves key v.0 h) (Some v.0) None (Some n) v.2) [
      | inl g ↦
          let t = ranged_takes (lowest key h) (highest key h) w.0 v.0 v.1 in
          let words : words_of line ≡ key_word key ∷ decimal v.0 ∷ [] = keyed_takes (key_word key) (words_of line) w.0 w.1 ∙ ap (λ (u : List ℕ). key_word key ∷ u ∷ []) t.0 in
          subst (λ (m : ℕ). (line ≡ key_line key m) × InRange key m h × (m < 2 ^ 64)) (some_is v.0 n g.1) (line_is line (key_word key) (decimal v.0 ∷ []) words ∙ keyed_is (key_word key) v.0, (t.1, t.2, g.0), t.3)
      | inr g ↦ absurd cc
    ]

pub number_read : (key : Key) (h : Head) (n : ℕ) → n < 2 ^ 64 → InRange key n h → number_in key h (key_line key n) ≡ Some n
number_read key h n lt f =
    bind_step (keyed (key_word key) (words_of (key_line key n))) _ (decimal n) _ (ap (keyed (key_word key)) (keyed_words (key_word key) n (key_plain key) lt) ∙ keyed_again (key_word key) (decimal n))
    (bind_step (ranged_in (lowest key h) (highest key h) (decimal n)) _ n _ (ranged_again (lowest key h) (highest key h) n lt f.0 f.1) (rw f.2 refl))

-- ---- lanes

abbrev pub lane_list : ℕ → LaneSet → List (List ℕ)
lane_list k set = ((48 + k) ∷ []) ∷ codes "sq" ∷ decimal set.sq ∷ codes "cq" ∷ decimal set.cq ∷ codes "pages" ∷ decimal set.pages ∷ []

abbrev pub lane_text : ℕ → LaneSet → List ℕ
lane_text k set = codes "lane" ++ spaced (lane_list k set)

lane_words_take : (k : ℕ) (ws : List (List ℕ)) (x : LaneWords) → lane_words k ws ≡ Some x → ws ≡ codes "lane" ∷ ((48 + k) ∷ []) ∷ codes "sq" ∷ x.sq ∷ codes "cq" ∷ x.cq ∷ codes "pages" ∷ x.pages ∷ []
unfolding lane_words
lane_words_take k ws x e =
    let a = bind_some (lead (codes "lane") ws) _ x e in
    let b = bind_some (lead ((48 + k) ∷ []) a.0) _ x a.2 in
    let c = bind_some (lead (codes "sq") b.0) _ x b.2 in
    let sq = bind_some (next c.0) _ x c.2 in
    let d = bind_some (lead (codes "cq") sq.0.1) _ x sq.2 in
    let cq = bind_some (next d.0) _ x d.2 in
    let p = bind_some (keyed (codes "pages") cq.0.1) _ x cq.2 in
    let e0 = lead_takes (codes "lane") ws a.0 a.1 in
    let e1 = lead_takes ((48 + k) ∷ []) a.0 b.0 b.1 in
    let e2 = lead_takes (codes "sq") b.0 c.0 c.1 in
    let e3 = next_takes c.0 sq.0 sq.1 in
    let e4 = lead_takes (codes "cq") sq.0.1 d.0 d.1 in
    let e5 = next_takes d.0 cq.0 cq.1 in
    let e6 = keyed_takes (codes "pages") cq.0.1 p.0 p.1 in
    subst (λ (y : LaneWords). ws ≡ codes "lane" ∷ ((48 + k) ∷ []) ∷ codes "sq" ∷ y.sq ∷ codes "cq" ∷ y.cq ∷ codes "pages" ∷ y.pages ∷ []) (some_is (record { sq = sq.0.0; cq = cq.0.0; pages = p.0 }) x p.2) (cc (e0, e1, e2, e3, e4, e5, e6))

lane_words_again : (k : ℕ) (sq cq pages : List ℕ) → lane_words k (codes "lane" ∷ ((48 + k) ∷ []) ∷ codes "sq" ∷ sq ∷ codes "cq" ∷ cq ∷ codes "pages" ∷ pages ∷ []) ≡ Some (record { sq = sq; cq = cq; pages = pages })
unfolding lane_words
lane_words_again k sq cq pages = rw (same_text ((48 + k) ∷ [])) refl

abbrev made_set : ℕ → ℕ → ℕ → Option LaneSet
made_set sq cq pages = Some (record { sq = sq; cq = cq; pages = pages })

words_are : (w : LaneWords) (sq cq pages : List ℕ) → w.sq ≡ sq → w.cq ≡ cq → w.pages ≡ pages → w ≡ record { sq = sq; cq = cq; pages = pages }
words_are w sq cq pages e f g =
    ap (λ (x : List ℕ). record { sq = x; cq = w.cq; pages = w.pages }) e ∙ ap (λ (x : List ℕ). record { sq = sq; cq = x; pages = w.pages }) f ∙ ap (λ (x : List ℕ). record { sq = sq; cq = cq; pages = x }) g

set_of_takes : (w : LaneWords) (set : LaneSet) → set_of w ≡ Some set → (w ≡ record { sq = decimal set.sq; cq = decimal set.cq; pages = decimal set.pages }) × IsSet set
unfolding set_of
set_of_takes w set e =
    let s = bind_some (ranged_in 2 64 w.sq) _ set e in
    let c = bind_some (ranged_in 2 256 w.cq) _ set s.2 in
    let p = bind_some (ranged_in 1 256 w.pages) _ set c.2 in
    let ts = ranged_takes 2 64 w.sq s.0 s.1 in
    let tc = ranged_takes 2 256 w.cq c.0 c.1 in
    let tp = ranged_takes 1 256 w.pages p.0 p.1 in
    let made : LaneSet = record { sq = s.0; cq = c.0; pages = p.0 } in
    let words = words_are w (decimal s.0) (decimal c.0) (decimal p.0) ts.0 tc.0 tp.0 in
    subst (λ (y : LaneSet). (w ≡ record { sq = decimal y.sq; cq = decimal y.cq; pages = decimal y.pages }) × IsSet y) (some_is made set p.2) (words, (ts.1, ts.2, tc.1, tc.2, tp.1, tp.2))

pub set_takes : (k : ℕ) (line : List ℕ) (set : LaneSet) → (lane_words k (words_of line) >>= set_of) ≡ Some set → (line ≡ lane_text k set) × IsSet set
set_takes k line set e =
    let w = bind_some (lane_words k (words_of line)) set_of set e in
    let t = set_of_takes w.0 set w.2 in
    let words = lane_words_take k (words_of line) w.0 w.1 ∙ ap (λ (y : LaneWords). codes "lane" ∷ ((48 + k) ∷ []) ∷ codes "sq" ∷ y.sq ∷ codes "cq" ∷ y.cq ∷ codes "pages" ∷ y.pages ∷ []) t.0 in
    (line_is line (codes "lane") (lane_list k set) words, t.1)

lane_plain : (k : ℕ) (set : LaneSet) → IsSet set → AllByRecursion IsPlain (lane_list k set)
lane_plain k set f =
    let s = f.1 in
    let c = f.3 in
    let p = f.5 in
    (and_from (is_plain (48 + k)) true (lt-ltb 32 (48 + k) (omega arith)) refl, (refl, (decimal_plain set.sq (omega arith), (refl, (decimal_plain set.cq (omega arith), (refl, (decimal_plain set.pages (omega arith), tt)))))))

pub lane_free : (k : ℕ) (set : LaneSet) → IsSet set → cut_at 10 (lane_text k set) ≡ None
lane_free k set f = joined_free (codes "lane") (lane_list k set) refl (lane_plain k set f)

lane_read : (k : ℕ) (set : LaneSet) → IsSet set → lane_words k (words_of (lane_text k set)) ≡ Some (record { sq = decimal set.sq; cq = decimal set.cq; pages = decimal set.pages })
lane_read k set f = ap (lane_words k) (words_joined (codes "lane") (lane_list k set) refl (lane_plain k set f)) ∙ lane_words_again k (decimal set.sq) (decimal set.cq) (decimal set.pages)

set_of_again : (set : LaneSet) → IsSet set → set_of (record { sq = decimal set.sq; cq = decimal set.cq; pages = decimal set.pages }) ≡ Some set
unfolding set_of
set_of_again set f =
    let s = f.1 in
    let c = f.3 in
    let p = f.5 in
    bind_step (ranged_in 2 64 (decimal set.sq)) _ set.sq _ (ranged_again 2 64 set.sq (omega arith) f.0 f.1)
    (bind_step (ranged_in 2 256 (decimal set.cq)) _ set.cq _ (ranged_again 2 256 set.cq (omega arith) f.2 f.3)
    (bind_step (ranged_in 1 256 (decimal set.pages)) _ set.pages _ (ranged_again 1 256 set.pages (omega arith) f.4 f.5) refl))

pub set_again : (k : ℕ) (set : LaneSet) → IsSet set → (lane_words k (words_of (lane_text k set)) >>= set_of) ≡ Some set
set_again k set f = bind_step (lane_words k (words_of (lane_text k set))) set_of _ _ (lane_read k set f) (set_of_again set f)

pub lane_form : (k : ℕ) (set : LaneSet) → IsSet set → are_numbers (lane_words k (words_of (lane_text k set))) ≡ true
lane_form k set f =
    let s = f.1 in
    let c = f.3 in
    let p = f.5 in
    ap are_numbers (lane_read k set f) ∙ and_from _ _ (and_from _ _ (numeral_again set.sq (omega arith)) (numeral_again set.cq (omega arith))) (numeral_again set.pages (omega arith))
