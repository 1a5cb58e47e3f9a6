-- Lines and their words: what is joined is cut again.
use Rattle.std.proofs.Common.{◌≡◌, ℕ, zero, suc, ◌<◌, ◌≤◌, ◌⊎◌, Bool, true, false, cond, eqb, ltb, List, [], ◌∷◌, ◌++◌, length, take, drop, get_or, Option, Some, None, refl, sym, ap, subst, ◌∙◌, arith, inl, inr}
use Rattle.std.specs.List.{AllByRecursion, flat_map, list_all}
use Rattle.std.proofs.lemmas.Bool.{eqb-true, eq-eqb, ne_eqb, ltb-true, and_parts, cases_Bool}
use Rattle.std.proofs.lemmas.List.{append-nil}
use Rattle.script.specs.Words.{◌>>=◌, behind, cut_at, first_longer, words_of, words_left, next, last}

-- ---- steps

-- the value of a step that gave one
pub bind_some : {A B : Type 0} (r : Option A) (f : A → Option B) (y : B) → (r >>= f) ≡ Some y → (x : A) × (r ≡ Some x) × (f x ≡ Some y)
bind_some (Some x) f y e = (x, refl, e)
bind_some None f y e = absurd cc

-- a step that gives a value, and what goes on from it
pub bind_step : {A B : Type 0} (r : Option A) (f : A → Option B) (x : A) (y : Option B) → r ≡ Some x → f x ≡ y → (r >>= f) ≡ y
bind_step r f x y e g = ap (λ q. q >>= f) e ∙ g

pub some_is : {A : Type 0} (x y : A) → Some x ≡ Some y → x ≡ y
some_is x y e = cc

pub chosen : {A : Type 0} (b : Bool) (x y z : A) → cond b x y ≡ z → ((b ≡ true) × (x ≡ z)) ⊎ ((b ≡ false) × (y ≡ z))
chosen true x y z e = inl (refl, e)
chosen false x y z e = inr (refl, e)

-- ---- a text that is cut

pub cut_found : (end : ℕ) (text : List ℕ) (i : ℕ) → i < length text → ((k : ℕ) → k < i → get_or text k 0 ≡ end → ⊥) → get_or text i 0 ≡ end → cut_at end text ≡ Some (take i text, drop 1 (drop i text))
unfolding cut_at
cut_found end [] i lt before at = absurd (omega arith)
cut_found end (c ∷ cs) zero lt before at = rw (eq-eqb c end at) refl
cut_found end (c ∷ cs) (suc i) lt before at =
    let other : eqb c end ≡ false = ne_eqb c end (before 0 (omega arith)) in
    rw other (ap (behind c) (cut_found end cs i (omega arith) (λ k l. before (suc k) (omega arith)) at))

pub cut_nowhere : (end : ℕ) (text : List ℕ) → ((k : ℕ) → k < length text → get_or text k 0 ≡ end → ⊥) → cut_at end text ≡ None
unfolding cut_at
cut_nowhere end [] none = refl
cut_nowhere end (c ∷ cs) none =
    let other : eqb c end ≡ false = ne_eqb c end (none 0 (omega arith)) in
    rw other (ap (behind c) (cut_nowhere end cs (λ k l. none (suc k) (omega arith))))

-- what is cut off is free of the byte
behind_some : (c : ℕ) (r : Option (List ℕ × List ℕ)) (x : List ℕ × List ℕ) → behind c r ≡ Some x → (y : List ℕ × List ℕ) × (r ≡ Some y) × ((c ∷ y.0, y.1) ≡ x)
behind_some c None x e = absurd cc
behind_some c (Some y) x e = (y, refl, some_is (c ∷ y.0, y.1) x e)

pub cut_takes : (end : ℕ) (text : List ℕ) (x : List ℕ × List ℕ) → cut_at end text ≡ Some x → (text ≡ x.0 ++ end ∷ x.1) × (cut_at end x.0 ≡ None)
unfolding cut_at
cut_takes end [] x e = absurd cc
cut_takes end (c ∷ cs) x e =
    elim (chosen (eqb c end) (Some ([], cs)) (behind c (cut_at end cs)) (Some x) e) [
      | inl h ↦ subst (λ (y : List ℕ × List ℕ). (c ∷ cs ≡ y.0 ++ end ∷ y.1) × (cut_at end y.0 ≡ None)) (some_is ([], cs) x h.1) (ap (λ (d : ℕ). d ∷ cs) (eqb-true c end h.0), refl)
      | inr h ↦
          let y = behind_some c (cut_at end cs) x h.1 in
          let t = cut_takes end cs y.0 y.1 in
          subst (λ (z : List ℕ × List ℕ). (c ∷ cs ≡ z.0 ++ end ∷ z.1) × (cut_at end z.0 ≡ None)) y.2 (ap (λ (r : List ℕ). c ∷ r) t.0, rw h.0 (ap (behind c) t.1))
    ]

behind_none : (c : ℕ) (r : Option (List ℕ × List ℕ)) → behind c r ≡ None → r ≡ None
behind_none c None e = refl
behind_none c (Some y) e = absurd cc

pub free_parts : (end c : ℕ) (cs : List ℕ) → cut_at end (c ∷ cs) ≡ None → (eqb c end ≡ false) × (cut_at end cs ≡ None)
unfolding cut_at
free_parts end c cs e =
    elim (chosen (eqb c end) (Some ([], cs)) (behind c (cut_at end cs)) None e) [
      | inl h ↦ absurd cc
      | inr h ↦ (h.0, behind_none c (cut_at end cs) h.1)
    ]

pub cut_again : (end : ℕ) (front rest : List ℕ) → cut_at end front ≡ None → cut_at end (front ++ end ∷ rest) ≡ Some (front, rest)
unfolding cut_at
cut_again end [] rest free = rw (eq-eqb end end refl) refl
cut_again end (c ∷ cs) rest free = let p = free_parts end c cs free in rw p.0 (ap (behind c) (cut_again end cs rest p.1))

pub free_append : (end : ℕ) (a b : List ℕ) → cut_at end a ≡ None → cut_at end b ≡ None → cut_at end (a ++ b) ≡ None
unfolding cut_at
free_append end [] b fa fb = fb
free_append end (c ∷ cs) b fa fb = let p = free_parts end c cs fa in rw p.0 (ap (behind c) (free_append end cs b p.1 fb))

-- ---- words

abbrev pub is_plain : ℕ → Bool
is_plain c = ltb 32 c

-- a word of bytes that are no spaces and no line feeds
abbrev pub IsPlain : List ℕ → Type 0
IsPlain w = list_all is_plain w ≡ true

pub plain_free : (end : ℕ) (w : List ℕ) → end ≤ 32 → IsPlain w → cut_at end w ≡ None
unfolding cut_at
plain_free end [] few plain = refl
plain_free end (c ∷ cs) few plain =
    let p = and_parts (is_plain c) (list_all is_plain cs) plain in
    let high = ltb-true 32 c p.0 in
    let other : eqb c end ≡ false = ne_eqb c end (λ e. omega arith) in
    rw other (ap (behind c) (plain_free end cs few p.1))

-- words behind a first one, each behind a space
abbrev pub spaced : List (List ℕ) → List ℕ
spaced ws = flat_map (λ w. 32 ∷ w) ws

abbrev pub joined : List (List ℕ) → List ℕ
joined [] = []
joined (w ∷ ws) = w ++ spaced ws

abbrev by_cut : List ℕ → Option (List ℕ × List ℕ) → List (List ℕ)
by_cut text None = text ∷ []
by_cut text (Some x) = x.0 ∷ words_of x.1

longer_by : (c : ℕ) (cs : List ℕ) (r : Option (List ℕ × List ℕ)) → first_longer c (by_cut cs r) ≡ by_cut (c ∷ cs) (behind c r)
longer_by c cs None = refl
longer_by c cs (Some x) = refl

-- a first word is cut off
pub words_by : (text : List ℕ) → words_of text ≡ by_cut text (cut_at 32 text)
unfolding words_of cut_at
words_by [] = refl
words_by (c ∷ cs) =
    elim (cases_Bool (eqb c 32)) [
      | inl h ↦ rw h refl
      | inr h ↦ rw h (ap (first_longer c) (words_by cs) ∙ longer_by c cs (cut_at 32 cs))
    ]

pub words_none : (text : List ℕ) → cut_at 32 text ≡ None → words_of text ≡ text ∷ []
words_none text e = words_by text ∙ ap (by_cut text) e

pub words_some : (text word rest : List ℕ) → cut_at 32 text ≡ Some (word, rest) → words_of text ≡ word ∷ words_of rest
words_some text word rest e = words_by text ∙ ap (by_cut text) e

-- words that are joined are cut again
pub words_joined : (w : List ℕ) (ws : List (List ℕ)) → IsPlain w → AllByRecursion IsPlain ws → words_of (w ++ spaced ws) ≡ w ∷ ws
words_joined w [] plain others = ap words_of (append-nil w) ∙ words_none w (plain_free 32 w (omega arith) plain)
words_joined w (x ∷ ws) plain others =
    words_some (w ++ 32 ∷ (x ++ spaced ws)) w (x ++ spaced ws) (cut_again 32 w (x ++ spaced ws) (plain_free 32 w (omega arith) plain))
    ∙ ap (λ (vs : List (List ℕ)). w ∷ vs) (words_joined x ws others.0 others.1)

joined_longer : (c : ℕ) (ws : List (List ℕ)) → joined (first_longer c ws) ≡ c ∷ joined ws
joined_longer c [] = refl
joined_longer c (w ∷ ws) = refl

-- there is a word in each text
record FirstWord (text : List ℕ) : Type 0 where
  word : List ℕ
  others : List (List ℕ)
  is : words_of text ≡ word ∷ others

first_by : (text : List ℕ) (r : Option (List ℕ × List ℕ)) → words_of text ≡ by_cut text r → FirstWord text
first_by text None e = record { word = text; others = []; is = e }
first_by text (Some x) e = record { word = x.0; others = words_of x.1; is = e }

-- words that are cut are joined again
pub joined_words : (text : List ℕ) → joined (words_of text) ≡ text
unfolding words_of
joined_words [] = refl
joined_words (c ∷ cs) =
    elim (cases_Bool (eqb c 32)) [
      | inl h ↦
          let f = first_by cs (cut_at 32 cs) (words_by cs) in
          let others : f.word ++ spaced f.others ≡ cs = sym (ap joined f.is) ∙ joined_words cs in
          rw h (ap spaced f.is ∙ ap (λ (t : List ℕ). 32 ∷ t) others ∙ ap (λ (d : ℕ). d ∷ cs) (sym (eqb-true c 32 h)))
      | inr h ↦ rw h (joined_longer c (words_of cs) ∙ ap (λ (t : List ℕ). c ∷ t) (joined_words cs))
    ]

-- words that are joined have no line feed
spaced_free : (ws : List (List ℕ)) → AllByRecursion IsPlain ws → cut_at 10 (spaced ws) ≡ None
unfolding cut_at
spaced_free [] plain = refl
spaced_free (w ∷ ws) plain = ap (behind 32) (free_append 10 w (spaced ws) (plain_free 10 w (omega arith) plain.0) (spaced_free ws plain.1))

pub joined_free : (w : List ℕ) (ws : List (List ℕ)) → IsPlain w → AllByRecursion IsPlain ws → cut_at 10 (w ++ spaced ws) ≡ None
joined_free w ws plain others = free_append 10 w (spaced ws) (plain_free 10 w (omega arith) plain) (spaced_free ws others)

-- ---- the words that are left

pub next_cut : (some : Bool) (text word rest : List ℕ) → some ≡ true → cut_at 32 text ≡ Some (word, rest) → next (words_left some text) ≡ Some (word, words_of rest)
next_cut true text word rest h e = ap next (words_some text word rest e)
next_cut false text word rest h e = absurd cc

pub next_all : (some : Bool) (text : List ℕ) → some ≡ true → cut_at 32 text ≡ None → next (words_left some text) ≡ Some (text, [])
next_all true text h e = ap next (words_none text e)
next_all false text h e = absurd cc

some_left : (word text : List ℕ) → FirstWord text → last (word ∷ words_of text) ≡ None
some_left word text f = ap (λ (ws : List (List ℕ)). last (word ∷ ws)) f.is

pub last_cut : (some : Bool) (text : List ℕ) (x : List ℕ × List ℕ) → cut_at 32 text ≡ Some x → last (words_left some text) ≡ None
last_cut true text x e = ap last (words_some text x.0 x.1 e) ∙ some_left x.0 x.1 (first_by x.1 (cut_at 32 x.1) (words_by x.1))
last_cut false text x e = refl

pub last_all : (some : Bool) (text : List ℕ) → some ≡ true → cut_at 32 text ≡ None → last (words_left some text) ≡ Some text
last_all true text h e = ap last (words_none text e)
last_all false text h e = absurd cc
