-- Positions, and what changes where one of them does.
use Rattle.std.proofs.Common.{◌≡◌, ◌≢◌, ℕ, zero, suc, ◌+◌, ◌-◌, ◌<◌, ◌≤◌, List, [], ◌∷◌, ◌++◌, append-nil, ap, ◌∙◌, arith, cond, eq-eqb, ne_eqb, inl, inr, refl, set, subst, sym, ⊎_elim}
use mathlib.Core.Logic.{dite}
use mathlib.Core.Option.{some, some-injective}
use native.Mathlib.Decide.{ℕ_discrete}
use lib.ListN.{get_elem?}
use Rattle.atomic_table.proofs.Lists.{set_here, set_else}
use Rattle.log_rule.specs.declared.view.Entry.{Entry}
use Rattle.log_rule.specs.declared.view.Lost.{Lost}
use Rattle.log_rule.specs.declared.view.View.{View}
use Rattle.log_rule.specs.Places.{Place, Free, Pending, GivenUp, Published, IsPublished, content, entry, entry_by, posted_by, word_or, words_from}
use Rattle.log_rule.specs.Rule.{AreLost, IsTold, TellsLost}
use Rattle.log_rule.proofs.Lists.{put, put-all, some_length}

-- The kinds of places are apart.
abbrev pub kind : Place → ℕ
kind Free = 0
kind (Pending j) = 1
kind GivenUp = 2
kind (Published j w) = 3

abbrev pub owner : Place → ℕ
owner Free = 0
owner (Pending j) = j
owner GivenUp = 0
owner (Published j w) = j

pub published_is : (x : Place) → IsPublished x → x ≡ Published (owner x) (word_or x 0)
published_is Free is = absurd is
published_is (Pending j) is = absurd is
published_is GivenUp is = absurd is
published_is (Published j w) is = refl

pub is_published : (x : Place) (j w : ℕ) → x ≡ Published j w → IsPublished x
is_published x j w e = subst IsPublished (sym e) tt

pub no_published : (x : Place) → IsPublished x → kind x < 3 → ⊥
no_published Free is less = is
no_published (Pending j) is less = is
no_published GivenUp is less = is
no_published (Published j w) is less = absurd (omega arith)

-- a place with no word
pub hollow : (x : Place) (d : ℕ) → kind x < 3 → word_or x d ≡ d
hollow Free d k = refl
hollow (Pending j) d k = refl
hollow GivenUp d k = refl
hollow (Published j w) d k = absurd (omega arith)

pub no_entry : (j p : ℕ) (x : Place) → kind x < 3 → entry_by j p x ≡ []
no_entry j p Free k = refl
no_entry j p (Pending i) k = refl
no_entry j p GivenUp k = refl
no_entry j p (Published i w) k = absurd (omega arith)

pub entry_mine : (j p w : ℕ) → entry_by j p (Published j w) ≡ entry p w ∷ []
entry_mine j p w = ap (λ b. cond b (entry p w ∷ []) []) (eq-eqb j j refl)

pub entry_else : (j p : ℕ) (x : Place) → ((w : ℕ) → x ≢ Published j w) → entry_by j p x ≡ []
entry_else j p Free ne = refl
entry_else j p (Pending i) ne = refl
entry_else j p GivenUp ne = refl
entry_else j p (Published i w) ne = ap (λ b. cond b (entry p w ∷ []) []) (ne_eqb i j (λ e. ne w (ap (λ k. Published k w) e)))

-- what so many positions say is the same where they are
pub posted_same : (P Q : ℕ → Place) (j a k : ℕ) → ((q : ℕ) → a ≤ q → q < a + k → entry_by j q (P q) ≡ entry_by j q (Q q)) → posted_by P j a k ≡ posted_by Q j a k
posted_same P Q j a zero same = refl
posted_same P Q j a (suc k) same = ap (λ (l : List Entry). l ++ entry_by j (a + k) (P (a + k))) (posted_same P Q j a k (λ q le lt. same q le (omega arith)))
    ∙ ap (λ (l : List Entry). posted_by Q j a k ++ l) (same (a + k) (omega arith) (omega arith))

pub words_same : (P Q : ℕ → Place) (a k : ℕ) → ((q : ℕ) → a ≤ q → q < a + k → P q ≡ Q q) → words_from P a k ≡ words_from Q a k
words_same P Q a zero same = refl
words_same P Q a (suc k) same = ap (λ (l : List ℕ). l ++ word_or (P (a + k)) 0 ∷ []) (words_same P Q a k (λ q le lt. same q le (omega arith)))
    ∙ ap (λ (x : Place). words_from Q a k ++ word_or x 0 ∷ []) (same (a + k) (omega arith) (omega arith))

-- positions with no entry of the seat add none
pub posted_none : (P : ℕ → Place) (j a k more : ℕ) → ((q : ℕ) → a + k ≤ q → q < a + (k + more) → entry_by j q (P q) ≡ []) → posted_by P j a (k + more) ≡ posted_by P j a k
posted_none P j a k zero nil = let e : k + zero ≡ k = omega arith in ap (posted_by P j a) e
posted_none P j a k (suc more) nil =
    let e : k + suc more ≡ suc (k + more) = omega arith in
    ap (posted_by P j a) e ∙ (ap (λ (l : List Entry). posted_by P j a (k + more) ++ l) (nil (a + (k + more)) (omega arith) (omega arith))
    ∙ (append-nil (posted_by P j a (k + more)) ∙ posted_none P j a k more (λ q le lt. nil q le (omega arith))))

-- the entry of the seat's last position stands at the end
pub posted_last : (P : ℕ → Place) (j a k more w : ℕ) → P (a + k) ≡ Published j w → ((q : ℕ) → a + k < q → q < a + (suc k + more) → entry_by j q (P q) ≡ [])
    → posted_by P j a (suc k + more) ≡ posted_by P j a k ++ entry (a + k) w ∷ []
posted_last P j a k more w is nil = posted_none P j a (suc k) more (λ q le lt. nil q (omega arith) lt)
    ∙ ap (λ (l : List Entry). posted_by P j a k ++ l) (ap (entry_by j (a + k)) is ∙ entry_mine j (a + k) w)

-- a place with no word becomes another with none
pub content_kept : (n : ℕ) (P : ℕ → Place) (q : ℕ) (x : Place) (p : ℕ) → kind (P q) < 3 → kind x < 3 → content n (put P q x) p ≡ content n P p
content_kept n P q x p was is =
    let at : (y d : ℕ) → word_or (put P q x y) d ≡ word_or (P y) d = λ y d. put-all (λ (i : ℕ) (z : Place). word_or z d ≡ word_or (P i) d) P q x y (hollow x d is ∙ sym (hollow (P q) d was)) (λ _. refl) in
    at p (word_or (put P q x (p - n)) 0) ∙ ap (word_or (P p)) (at (p - n) 0)

pub lost_kept : (n : ℕ) (P Q : ℕ → Place) (xs : List Lost) → ((p : ℕ) → P p ≡ GivenUp → Q p ≡ GivenUp) → AreLost n P xs → AreLost n Q xs
lost_kept n P Q [] same are = tt
lost_kept n P Q (x ∷ xs) same are = (same x.at are.0, are.1, lost_kept n P Q xs same are.2)

pub lost_more : (n : ℕ) (P : ℕ → Place) (xs ys : List Lost) → AreLost n P xs → AreLost n P ys → AreLost n P (xs ++ ys)
lost_more n P [] ys are more = more
lost_more n P (x ∷ xs) ys are more = (are.0, are.1, lost_more n P xs ys are.2 more)

pub tells_left : (p : ℕ) (xs ys : List Lost) → TellsLost p xs → TellsLost p (xs ++ ys)
tells_left p [] ys told = absurd told
tells_left p (x ∷ xs) ys told = ⊎_elim inl (λ (r : TellsLost p xs). inr (tells_left p xs ys r)) told

pub tells_right : (p : ℕ) (xs ys : List Lost) → TellsLost p ys → TellsLost p (xs ++ ys)
tells_right p [] ys told = told
tells_right p (x ∷ xs) ys told = inr (tells_right p xs ys told)

-- a view that tells as much as the one before
pub told_set : (views : List View) (j p : ℕ) (v w : View) → get_elem? views j ≡ some v → (TellsLost p v.lost → TellsLost p w.lost) → IsTold views p → IsTold (set views j w) p
told_set views j p v w me more (i, u, at, tells) = dite (ℕ_discrete i j)
    (λ e. (j, w, set_here views j w (some_length views j v me), more (subst (λ (z : View). TellsLost p z.lost) (some-injective u v (sym at ∙ (ap (get_elem? views) e ∙ me))) tells)))
    (λ ne. (i, u, set_else views j i w ne ∙ at, tells))

pub is_filled : (x : Place) → kind x ≡ 3 → IsPublished x
is_filled Free e = absurd (omega arith)
is_filled (Pending j) e = absurd (omega arith)
is_filled GivenUp e = absurd (omega arith)
is_filled (Published j w) e = tt

pub few_kinds : (x : Place) → kind x ≢ 3 → kind x < 3
few_kinds Free ne = omega arith
few_kinds (Pending j) ne = omega arith
few_kinds GivenUp ne = omega arith
few_kinds (Published j w) ne = absurd (ne refl)

pub word_is : (x : Place) (d e : ℕ) → IsPublished x → word_or x d ≡ word_or x e
word_is Free d e is = absurd is
word_is (Pending j) d e is = absurd is
word_is GivenUp d e is = absurd is
word_is (Published j w) d e is = refl
