use Rattle.std.proofs.Common.{◌≡◌, ℕ, ◌+◌, ◌<◌, ◌≤◌, List, [], ◌∷◌, ◌++◌, Option, Some, None, Result, Ok, Err, IsErr, length, take, drop, get_or, refl, sym, ap, subst, ◌∙◌, append_assoc, arith}
use Rattle.std.proofs.Math.Seq.{take-append-add}
use Rattle.std.proofs.lemmas.Grind.{flat_map-append}
use Rattle.std.proofs.lemmas.List.{take-append-le, take-append-drop, take_more, take_all, flat_map_more, length-append, length-take-le, append-nil}
use Rattle.std.specs.List.{flat_map}
use Rattle.mig_base.specs.Count.{HasCause}
use Rattle.mig_base.specs.Stream.{with_more, IsCut, Writes}

-- nothing more
pub with_more_nothing : (told : Option (List ℕ)) → with_more [] told ≡ told
with_more_nothing None = refl
with_more_nothing (Some taken) = ap (λ (t : List ℕ). Some t) (append-nil taken)

-- bytes, and then further bytes
pub with_more_more : (a b : List ℕ) (told : Option (List ℕ)) → with_more b (with_more a told) ≡ with_more (a ++ b) told
with_more_more a b None = refl
with_more_more a b (Some taken) = ap (λ (t : List ℕ). Some t) (append_assoc taken a b)

pub written_more : (a b : List ℕ) (before mid after : Option (List ℕ)) → mid ≡ with_more a before → after ≡ with_more b mid → after ≡ with_more (a ++ b) before
written_more a b before mid after first second = second ∙ ap (λ (t : Option (List ℕ)). with_more b t) first ∙ with_more_more a b before

-- a front of a text is one of a longer text
pub cut_longer : (a b : List ℕ) (before after : Option (List ℕ)) → IsCut a before after → IsCut (a ++ b) before after
cut_longer a b before after cut =
    let n = cut.0 in
    let more = length-append a b in
    (n, omega (arith, cut.1, more), cut.2 ∙ ap (λ (t : List ℕ). with_more t before) (sym (take-append-le n a b cut.1)))

-- a text, and then a front of another
pub cut_after : (a b : List ℕ) (before mid after : Option (List ℕ)) → mid ≡ with_more a before → IsCut b mid after → IsCut (a ++ b) before after
cut_after a b before mid after first cut =
    let n = cut.0 in
    let more = length-append a b in (
      length a + n,
      omega (arith, cut.1, more),
      cut.2 ∙ ap (λ (t : Option (List ℕ)). with_more (take n b) t) first ∙ with_more_more a (take n b) before ∙ ap (λ (t : List ℕ). with_more t before) (sym (take-append-add a b n)),
    )

-- a call of which the count rose, from where it stood before
pub cause_since : {T E : Type 0} {f g h : ℕ} {result : Result T E} → g ≡ f → HasCause g h result → HasCause f h result
cause_since {h = h} {result = result} same cause = subst (λ n. HasCause n h result) same cause

-- the text of the first parts of a list, and of all
pub part_more : {A : Type 0} (part : A → List ℕ) (xs : List A) (i : ℕ) (d : A) → i < length xs → flat_map part (take (i + 1) xs) ≡ flat_map part (take i xs) ++ part (get_or xs i d)
part_more part xs i d there = ap (flat_map part) (take_more xs i d there) ∙ sym (flat_map_more part [] (take i xs) (get_or xs i d))

part_split : {A : Type 0} (part : A → List ℕ) (xs : List A) (i : ℕ) (d : A) → i < length xs → flat_map part xs ≡ (flat_map part (take i xs) ++ part (get_or xs i d)) ++ flat_map part (drop (i + 1) xs)
part_split part xs i d there =
    ap (flat_map part) (sym (take-append-drop (i + 1) xs)) ∙ flat_map-append part (take (i + 1) xs) (drop (i + 1) xs)
    ∙ ap (λ (t : List ℕ). t ++ flat_map part (drop (i + 1) xs)) (part_more part xs i d there)

-- A text was written, and then another.
pub writes_then : {T U E : Type 0} {a b : List ℕ} {before mid after : Option (List ℕ)} {f g h : ℕ} {t : T} {result : Result U E} →
    Writes {T = T} {E = E} a before mid f g (Ok t) → Writes b mid after g h result → Writes (a ++ b) before after f h result
writes_then {result = Ok u} first second = record {
  written = written_more _ _ _ _ _ first.written second.written;
  cut = second.cut;
  cause = cause_since first.cause.calm second.cause;
}
writes_then {result = Err e} first second = record {
  written = second.written;
  cut = cut_after _ _ _ _ _ first.written second.cut;
  cause = cause_since first.cause.calm second.cause;
}

-- A text was written, and then the sink was flushed.
pub writes_flushed : {T U E : Type 0} {a : List ℕ} {before mid after : Option (List ℕ)} {f g h : ℕ} {t : T} {result : Result U E} →
    Writes {T = T} {E = E} a before mid f g (Ok t) → after ≡ mid → HasCause g h result → Writes a before after f h result
writes_flushed {result = Ok u} first kept cause = record { written = kept ∙ first.written; cut = tt; cause = cause_since first.cause.calm cause }
writes_flushed {a = a} {before = before} {result = Err e} first kept cause = record {
  written = tt;
  cut = (length a, omega arith, kept ∙ first.written ∙ ap (λ (t : List ℕ). with_more t before) (sym (take_all (length a) a (omega arith))));
  cause = cause_since first.cause.calm cause;
}

-- A text was cut, so all that goes on with it is.
pub writes_no_more : {T U E G : Type 0} {a : List ℕ} {before after : Option (List ℕ)} {f g : ℕ} {e : E} {result : Result U G} →
    (b : List ℕ) → Writes {T = T} {E = E} a before after f g (Err e) → IsErr result → Writes (a ++ b) before after f g result
writes_no_more {result = Ok u} b cut err = absurd (cc)
writes_no_more {result = Err e} b cut err = record {
  written = cut.written;
  cut = cut_longer _ b _ _ cut.cut;
  cause = record { later = cut.cause.later; calm = tt; failed = λ _. cut.cause.failed refl };
}

pub writes_longer : {T E : Type 0} {a : List ℕ} {before after : Option (List ℕ)} {f g : ℕ} {result : Result T E} →
    (b : List ℕ) → IsErr result → Writes a before after f g result → Writes (a ++ b) before after f g result
writes_longer {result = Ok t} b err cut = absurd (cc)
writes_longer {result = Err e} b err cut = writes_no_more b cut refl

-- No text was written yet.
pub writes_none : {T E : Type 0} {told : Option (List ℕ)} {f : ℕ} {t : T} → Writes {E = E} [] told told f f (Ok t)
writes_none {told = told} = record {
  written = sym (with_more_nothing told);
  cut = tt;
  cause = record { later = omega arith; calm = refl; failed = λ err. absurd (cc) };
}

-- Parts of a list, written one by one: one more, one that was cut, and all.
pub parts_more : {A T U E : Type 0} {before mid after : Option (List ℕ)} {f g h : ℕ} {t : T} {u : U} → (part : A → List ℕ) (xs : List A) (i : ℕ) (d : A) → i < length xs →
    Writes {E = E} (flat_map part (take i xs)) before mid f g (Ok t) → Writes {E = E} (part (get_or xs i d)) mid after g h (Ok u) → Writes {E = E} (flat_map part (take (i + 1) xs)) before after f h (Ok u)
parts_more part xs i d there first second = rw (part_more part xs i d there) (writes_then first second)

pub parts_cut : {A T U V E G : Type 0} {before mid after : Option (List ℕ)} {f g h : ℕ} {t : T} {e : E} {result : Result V G} → (part : A → List ℕ) (xs : List A) (i : ℕ) (d : A) → i < length xs →
    Writes {E = E} (flat_map part (take i xs)) before mid f g (Ok t) → Writes {T = U} {E = E} (part (get_or xs i d)) mid after g h (Err e) → IsErr result → Writes (flat_map part xs) before after f h result
parts_cut part xs i d there first second err =
    rw (part_split part xs i d there) (writes_no_more (flat_map part (drop (i + 1) xs)) (writes_then first second) err)

pub parts_all : {A T E : Type 0} {before after : Option (List ℕ)} {f g : ℕ} {t : T} → (part : A → List ℕ) (xs : List A) (i : ℕ) → length xs ≤ i →
    Writes {E = E} (flat_map part (take i xs)) before after f g (Ok t) → Writes {E = E} (flat_map part xs) before after f g (Ok t)
parts_all part xs i past all = rw (take_all i xs past) at all

-- Parts of a list that know their numbers, each followed by those of the rest.
pub record IsNumbered {A : Type 0} (part : ℕ → A → List ℕ) (texts : ℕ → List A → List ℕ) : Type 0 where
  pub none : (k : ℕ) → texts k [] ≡ []
  pub next : (k : ℕ) (x : A) (xs : List A) → texts k (x ∷ xs) ≡ part k x ++ texts (k + 1) xs

numbered_append : {A : Type 0} {part : ℕ → A → List ℕ} {texts : ℕ → List A → List ℕ} → IsNumbered part texts → (k : ℕ) (front rest : List A) → texts k (front ++ rest) ≡ texts k front ++ texts (k + length front) rest
numbered_append {texts = texts} is k [] rest = let e : k ≡ k + 0 = omega arith in ap (λ (n : ℕ). texts n rest) e ∙ ap (λ (t : List ℕ). t ++ texts (k + 0) rest) (sym (is.none k))
numbered_append {part = part} {texts = texts} is k (x ∷ front) rest =
    let e : k + 1 + length front ≡ k + length (x ∷ front) = omega arith in
    is.next k x (front ++ rest)
    ∙ ap (λ (t : List ℕ). part k x ++ t) (numbered_append is (k + 1) front rest ∙ ap (λ (n : ℕ). texts (k + 1) front ++ texts n rest) e)
    ∙ sym (append_assoc (part k x) (texts (k + 1) front) (texts (k + length (x ∷ front)) rest))
    ∙ ap (λ (t : List ℕ). t ++ texts (k + length (x ∷ front)) rest) (sym (is.next k x front))

numbered_next : {A : Type 0} {part : ℕ → A → List ℕ} {texts : ℕ → List A → List ℕ} → IsNumbered part texts → (xs : List A) (i : ℕ) (d : A) → i < length xs → texts 1 (take (i + 1) xs) ≡ texts 1 (take i xs) ++ part (i + 1) (get_or xs i d)
numbered_next {part = part} {texts = texts} is xs i d there =
    let long : length (take i xs) ≡ i = length-take-le i xs (omega arith) in
    let k : 1 + length (take i xs) ≡ i + 1 = omega (arith, long) in
    let x = get_or xs i d in
    let one : (n : ℕ) → texts n (x ∷ []) ≡ part n x = λ n. is.next n x [] ∙ ap (λ (t : List ℕ). part n x ++ t) (is.none (n + 1)) ∙ append-nil (part n x) in
    ap (texts 1) (take_more xs i d there) ∙ numbered_append is 1 (take i xs) (x ∷ [])
    ∙ ap (λ (n : ℕ). texts 1 (take i xs) ++ texts n (x ∷ [])) k ∙ ap (λ (t : List ℕ). texts 1 (take i xs) ++ t) (one (i + 1))

-- Numbered parts, written one by one: one more, and one that was cut.
pub numbered_more : {A T U E : Type 0} {part : ℕ → A → List ℕ} {texts : ℕ → List A → List ℕ} {before mid after : Option (List ℕ)} {f g h : ℕ} {t : T} {u : U} → IsNumbered part texts → (xs : List A) (i : ℕ) (d : A) → i < length xs →
    Writes {E = E} (texts 1 (take i xs)) before mid f g (Ok t) → Writes {E = E} (part (i + 1) (get_or xs i d)) mid after g h (Ok u) → Writes {E = E} (texts 1 (take (i + 1) xs)) before after f h (Ok u)
numbered_more is xs i d there first second = rw (numbered_next is xs i d there) (writes_then first second)

pub numbered_cut : {A T U V E G : Type 0} {part : ℕ → A → List ℕ} {texts : ℕ → List A → List ℕ} {before mid after : Option (List ℕ)} {f g h : ℕ} {t : T} {e : E} {result : Result V G} → IsNumbered part texts → (xs : List A) (i : ℕ) (d : A) → i < length xs →
    Writes {E = E} (texts 1 (take i xs)) before mid f g (Ok t) → Writes {T = U} {E = E} (part (i + 1) (get_or xs i d)) mid after g h (Err e) → IsErr result → Writes (texts 1 xs) before after f h result
numbered_cut {texts = texts} is xs i d there first second err =
    let rest = texts (1 + length (take (i + 1) xs)) (drop (i + 1) xs) in
    let whole : texts 1 xs ≡ (texts 1 (take i xs) ++ _) ++ rest =
    ap (texts 1) (sym (take-append-drop (i + 1) xs)) ∙ numbered_append is 1 (take (i + 1) xs) (drop (i + 1) xs) ∙ ap (λ (t : List ℕ). t ++ rest) (numbered_next is xs i d there) in
    rw whole (writes_no_more rest (writes_then first second) err)
