use Rattle.std.specs.List.{All}
use Rattle.std.proofs.Common.{◌≡◌, ℕ, ◌-◌, ◌*◌, ◌<◌, ◌≤◌, List, [], ◌∷◌, ◌++◌, length, map, replicate, reverse, get_or, refl, sym, ap, subst, ◌∙◌, arith}
use Rattle.std.proofs.lemmas.List.{get_or-map, get_or-reverse, length-map, length-reverse}
use Rattle.std.proofs.lemmas.List.Elements.{All-head, All-tail}
use Rattle.nvm_model.specs.declared.piece.ShelfEntry.{ShelfEntry}
use Rattle.nvm_blocks.specs.ShelfState.{ShelfState}
use Rattle.nvm_model.specs.Medium.{MediumState}
use Rattle.nvm_blocks.specs.Namespace.{IsShelf, IsNamespace}
use Rattle.nvm_blocks.specs.Shelves.{AreNew, cleared}

all_same : {X Y : Type 0} (f : X → Y) (e : Y) (xs : List X) → All (λ (x : X). f x ≡ e) xs → map f xs ≡ replicate (length xs) e
all_same {X} f e [] h = refl
all_same {X} {Y} f e (x ∷ xs) h =
    ap (λ (y : Y). y ∷ map f xs) (All-head (λ (z : X). f z ≡ e) x xs h) ∙ ap (λ (l : List Y). e ∷ l) (all_same f e xs (All-tail (λ (z : X). f z ≡ e) x xs h))

-- New shelves, turned round.

-- where no medium is left, there are as many as there were media
pub made_count : {M : Type 0} (media left : List M) (shelves : List (ShelfState M)) → left ++ map (λ (s : ShelfState M). s.medium) (reverse shelves) ≡ media → left ≡ [] → length media ≡ length shelves
made_count {M} media left shelves all none =
    ap length (sym all)
    ∙ ap (λ (l : List M). length (l ++ map (λ (s : ShelfState M). s.medium) (reverse shelves))) none
    ∙ length-map (reverse shelves) (λ (s : ShelfState M). s.medium) ∙ length-reverse shelves

new_at : {M I : Type 0} (state : M → MediumState I) (shelf room count : ℕ) (shelves : List (ShelfState M)) → AreNew state shelf room count shelves →
    (i : ℕ) (d : ShelfState M) → i < length (reverse shelves) → ((get_or (reverse shelves) i d).entries ≡ []) × ((get_or (reverse shelves) i d).room ≡ room)
new_at {M} state shelf room count shelves h i d l =
    let there : i < length shelves = omega (arith, l, length-reverse shelves) in
    let here = h (length shelves - 1 - i) d (omega (arith, there)) in
    subst (λ (s : ShelfState M). (s.entries ≡ []) × (s.room ≡ room)) (sym (get_or-reverse shelves i d there)) (here.1, here.2)

pub new_entries : {M I : Type 0} (state : M → MediumState I) (shelf room count : ℕ) (shelves : List (ShelfState M)) → AreNew state shelf room count shelves →
    count ≡ length shelves → map (λ (s : ShelfState M). s.entries) (reverse shelves) ≡ replicate count []
new_entries {M} state shelf room count shelves h is =
    all_same (λ (s : ShelfState M). s.entries) [] (reverse shelves) (λ i d l. (new_at state shelf room count shelves h i d l).0)
    ∙ ap (λ (n : ℕ). replicate n []) (length-reverse shelves ∙ sym is)

pub new_rooms : {M I : Type 0} (state : M → MediumState I) (shelf room count : ℕ) (shelves : List (ShelfState M)) → AreNew state shelf room count shelves →
    count ≡ length shelves → map (λ (s : ShelfState M). s.room) (reverse shelves) ≡ replicate count room
new_rooms {M} state shelf room count shelves h is =
    all_same (λ (s : ShelfState M). s.room) room (reverse shelves) (λ i d l. (new_at state shelf room count shelves h i d l).1)
    ∙ ap (λ (n : ℕ). replicate n room) (length-reverse shelves ∙ sym is)

-- Shelves without their entries.

cleared_same : {M Y : Type 0} (f : ShelfState M → Y) → ((s : ShelfState M) → f (cleared s) ≡ f s) → (shelves : List (ShelfState M)) → map f (map cleared shelves) ≡ map f shelves
cleared_same f same [] = refl
cleared_same {M} {Y} f same (s ∷ rest) = ap (λ (y : Y). y ∷ map f (map cleared rest)) (same s) ∙ ap (λ (l : List Y). f s ∷ l) (cleared_same f same rest)

pub cleared_media : {M : Type 0} (shelves : List (ShelfState M)) → map (λ (s : ShelfState M). s.medium) (map cleared shelves) ≡ map (λ (s : ShelfState M). s.medium) shelves
cleared_media {M} shelves = cleared_same (λ (s : ShelfState M). s.medium) (λ s. refl) shelves

pub cleared_rooms : {M : Type 0} (shelves : List (ShelfState M)) → map (λ (s : ShelfState M). s.room) (map cleared shelves) ≡ map (λ (s : ShelfState M). s.room) shelves
cleared_rooms {M} shelves = cleared_same (λ (s : ShelfState M). s.room) (λ s. refl) shelves

pub cleared_entries : {M : Type 0} (shelves : List (ShelfState M)) → map (λ (s : ShelfState M). s.entries) (map cleared shelves) ≡ replicate (length shelves) []
cleared_entries [] = refl
cleared_entries {M} (s ∷ rest) = ap (λ (l : List (List ShelfEntry)). [] ∷ l) (cleared_entries rest)

pub cleared_namespace : {M I : Type 0} (state : M → MediumState I) (shelf : ℕ) (shelves : List (ShelfState M)) →
    IsNamespace state shelf shelves → IsNamespace state shelf (map cleared shelves)
cleared_namespace {M} state shelf shelves h =
    let same : length (map cleared shelves) ≡ length shelves = length-map shelves cleared in
    record {
      large = h.large;
      some = omega (arith, h.some, same);
      few = subst (λ (n : ℕ). n * shelf ≤ 131072) (sym same) h.few;
      each = λ i d l. each i d (omega (arith, l, same));
    }
  where
    each : (i : ℕ) (d : ShelfState M) → i < length shelves → IsShelf state shelf i (get_or (map cleared shelves) i d)
    each i d l =
        let here : IsShelf state shelf i (get_or shelves i d) = h.each i d l in
        subst (IsShelf state shelf i) (sym (get_or-map cleared shelves i d d l)) (record { first = here.first; size = here.size })
