use Rattle.std.proofs.Common.{◌≡◌, ℕ, zero, suc, ◌+◌, ◌*◌, ◌/◌, ◌≤◌, List, [], ◌∷◌, All, length, map, replicate, sym, ap, subst, ◌∙◌, arith}
use Rattle.std.proofs.lemmas.Nat.{div-mul-add}
use Rattle.std.proofs.lemmas.List.{length-map, length-replicate}
use Rattle.std.proofs.lemmas.List.Elements.{All-cons}
use Rattle.nvm_model.specs.declared.script.Head.{Head}
use Rattle.nvm_model.specs.ScriptText.{IsHead}
use Rattle.nvm_blocks.specs.ShelfState.{ShelfState}
use Rattle.nvm_blocks.specs.Namespace.{NamespaceState, media_of, rooms_of}
use Rattle.session.specs.Shelves.{IsNamespaceOf}

-- A host's media as the namespace of a script.

-- the shelves of a script hold its blocks
pub whole_shelves : (head : Head) → IsHead head → head.blocks / head.shelf * head.shelf ≡ head.blocks
whole_shelves head is =
    let n = is.shelves.0 in
    let whole : head.blocks ≡ n * head.shelf + 0 = omega (arith, is.shelves.2) in
    let count : head.blocks / head.shelf ≡ n = ap (λ (b : ℕ). b / head.shelf) whole ∙ div-mul-add n head.shelf 0 is.shelf.0 in
    ap (λ (k : ℕ). k * head.shelf) count ∙ sym is.shelves.2

-- the same media have the same sizes
pub same_media : {M : Type 0} (size : M → ℕ) {media others : List M} {sizes : List ℕ} → media ≡ others → map size others ≡ sizes → map size media ≡ sizes
same_media {M} size same is = ap (λ (l : List M). map size l) same ∙ is

-- so many media of one size
as_many : {M : Type 0} (size : M → ℕ) (media : List M) (n shelf : ℕ) → map size media ≡ replicate n shelf → length media ≡ n
as_many size media n shelf same = sym (length-map media size) ∙ ap (λ (l : List ℕ). length l) same ∙ length-replicate n shelf

pub all_of_size : {M : Type 0} (size : M → ℕ) (media : List M) (n shelf : ℕ) → map size media ≡ replicate n shelf → All (λ (m : M). size m ≡ shelf) media
all_of_size size [] n shelf same = λ i d there. absurd (omega (arith, there))
all_of_size size (m ∷ media) zero shelf same = cc
all_of_size size (m ∷ media) (suc n) shelf same =
    All-cons (λ x. size x ≡ shelf) m media (head_is same) (all_of_size size media n shelf (tail_is same))
  where
    head_is : {a b : ℕ} {xs ys : List ℕ} → ◌≡◌ {A = List ℕ} (a ∷ xs) (b ∷ ys) → a ≡ b
    head_is e = cc

    tail_is : {a b : ℕ} {xs ys : List ℕ} → ◌≡◌ {A = List ℕ} (a ∷ xs) (b ∷ ys) → xs ≡ ys
    tail_is e = cc

all_replicated : (room n : ℕ) → All (λ (r : ℕ). room ≤ r) (replicate n room)
all_replicated room zero = λ i d there. absurd (omega (arith, there))
all_replicated room (suc n) = All-cons (λ (r : ℕ). room ≤ r) room (replicate n room) (omega arith) (all_replicated room n)

-- a namespace that was made of them is the script's
pub is_namespace : {M : Type 0} (size : M → ℕ) (head : Head) (media : List M) (n : NamespaceState M) → IsHead head → map size media ≡ replicate (head.blocks / head.shelf) head.shelf →
    media_of n ≡ media → n.shelf ≡ head.shelf → rooms_of n ≡ replicate (length media) (head.burst * head.lanes) → IsNamespaceOf head n
is_namespace {M} size head media n is sizes same shelf rooms =
    let count : length n.shelves ≡ head.blocks / head.shelf = sym (length-map n.shelves (λ (s : ShelfState M). s.medium)) ∙ ap (λ (l : List M). length l) same ∙ as_many size media (head.blocks / head.shelf) head.shelf sizes in
    record {
      shelf = shelf;
      blocks = ap (λ (k : ℕ). k * n.shelf) count ∙ ap (λ (s : ℕ). head.blocks / head.shelf * s) shelf ∙ whole_shelves head is;
      rooms = subst (λ (l : List ℕ). All (λ (r : ℕ). head.burst * head.lanes ≤ r) l) (sym rooms) (all_replicated (head.burst * head.lanes) (length media));
    }
