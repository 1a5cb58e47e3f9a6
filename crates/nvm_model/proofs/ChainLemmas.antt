use Rattle.std.proofs.Common.{◌≡◌, List, [], ◌∷◌, ◌++◌, Option, Some, None, map, refl, sym, subst}
use Rattle.nvm_model.specs.Chain.{Chain}
use Rattle.nvm_model.specs.Medium.{StayTold}

-- a chain after a chain
pub chain_more : {S A : Type 0} (R : S → A → S → Type 0) (x : S) (front : List A) (y : S) (back : List A) (z : S) → Chain R x front y → Chain R y back z → Chain R x (front ++ back) z
chain_more R x [] y back z p q = subst (λ s. Chain R s back z) p q
chain_more R x (a ∷ front) y back z p q = (p.0, p.1, chain_more R p.0 front y back z p.2 q)

pub chain_one : {S A : Type 0} (R : S → A → S → Type 0) (x : S) (a : A) (y : S) → R x a y → Chain R x (a ∷ []) y
chain_one R x a y r = (y, r, refl)

-- one step more
pub chain_push : {S A : Type 0} (R : S → A → S → Type 0) (x : S) (front : List A) (y : S) (a : A) (z : S) → Chain R x front y → R y a z → Chain R x (front ++ a ∷ []) z
chain_push R x front y a z p r = chain_more R x front y (a ∷ []) z p (chain_one R y a z r)

-- what each step keeps, the whole keeps
pub chain_keeps : {S A : Type 0} (R : S → A → S → Type 0) (P : S → Type 0) → ((x : S) (a : A) (y : S) → R x a y → P x → P y) → (x : S) (labels : List A) (y : S) → Chain R x labels y → P x → P y
chain_keeps R P step x [] y c p = subst P (sym c) p
chain_keeps R P step x (a ∷ labels) y c p = chain_keeps R P step c.0 labels y c.2 (step x a c.0 c.1 p)

-- a chain of steps is a chain of what they are elsewhere
pub chain_map : {S A T B : Type 0} (R : S → A → S → Type 0) (Q : T → B → T → Type 0) (f : S → T) (g : A → B) → ((x : S) (a : A) (y : S) → R x a y → Q (f x) (g a) (f y)) → (x : S) (labels : List A) (y : S) → Chain R x labels y → Chain Q (f x) (map g labels) (f y)
chain_map R Q f g step x [] y c = let e : f y ≡ f x = cc in e
chain_map R Q f g step x (a ∷ labels) y c = (f c.0, step x a c.0 c.1, chain_map R Q f g step c.0 labels y c.2)

told_none : {B A : Type 0} (Q : B → A → B → Type 0) (o : Option B) → StayTold (λ s t. Chain Q s [] t) o o
told_none Q None = tt
told_none Q (Some x) = refl

told_more : {B A : Type 0} (Q : B → A → B → Type 0) (a : A) (labels : List A) (t u v : Option B) → StayTold (λ x y. Q x a y) t u → StayTold (λ x y. Chain Q x labels y) u v → StayTold (λ x y. Chain Q x (a ∷ labels) y) t v
told_more Q a labels None None None h k = tt
told_more Q a labels None None (Some v) h k = absurd k
told_more Q a labels None (Some u) v h k = absurd h
told_more Q a labels (Some t) None v h k = absurd h
told_more Q a labels (Some t) (Some u) None h k = absurd k
told_more Q a labels (Some t) (Some u) (Some v) h k = (u, h, k)

-- What is told goes on through a chain, where each step says how, by what is true of all states.
pub told_chain : {S A B : Type 0} (R : S → A → S → Type 0) (Q : B → A → B → Type 0) (told : S → Option B) (P : S → Type 0) →
    ((x : S) (a : A) (y : S) → R x a y → P x → StayTold (λ s t. Q s a t) (told x) (told y) × P y) →
    (x : S) (labels : List A) (y : S) → Chain R x labels y → P x → StayTold (λ s t. Chain Q s labels t) (told x) (told y)
told_chain R Q told P step x [] y c p = subst (λ s. StayTold (λ a b. Chain Q a [] b) (told x) (told s)) (sym c) (told_none Q (told x))
told_chain R Q told P step x (a ∷ labels) y c p =
    let one = step x a c.0 c.1 p in
    told_more Q a labels (told x) (told c.0) (told y) one.0 (told_chain R Q told P step c.0 labels y c.2 one.1)
