-- Items, and the lists of them that the rule speaks of.
use Rattle.std.specs.Prelude.{ℕ, suc, ◌+◌, ◌<◌, cond, ◌==◌, List, [], ◌∷◌, ◌++◌}
use Rattle.nvm_model.specs.declared.piece.ShelfEntry.{ShelfEntry}
use Rattle.hall_rule.specs.declared.item.Work.{Work}
use Rattle.hall_rule.specs.declared.item.Work.TheVariants.{Served, Copied}
use Rattle.hall_rule.specs.declared.item.Item.{Item}

abbrev pub total : {A : Type 0} → (A → ℕ) → List A → ℕ
total f [] = 0
total f (x ∷ xs) = f x + total f xs

-- the items of one holder
abbrev pub by : ℕ → List Item → List Item
by h [] = []
by h (x ∷ xs) = cond (x.holder == h) (x ∷ by h xs) (by h xs)

-- the items of one shelf
abbrev pub in_shelf : ℕ → List Item → List Item
in_shelf i [] = []
in_shelf i (x ∷ xs) = cond (x.shelf == i) (x ∷ in_shelf i xs) (in_shelf i xs)

-- each ticket is below n
abbrev pub Below : ℕ → List Item → Type 0
Below n [] = Unit {0}
Below n (x ∷ xs) = (x.ticket < n) × Below n xs

-- each ticket is above t
abbrev pub Above : ℕ → List Item → Type 0
Above t [] = Unit {0}
Above t (x ∷ xs) = (t < x.ticket) × Above t xs

-- each ticket is above those before it
abbrev pub Rises : List Item → Type 0
Rises [] = Unit {0}
Rises (x ∷ xs) = Above x.ticket xs × Rises xs

-- how often the shelf i is named
abbrev pub times : ℕ → List ℕ → ℕ
times i [] = 0
times i (x ∷ xs) = cond (x == i) 1 0 + times i xs

abbrev pub shelves : List Item → List ℕ
shelves [] = []
shelves (x ∷ xs) = x.shelf ∷ shelves xs

-- this is so of each item by its place, where the first has place k
abbrev pub AllFrom : (ℕ → Item → Type 0) → ℕ → List Item → Type 0
AllFrom P k [] = Unit {0}
AllFrom P k (x ∷ xs) = P k x × AllFrom P (suc k) xs

-- the entry of a piece; a copy has none
abbrev pub entry_for : ℕ → ℕ → Work → List ShelfEntry
entry_for h t (Served index result) = record { lane = h; index = index; ticket = t; result = result } ∷ []
entry_for h t (Copied block) = []

abbrev pub entry_of : Item → List ShelfEntry
entry_of x = entry_for x.holder x.ticket x.what

abbrev pub entries_of : List Item → List ShelfEntry
entries_of [] = []
entries_of (x ∷ xs) = entry_of x ++ entries_of xs
