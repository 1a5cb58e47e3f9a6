-- All items of a hall in one list, by rising tickets, and by holders where tickets are equal.
use Rattle.std.specs.Prelude.{◌≢◌, ℕ, ◌+◌, ◌*◌, ◌<◌, cond, nat_lt, List, [], ◌∷◌}
use Rattle.hall_rule.specs.declared.item.Item.{Item}

-- the place of an item in the order
abbrev pub rank : Item → ℕ
rank x = 16 * x.ticket + x.holder

abbrev pub Over : ℕ → List Item → Type 0
Over n [] = Unit {0}
Over n (x ∷ xs) = (n < rank x) × Over n xs

abbrev pub Under : ℕ → List Item → Type 0
Under n [] = Unit {0}
Under n (x ∷ xs) = (rank x < n) × Under n xs

abbrev pub Ordered : List Item → Type 0
Ordered [] = Unit {0}
Ordered (x ∷ xs) = Over (rank x) xs × Ordered xs

abbrev pub insert : Item → List Item → List Item
insert x [] = x ∷ []
insert x (y ∷ ys) = cond (nat_lt (rank x) (rank y)) (x ∷ y ∷ ys) (y ∷ insert x ys)

abbrev pub Apart : ℕ → List Item → Type 0
Apart n [] = Unit {0}
Apart n (x ∷ xs) = (rank x ≢ n) × Apart n xs

abbrev pub Known : List Item → Type 0
Known [] = Unit {0}
Known (x ∷ xs) = (x.holder < 10) × Known xs
