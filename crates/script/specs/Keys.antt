use Rattle.std.specs.Prelude.{ℕ, ◌/◌, ◌%◌, ◌&&◌, Bool, true, List, [], ◌∷◌, codes, nat_le, ◌==◌, replicate, None}
use Rattle.nvm_model.specs.declared.script.Head.{Head}
use Rattle.nvm_model.specs.declared.script.LaneSet.{LaneSet}
use Rattle.script.specs.declared.key.Key.{Key}
use Rattle.script.specs.declared.key.Key.TheVariants.{Blocks, Shelf, Lanes, Burst, Mix, Change, Slice, Small, Pages, Patience}
use Rattle.script.specs.declared.key.Due.{Due}
use Rattle.script.specs.declared.key.Due.TheVariants.{Number, Lane, Behind}

-- The numbers of a head: the word before each, and its range, which the numbers before it may decide.

-- the word of a head's number
abbrev pub key_word : Key → List ℕ
key_word Blocks = codes "blocks"
key_word Shelf = codes "shelf"
key_word Lanes = codes "lanes"
key_word Burst = codes "burst"
key_word Mix = codes "mix"
key_word Change = codes "change"
key_word Slice = codes "slice"
key_word Small = codes "small"
key_word Pages = codes "pages"
key_word Patience = codes "patience"

-- that number of a head
abbrev pub number : Key → Head → ℕ
number Blocks h = h.blocks
number Shelf h = h.shelf
number Lanes h = h.lanes
number Burst h = h.burst
number Mix h = h.mix
number Change h = h.change
number Slice h = h.slice
number Small h = h.small
number Pages h = h.pages
number Patience h = h.patience

-- a head with that number
abbrev pub with_number : Key → ℕ → Head → Head
with_number Blocks n h = record h { blocks = n }
with_number Shelf n h = record h { shelf = n }
with_number Lanes n h = record h { lanes = n }
with_number Burst n h = record h { burst = n }
with_number Mix n h = record h { mix = n }
with_number Change n h = record h { change = n }
with_number Slice n h = record h { slice = n }
with_number Small n h = record h { small = n }
with_number Pages n h = record h { pages = n }
with_number Patience n h = record h { patience = n }

-- the least that it may be
abbrev pub lowest : Key → Head → ℕ
lowest Blocks h = 1
lowest Shelf h = 1
lowest Lanes h = 1
lowest Burst h = 1
lowest Mix h = 0
lowest Change h = 2
lowest Slice h = 1
lowest Small h = h.slice
lowest Pages h = 1
lowest Patience h = 1

-- the most that it may be
abbrev pub highest : Key → Head → ℕ
highest Blocks h = 131072
highest Shelf h = 65536
highest Lanes h = 8
highest Burst h = 64
highest Mix h = 4294967295
highest Change h = 65536
highest Slice h = h.blocks
highest Small h = h.blocks
highest Pages h = 2064
highest Patience h = 65535

-- the shelves, at most 64, are equally long
abbrev pub are_shelves : Key → ℕ → Head → Bool
are_shelves Shelf n h = h.blocks % n == 0 && nat_le (h.blocks / n) 64
are_shelves key n h = true

-- a head of which nothing was read
abbrev pub no_set : LaneSet
no_set = record { sq = 0; cq = 0; pages = 0 }

-- a head of which no line was read
abbrev pub no_head : Head
no_head = record { blocks = 0; shelf = 0; lanes = 0; sets = replicate 8 no_set; burst = 0; mix = 0; change = 0; slice = 0; small = 0; pages = 0; patience = 0; migrate = None }

-- the keys whose lines come behind those of the lanes
abbrev pub later_keys : List Key
later_keys = Burst ∷ Mix ∷ Change ∷ Slice ∷ Small ∷ Pages ∷ Patience ∷ []

-- the keys whose lines come before those of the lanes
abbrev pub first_keys : List Key
first_keys = Blocks ∷ Shelf ∷ Lanes ∷ []

-- which line comes after
abbrev pub after : Key → Due
after Blocks = Number Shelf
after Shelf = Number Lanes
after Lanes = Lane 0
after Burst = Number Mix
after Mix = Number Change
after Change = Number Slice
after Slice = Number Small
after Small = Number Pages
after Pages = Number Patience
after Patience = Behind

-- the keys whose lines come before, the last of them first: before those of the lanes, or behind them
abbrev pub earlier : Key → List Key
earlier Blocks = []
earlier Shelf = Blocks ∷ []
earlier Lanes = Shelf ∷ Blocks ∷ []
earlier Burst = []
earlier Mix = Burst ∷ []
earlier Change = Mix ∷ Burst ∷ []
earlier Slice = Change ∷ Mix ∷ Burst ∷ []
earlier Small = Slice ∷ Change ∷ Mix ∷ Burst ∷ []
earlier Pages = Small ∷ Slice ∷ Change ∷ Mix ∷ Burst ∷ []
earlier Patience = Pages ∷ Small ∷ Slice ∷ Change ∷ Mix ∷ Burst ∷ []

-- the later keys, the last of them first
abbrev pub later_back : List Key
later_back = Patience ∷ earlier Patience
