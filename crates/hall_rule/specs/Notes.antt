-- Notes of a busy shelf: what a seat that was told of a holder may know.
use Rattle.std.specs.Prelude.{◌≡◌, ◌≢◌, ℕ, zero, suc, ◌+◌, ◌-◌, ◌/◌, ◌%◌, ◌<◌, ◌≤◌, ◌⊎◌, List, [], ◌∷◌, ◌++◌, length}
use Rattle.hall_rule.specs.Words.{Small, word_for}
use Rattle.hall_rule.specs.declared.view.Lock.{Lock}
use Rattle.hall_rule.specs.declared.view.Note.{Note}

-- none of these counts is above its like
abbrev pub NoneAbove : List ℕ → List ℕ → Type 0
NoneAbove [] ds = Unit {0}
NoneAbove (c ∷ cs) [] = ⊥
NoneAbove (c ∷ cs) (d ∷ ds) = (c ≤ d) × NoneAbove cs ds

-- some of these counts is below its like
abbrev pub SomeBelow : List ℕ → List ℕ → Type 0
SomeBelow [] ds = ⊥
SomeBelow (c ∷ cs) [] = ⊥
SomeBelow (c ∷ cs) (d ∷ ds) = (c < d) ⊎ SomeBelow cs ds

abbrev pub Among : ℕ → ℕ → List Lock → Type 0
Among i w [] = ⊥
Among i w (l ∷ ls) = ((l.shelf ≡ i) × (l.word ≡ w)) ⊎ Among i w ls

-- the word w of a shelf was seen when its counts were at most these
pub record Past (w : ℕ) (now : List ℕ) : Type 0 where
  pub holder : ℕ
  pub before : List ℕ
  pub is : w ≡ word_for holder before
  pub small : holder < 16
  pub le : NoneAbove before now
  pub long : length before ≡ length now

-- with a holder the word read is one that this other holder's lock wrote; with none some piece was released since the load
abbrev pub Why : (ℕ → List Lock) → ℕ → ℕ → ℕ → List ℕ → List ℕ → ℕ → Type 0
Why locks h i read before after zero = SomeBelow before after
Why locks h i read before after (suc b) = (suc b ≢ h) × Among i read (locks (suc b))

pub record IsNote (locks : ℕ → List Lock) (h : ℕ) (x : Note) : Type 0 where
  pub after : List ℕ
  pub holder : ℕ
  pub few : holder < 16
  pub small : Small after
  pub read : x.read ≡ word_for holder after
  pub past : Past x.seen after
  pub why : Why locks h x.shelf x.read past.before after holder

-- the last lock of a list
abbrev pub Last : ℕ → ℕ → List Lock → Type 0
Last i w l = (older : List Lock) × (l ≡ older ++ record { shelf = i; word = w } ∷ [])

abbrev pub AllAre : (Note → Type 0) → List Note → Type 0
AllAre P [] = Unit {0}
AllAre P (x ∷ xs) = P x × AllAre P xs

-- What the rule says of locks and notes. A shelf has a word, a holder and counts; a holder has locks, notes, and a sight: the shelf that it has looked at, plus one, and the word.
pub record Noted (n : ℕ) (word holders : ℕ → ℕ) (counted : ℕ → List ℕ) (locks : ℕ → List Lock) (notes : ℕ → List Note) (sight : ℕ → ℕ × ℕ) : Type 0 where
  pub held : (i : ℕ) → i < n → holders i ≢ 0 → Last i (word i) (locks (holders i))
  pub saw : (h i : ℕ) → i < n → (sight h).0 ≡ i + 1 → Past (sight h).1 (counted i)
  pub are : (h : ℕ) → AllAre (IsNote locks h) (notes h)

-- the lane's count in a shelf's word
abbrev pub digit : ℕ → ℕ → ℕ
digit w zero = w % 128
digit w (suc k) = digit (w / 128) k

-- With a holder the word read is one that this holder's lock wrote, and this holder is another; with none a piece was released between the load and the exchange.
abbrev pub BusyBy : (ℕ → List Lock) → ℕ → Note → ℕ → Type 0
BusyBy locks h x zero = (k : ℕ) × (digit (x.seen / 16) k < digit (x.read / 16) k)
BusyBy locks h x (suc b) = (suc b ≢ h) × Among x.shelf x.read (locks (suc b))

-- why a seat was told that a shelf is busy
pub record IsBusy (locks : ℕ → List Lock) (h : ℕ) (x : Note) : Type 0 where
  -- no count seen is above the one read
  pub later : (k : ℕ) → digit (x.seen / 16) k ≤ digit (x.read / 16) k
  pub by_whom : BusyBy locks h x (x.read % 16)

-- every lock of a lane but that of the shelf that it holds has a count of this lane below that of the shelf's word now
pub record Outdated (n : ℕ) (word holders : ℕ → ℕ) (locks : ℕ → List Lock) : Type 0 where
  pub lower : (h i w : ℕ) → 0 < h → h < 9 → i < n → Among i w (locks h) → ((w ≡ word i) × (holders i ≡ h)) ⊎ (digit (w / 16) (h - 1) < digit (word i / 16) (h - 1))
