-- The rule of a hall's table. Word 0 is the ticket word, the words 1 to 8 are the lanes', and word i + 9 is that of the shelf i.
use Rattle.std.specs.Prelude.{◌≡◌, ◌≢◌, ℕ, zero, suc, ◌+◌, ◌-◌, ◌/◌, ◌<◌, ◌≤◌, List, [], ◌∷◌, ◌++◌, length, slice_index, slice_index_or, Option, Some}
use mathlib.Core.Option.{some, none}
use mathlib.Core.Option as maybe
use lib.ListN.{get_elem?}
use Rattle.atomic_table.specs.Table.{State}
use Rattle.hall_rule.specs.Items.{AllFrom, total, by, in_shelf, entries_of, Below, Rises, times, shelves}
use Rattle.hall_rule.specs.Turn.{Ordered, Known}
use Rattle.hall_rule.specs.Notes.{AllAre, Among, IsBusy, Noted, Outdated, digit}
use Rattle.hall_rule.specs.Words.{word_for, count, counts}
use Rattle.hall_rule.specs.declared.item.Item.{Item}
use Rattle.hall_rule.specs.declared.view.View.{View}
use Rattle.hall_rule.specs.declared.view.Desk.{Desk}
use Rattle.hall_rule.specs.declared.view.Lock.{Lock}
use Rattle.hall_rule.specs.declared.view.Note.{Note}

abbrev pub desk : ℕ → ℕ → ℕ → List Item → List ℕ → ℕ → List Lock → List Note → Desk
desk out made budget items todo told locks notes = record { out = out; made = made; budget = budget; items = items; todo = todo; told = told; locks = locks; notes = notes }

-- what a lane's word is before and after it has left
abbrev pub counted : ℕ → ℕ → ℕ
counted zero n = 0
counted (suc _) n = n

abbrev pub no_desk : Desk
no_desk = desk 0 1 0 [] [] 0 [] []

abbrev pub desk_at : List Desk → ℕ → Desk
desk_at desks h = slice_index_or desks h no_desk

abbrev pub desk_of : View → ℕ → Desk
desk_of v h = desk_at v.desks h

abbrev pub purse : View → ℕ
purse v = v.budget + total (λ (d : Desk). d.budget) v.desks

-- how many pieces of the shelf i it has still to do or to give out
abbrev pub pending : ℕ → View → ℕ
pending i v = times i v.todo + total (λ (d : Desk). times i d.todo) v.desks

abbrev pub idle : ℕ → ℕ → List Item → List ℕ → ℕ → List Lock → List Note → View
idle holder budget items todo told locks notes = record { holder = holder; at = 0; word = 0; log = []; looked = 0; seen = 0; low = 0; aim = 0; budget = budget; items = items; todo = todo; told = told; locks = locks; notes = notes; desks = [] }

-- the first seat at the start, with the lanes' plans
abbrev pub fresh : List ℕ → Desk
fresh todo = desk 0 0 1152921504606846976 [] todo 0 [] []

abbrev pub opener : (ℕ → List ℕ) → View
opener plan = record {
  holder = 0;
  at = 0;
  word = 0;
  log = [];
  looked = 0;
  seen = 0;
  low = 0;
  aim = 0;
  budget = 0;
  items = [];
  todo = [];
  told = 0;
  locks = [];
  notes = [];
  desks = no_desk ∷ fresh (plan 1) ∷ fresh (plan 2) ∷ fresh (plan 3) ∷ fresh (plan 4) ∷ fresh (plan 5) ∷ fresh (plan 6) ∷ fresh (plan 7) ∷ fresh (plan 8) ∷ fresh [] ∷ [];
}

-- what a seat knows of the shelf that it has locked
pub record Holds (n : ℕ) (words : List ℕ) (holders : ℕ → ℕ) (logs : ℕ → List Item) (v : View) (i : ℕ) : Type 0 where
  pub inside : i < n
  pub holder : holders i ≡ v.holder
  pub some_holder : 0 < v.holder
  pub word : v.word ≡ slice_index words (i + 9)
  pub log : v.log ≡ logs i

-- what is so of each seat with a holder
pub record Named (seats : ℕ → ℕ) (lanes : ℕ → List Item) (todos : ℕ → List ℕ) (tolds : ℕ → ℕ) (locks : ℕ → List Lock) (notes : ℕ → List Note) (sights : ℕ → ℕ × ℕ) (desks : List Desk) (j : ℕ) (v : View) : Type 0 where
  pub inside : v.holder < 10
  pub seat : seats v.holder ≡ j
  pub items : v.items ≡ lanes v.holder
  pub todo : v.todo ≡ todos v.holder
  pub told : v.told ≡ tolds v.holder
  pub locks_are : v.locks ≡ locks v.holder
  pub notes_are : v.notes ≡ notes v.holder
  pub sight : sights v.holder ≡ (v.looked, v.seen)
  pub out : (desk_at desks v.holder).out ≡ 1

-- the shelf's word
abbrev pub word_of : List ℕ → ℕ → ℕ
word_of words i = slice_index words (i + 9)

-- the first seat has no holder and no shelf, and keeps these desks
abbrev pub Leads : List View → List Desk → Type 0
Leads views desks = (f : View) × (get_elem? views 0 ≡ some f) × (f.holder ≡ 0) × (f.at ≡ 0) × (f.desks ≡ desks)

-- the shelf i is at home, and fits what was done on it
abbrev pub AtHome : {S : Type 0} → (ℕ → List Item → S → Type 0) → List (maybe.Option (Option S)) → ℕ → List Item → Type 0
AtHome {S} fits homes i log = (x : S) × (get_elem? homes i ≡ some (some (Some x))) × fits i log x

-- the shelf i is out with the seat j
abbrev pub Away : {S : Type 0} → List (maybe.Option (Option S)) → List View → ℕ → ℕ → Type 0
Away {S} homes views i j = (get_elem? homes i ≡ some none) × ((v : View) × (get_elem? views j ≡ some v) × (v.at ≡ i + 1))

-- a shelf after what was done on it, its room, each lane's shelves, and what a holder's item is by its place
module _ {S : Type 0} (fits : ℕ → List Item → S → Type 0) (cap : ℕ → ℕ) (plan : ℕ → List ℕ) (serves : ℕ → ℕ → Item → Type 0) where
  pub record Orderly (s : State (Option S) View) : Type 0 where
    -- what each holder did, what was done on each shelf, who has it, and which seat is whose
    pub lanes : ℕ → List Item
    pub todos : ℕ → List ℕ
    pub tolds : ℕ → ℕ
    pub logs : ℕ → List Item
    pub locks : ℕ → List Lock
    pub notes : ℕ → List Note
    pub sights : ℕ → ℕ × ℕ
    pub holders : ℕ → ℕ
    pub seats : ℕ → ℕ
    pub desks : List Desk
    pub lead : Leads s.views desks
    pub ten : length desks ≡ 10
    pub wide : length s.words ≡ length s.homes + 9
    pub shown : (i : ℕ) → i < length s.homes → slice_index s.words (i + 9) ≡ word_for (holders i) (counts i lanes)
    pub free : (i : ℕ) → i < length s.homes → holders i ≡ 0 → AtHome fits s.homes i (logs i)
    pub taken : (i : ℕ) → i < length s.homes → holders i ≢ 0 → Away s.homes s.views i (seats (holders i))
    pub held : (j : ℕ) (v : View) → get_elem? s.views j ≡ some v → (i : ℕ) → v.at ≡ i + 1 → Holds (length s.homes) s.words holders logs v i
    pub named : (j : ℕ) (v : View) → get_elem? s.views j ≡ some v → 0 < v.holder → Named seats lanes todos tolds locks notes sights desks j v
    pub kept : (h : ℕ) → (desk_at desks h).out ≡ 0 → ((desk_at desks h).items ≡ lanes h) × ((desk_at desks h).todo ≡ todos h) × ((desk_at desks h).told ≡ tolds h) × ((desk_at desks h).locks ≡ locks h) × ((desk_at desks h).notes ≡ notes h)
    -- a lane's word is the number of its pieces done, once it has left
    pub left : (h : ℕ) → 0 < h → h < 9 → slice_index s.words h ≡ counted (tolds h) (length (lanes h))
    -- all that was done, in order
    pub turn : List Item
    pub ordered : Ordered turn
    pub whose : (h : ℕ) → by h turn ≡ lanes h
    pub lies : (i : ℕ) → in_shelf i turn ≡ logs i
    pub known : Known turn
    -- what was locked, and what was busy
    pub noted : Noted (length s.homes) (word_of s.words) holders (λ i. counts i lanes) locks notes sights
    pub outdated : Outdated (length s.homes) (word_of s.words) holders locks
    -- tickets
    pub bound : slice_index s.words 0 + total purse s.views ≤ 10376293541461622784
    pub low : (j : ℕ) (v : View) → get_elem? s.views j ≡ some v → v.low ≤ slice_index s.words 0
    pub below : (h : ℕ) → Below (slice_index s.words 0) (lanes h)
    pub logged : (i : ℕ) → Below (slice_index s.words 0) (logs i)
    -- items
    pub rises : (i : ℕ) → Rises (logs i)
    pub parted : (i h : ℕ) → by h (logs i) ≡ in_shelf i (lanes h)
    pub few : (i h : ℕ) → h < 9 → count i lanes h < 128
    pub room : (i : ℕ) → i < length s.homes → length (entries_of (logs i)) + total (pending i) s.views ≤ cap i
    pub planned : (h : ℕ) → 0 < h → h < 9 → shelves (lanes h) ++ todos h ≡ plan h
    pub served : (h : ℕ) → AllFrom (serves h) 0 (lanes h)

  -- what is left at the end, once no seat is out: each shelf fits a log of rising tickets, in which each holder's items are those of its list that are of this shelf
  pub record Whole (desks : List Desk) (words : List ℕ) (next : ℕ) (xs : List (Option S)) : Type 0 where
    pub turn : List Item
    pub ordered : Ordered turn
    pub back : (i : ℕ) → i < length xs → (x : S) × (get_elem? xs i ≡ some (Some x)) × fits i (in_shelf i turn) x
    pub whose : (h : ℕ) → by h turn ≡ (desk_at desks h).items
    pub below : (h : ℕ) → Below next (by h turn)
    pub few : next ≤ 10376293541461622784
    pub left : (h : ℕ) → 0 < h → h < 9 → slice_index words h ≡ counted (desk_at desks h).told (length (desk_at desks h).items)
    pub planned : (h : ℕ) → 0 < h → h < 9 → shelves (desk_at desks h).items ++ (desk_at desks h).todo ≡ plan h
    pub served : (h : ℕ) → AllFrom (serves h) 0 (desk_at desks h).items
    pub noted : (h : ℕ) → AllAre (IsBusy (λ k. (desk_at desks k).locks) h) (desk_at desks h).notes
    -- each lock of a lane wrote a word with fewer of its pieces than were done in the end
    pub outdated : (h i w : ℕ) → 0 < h → h < 9 → i < length xs → Among i w (desk_at desks h).locks → digit (w / 16) (h - 1) < length (in_shelf i (desk_at desks h).items)
