-- What each step on a hall's table tells: of the step, the seat before, the number found and the seat after.
use Rattle.std.specs.Prelude.{◌≡◌, ◌≢◌, ℕ, ◌+◌, ◌-◌, ◌<◌, ◌≤◌, List, [], ◌∷◌, ◌++◌, length, Option, Some}
use Rattle.atomic_table.specs.Table.{Me, Step, rest}
use Rattle.hall_rule.specs.Items.{by, in_shelf, entries_of, Below, Rises, times}
use Rattle.hall_rule.specs.Rule.{idle, desk, desk_of}
use Rattle.hall_rule.specs.declared.item.Item.{Item}
use Rattle.hall_rule.specs.declared.view.View.{View}
use Rattle.hall_rule.specs.declared.view.Desk.{Desk}
use Rattle.std.specs.Prelude.{slice_set}

-- the first seat's view with another desk for the holder h
abbrev pub with_desk : View → ℕ → Desk → View
with_desk v h d = record v { desks = slice_set v.desks h d }

abbrev pub split_left : View → View
split_left v = with_desk v v.aim (desk 1 1 0 [] [] 0 [] [])

abbrev pub split_right : View → View
split_right v = idle v.aim (desk_of v v.aim).budget (desk_of v v.aim).items (desk_of v v.aim).todo (desk_of v v.aim).told (desk_of v v.aim).locks (desk_of v v.aim).notes

abbrev pub joined : View → View → View
joined v w = with_desk v w.holder (desk 0 1 w.budget w.items w.todo w.told w.locks w.notes)

abbrev pub spent : View
spent = idle 0 0 [] [] 0 [] []

-- all but the first
abbrev pub rest_of : List ℕ → List ℕ
rest_of [] = []
rest_of (x ∷ xs) = xs

-- the view once the shelf i is locked by the word w
abbrev pub locking : View → ℕ → ℕ → List Item → View
locking v i w log = record v { at = i + 1; word = w; log = log; looked = 0; seen = 0; locks = v.locks ++ record { shelf = i; word = w } ∷ [] }

-- the view once the word of the shelf i was loaded
abbrev pub looking : View → ℕ → ℕ → View
looking v i r = record v { looked = i + 1; seen = r }

-- the view once that shelf was busy, by the word that the exchange read
abbrev pub noting : View → ℕ → View
noting v r = record v { looked = 0; seen = 0; notes = v.notes ++ record { shelf = v.looked - 1; seen = v.seen; read = r } ∷ [] }

abbrev pub releasing : View → List Item → List ℕ → View
releasing v items todo = record v { at = 0; word = 0; log = []; items = items; todo = todo }

abbrev pub Play : Type 0 → Type 1
Play S = Step (Option S) → Me (Option S) View → ℕ → Me (Option S) View → Type 0

module _ {S : Type 0} where
  abbrev pub peeked : Play S
  peeked st m r n = n ≡ (looking m.0 (st.word - 9) r, m.1)

  abbrev pub aimed : Play S
  aimed st m r n = n ≡ (record m.0 { aim = st.word }, m.1)

  abbrev pub raised : Play S
  raised st m r n = n ≡ (record m.0 { low = st.first }, m.1)

  -- the seat leaves
  abbrev pub telling : Play S
  telling st m r n = n ≡ (record m.0 { told = 1 }, m.1)

  -- the ticket is the number found
  abbrev pub drawn : Play S
  drawn st m r n = (n ≡ (record m.0 { low = r + 1; budget = m.0.budget - 1 }, m.1)) × (m.0.low ≤ r) × (0 < m.0.holder → Below r m.0.items) × ((i : ℕ) → m.0.at ≡ i + 1 → Below r m.0.log)

  module _ (fits : ℕ → List Item → S → Type 0) (cap : ℕ → ℕ) where
    abbrev pub Took : Me (Option S) View → ℕ → ℕ → Me (Option S) View → Type 0
    Took m i w n = (x : S) × (log : List Item) × (n ≡ (locking m.0 i w log, (i, Some x) ∷ m.1)) × fits i log x × Rises log × Below 10376293541461622784 log × (by m.0.holder log ≡ in_shelf i m.0.items) × (length (entries_of log) + times i m.0.todo ≤ cap i) × (w < 2305843009213693952)

    abbrev pub locked : Play S
    locked st m r n = (r ≡ st.first → (i : ℕ) → st.word ≡ i + 9 → Took m i st.second n) × (r ≢ st.first → n ≡ (noting m.0 r, m.1))

  -- one piece was done since the lock, an item that is told so
  abbrev pub did_some : (Item → Type 0) → Play S
  did_some tells st m r n = (x : Item) × tells x × (n ≡ (releasing m.0 (m.0.items ++ x ∷ []) (rest_of m.0.todo), rest m.1))

  -- a copy was made or failed, which changes no count
  abbrev pub copied_some : (Item → Type 0) → Play S
  copied_some tells st m r n = (x : Item) × tells x × (n ≡ (releasing m.0 (m.0.items ++ x ∷ []) m.0.todo, rest m.1))
