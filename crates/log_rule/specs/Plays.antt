-- What each step on a log's table tells: of the step, the seat before, the number found and the seat after.
use Rattle.std.specs.Prelude.{◌≡◌, ◌≢◌, ℕ, ◌+◌, ◌-◌, ◌<◌, [], ◌∷◌, ◌++◌, length, slice_set}
use Rattle.atomic_table.specs.Table.{Me, Step}
use Rattle.nvm_model.specs.Event.{phase_of}
use Rattle.log_rule.specs.Places.{entry, tag}
use Rattle.log_rule.specs.declared.view.Desk.{Desk}
use Rattle.log_rule.specs.declared.view.View.{View}

abbrev pub fresh : ℕ → ℕ → ℕ → View
fresh cells number seats = record {
  cells = cells;
  number = number;
  live = 1;
  pending = 0;
  head = 0;
  seen = 0;
  budget = 1152921504606846976;
  seats = seats;
  posted = [];
  taken = [];
  lost = [];
  empty = [];
  desks = [];
}

abbrev pub opener : ℕ → View
opener cells = fresh cells 0 8

abbrev pub spent : View
spent = record (fresh 0 0 0) { live = 0; budget = 0 }

abbrev pub out_desk : Desk
out_desk = record { out = 1; posted = [] }

abbrev pub split_left : View → View
split_left v = record v { seats = v.seats - 1; desks = v.desks ++ out_desk ∷ [] }

abbrev pub split_right : View → View
split_right v = fresh v.cells (length v.desks + 1) 0

-- the first seat keeps what the other posted, and its notes
abbrev pub joined : View → View → View
joined v w = record v {
  lost = v.lost ++ w.lost;
  desks = slice_set v.desks (w.number - 1) (record { out = 0; posted = w.posted });
}

abbrev pub drawing : View → ℕ → View
drawing v r = record v { pending = r + 1; head = 0; budget = v.budget - 1 }

abbrev pub looking : View → ℕ → View
looking v r = record v { head = r + 1 }

-- the drawn position is given up
abbrev pub losing : View → View
losing v = record v { pending = 0; head = 0; lost = v.lost ++ record { at = v.pending - 1; head = v.head - 1 } ∷ [] }

-- the drawn position is filled
abbrev pub posting : View → ℕ → View
posting v w = record v { pending = 0; head = 0; posted = v.posted ++ entry (v.pending - 1) w ∷ [] }

-- an entry stands at the head
abbrev pub finding : View → ℕ → View
finding v w = record v { seen = w + 1 }

-- none stands at the head
abbrev pub missing : View → ℕ → View
missing v w = record v { head = 0; empty = v.empty ++ record { head = v.head - 1; word = w } ∷ [] }

abbrev pub taking : View → View
taking v = record v { head = 0; seen = 0; taken = v.taken ++ (v.seen - 1) ∷ [] }

abbrev pub Play : Type 0 → Type 1
Play S = Step S → Me S View → ℕ → Me S View → Type 0

module _ {S : Type 0} where
  abbrev pub drawn : Play S
  drawn st m r n = (n ≡ (drawing m.0 r, m.1)) × (r + m.0.budget < 11529215046068469760)

  abbrev pub looked : Play S
  looked st m r n = (n ≡ (looking m.0 r, m.1)) × (r < 11529215046068469760)

  abbrev pub lost : Play S
  lost st m r n = n ≡ (losing m.0, m.1)

  abbrev pub posted : Play S
  posted st m r n = n ≡ (posting m.0 st.first, m.1)

  abbrev pub found : (good : ℕ → Type 0) → Play S
  found good st m r n = (tag r ≡ phase_of m.0.cells (m.0.head - 1) → (n ≡ (finding m.0 r, m.1)) × good r) × (tag r ≢ phase_of m.0.cells (m.0.head - 1) → n ≡ (missing m.0 r, m.1))

  abbrev pub took : Play S
  took st m r n = n ≡ (taking m.0, m.1)
