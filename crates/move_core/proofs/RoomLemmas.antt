use Rattle.std.proofs.Common.{◌≡◌, ℕ, zero, suc, ◌+◌, ◌<◌, ◌≤◌, Bool, List, [], ◌∷◌, ◌++◌, ap, ◌∙◌, arith, drop, get_or, length, refl, replicate, set, sym, vec_capacity}
use Rattle.std.specs.Global.{Vec}
use Rattle.std.specs.List.{AllByRecursion}
use Rattle.mig_base.specs.declared.span.Span.{Span}
use Rattle.move_core.specs.Room.{HasRoom, IsInside}

-- What a core's fields always are goes on after each step.

-- what holds of all holds of all but the first
pub all_but_first : {X : Type 0} (P : X → Type 0) (xs : List X) → AllByRecursion P xs → AllByRecursion P (drop 1 xs)
all_but_first P [] all = tt
all_but_first P (x ∷ xs) all = all.1

-- and of one more behind
pub all_and_last : {X : Type 0} (P : X → Type 0) (xs : List X) (x : X) → AllByRecursion P xs → P x → AllByRecursion P (xs ++ x ∷ [])
all_and_last P [] x all last = (last, tt)
all_and_last P (y ∷ xs) x all last = (all.0, all_and_last P xs x all.1 last)

-- and of the one at a place, and where that is replaced
pub all_at : {X : Type 0} (P : X → Type 0) (xs : List X) (i : ℕ) (d : X) → i < length xs → AllByRecursion P xs → P (get_or xs i d)
all_at P [] i d there all = absurd (omega (arith, there))
all_at P (x ∷ xs) zero d there all = all.0
all_at P (x ∷ xs) (suc i) d there all = all_at P xs i d (omega (arith, there)) all.1

pub all_with : {X : Type 0} (P : X → Type 0) (xs : List X) (i : ℕ) (y : X) → AllByRecursion P xs → P y → AllByRecursion P (set xs i y)
all_with P [] i y all here = tt
all_with P (x ∷ xs) zero y all here = (here, all.1)
all_with P (x ∷ xs) (suc i) y all here = (all.0, all_with P xs i y all.1 here)

-- the next one of a list becomes as those before it
pub set_next : {X : Type 0} (v : X) (i : ℕ) (xs : List X) → i < length xs → set (replicate i v ++ drop i xs) i v ≡ replicate (i + 1) v ++ drop (i + 1) xs
set_next v i [] there = absurd (omega (arith, there))
set_next v zero (x ∷ xs) there = refl
set_next v (suc i) (x ∷ xs) there =
    let more : suc i + 1 ≡ suc (i + 1) = omega arith in
    rw more (ap (λ l. v ∷ l) (set_next v i xs (omega (arith, there))))

-- blocks of the source were written
pub with_source : {source new_source destination : List (List ℕ)} {owed : List Bool} {cells : ℕ} {log : Vec Span} {unposted : List (List Span)} →
    length new_source ≡ length source → HasRoom source destination owed cells log unposted → HasRoom new_source destination owed cells log unposted
with_source same room = record {
  destination_long = room.destination_long ∙ sym same;
  owed_long = room.owed_long ∙ sym same;
  few = rw same room.few;
  log_few = room.log_few;
  log_room = room.log_room;
  log_inside = rw same room.log_inside;
  lanes = room.lanes;
  lanes_inside = rw same room.lanes_inside;
}

-- blocks of the destination were written
pub with_destination : {source destination new_destination : List (List ℕ)} {owed : List Bool} {cells : ℕ} {log : Vec Span} {unposted : List (List Span)} →
    length new_destination ≡ length destination → HasRoom source destination owed cells log unposted → HasRoom source new_destination owed cells log unposted
with_destination same room = record {
  destination_long = same ∙ room.destination_long;
  owed_long = room.owed_long;
  few = room.few;
  log_few = room.log_few;
  log_room = room.log_room;
  log_inside = room.log_inside;
  lanes = room.lanes;
  lanes_inside = room.lanes_inside;
}

-- the oldest span of the log was taken
pub with_taken : {source destination : List (List ℕ)} {owed new_owed : List Bool} {cells : ℕ} {log new_log : Vec Span} {unposted : List (List Span)} →
    length new_owed ≡ length owed → new_log.items ≡ drop 1 log.items → vec_capacity new_log ≡ vec_capacity log → length new_log.items ≤ cells →
    HasRoom source destination owed cells log unposted → HasRoom source destination new_owed cells new_log unposted
with_taken {source = source} {log = log} same is capacity few room = record {
  destination_long = room.destination_long;
  owed_long = same ∙ room.owed_long;
  few = room.few;
  log_few = few;
  log_room = rw capacity room.log_room;
  log_inside = rw is (all_but_first (IsInside (length source)) log.items room.log_inside);
  lanes = room.lanes;
  lanes_inside = room.lanes_inside;
}

-- the spans of a lane changed
pub with_lane : {source destination : List (List ℕ)} {owed : List Bool} {cells : ℕ} {log : Vec Span} {unposted : List (List Span)} → (i : ℕ) (spans : List Span) →
    AllByRecursion (IsInside (length source)) spans → length (set unposted i spans) ≡ length unposted →
    HasRoom source destination owed cells log unposted → HasRoom source destination owed cells log (set unposted i spans)
with_lane {source = source} {unposted = unposted} i spans inside same room = record {
  destination_long = room.destination_long;
  owed_long = room.owed_long;
  few = room.few;
  log_few = room.log_few;
  log_room = room.log_room;
  log_inside = room.log_inside;
  lanes = same ∙ room.lanes;
  lanes_inside = all_with (AllByRecursion (IsInside (length source))) unposted i spans room.lanes_inside inside;
}
