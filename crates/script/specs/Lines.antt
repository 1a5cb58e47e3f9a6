use Rattle.std.specs.Prelude.{ℕ, zero, suc, ◌+◌, ◌&&◌, ◌||◌, Bool, false, List, [], ◌∷◌, ◌++◌, length, slice_set, codes, Option, Some, None, nat_lt, ◌==◌, if◌then◌else◌}
use Rattle.std.specs.Str.{bytes_eq}
use Rattle.nvm_model.specs.declared.script.Act.{Act}
use Rattle.nvm_model.specs.declared.script.Head.{Head}
use Rattle.nvm_model.specs.declared.script.LaneSet.{LaneSet}
use Rattle.nvm_model.specs.declared.script.Script.{Script}
use Rattle.script.specs.declared.key.Key.{Key}
use Rattle.script.specs.declared.key.Key.TheVariants.{Blocks, Burst}
use Rattle.script.specs.declared.key.Due.{Due}
use Rattle.script.specs.declared.key.Due.TheVariants.{Title, Number, Lane, Behind, Body, Done}
use Rattle.script.specs.Words.{◌>>=◌, words_of, next, last, ranged_in, is_numeral}
use Rattle.script.specs.Keys.{key_word, with_number, lowest, highest, are_shelves, after, no_head}
use Rattle.script.specs.ActWords.{line_in, is_act_form}

-- Line by line: which line is due, its form, and what it adds to what was read.

-- the first line
abbrev pub title : List ℕ
title = codes "nvmigrate script 1"

-- the words behind a first one
abbrev pub lead : List ℕ → List (List ℕ) → Option (List (List ℕ))
lead word ws = next ws >>= λ w. if bytes_eq w.0 word then Some w.1 else None

-- a line of a word and another
abbrev pub keyed : List ℕ → List (List ℕ) → Option (List ℕ)
keyed word ws = lead word ws >>= last

-- the words of a lane's numbers
pub record LaneWords : Type 0 where
  pub sq : List ℕ
  pub cq : List ℕ
  pub pages : List ℕ

-- the line of lane k, which has one digit
unfoldable pub lane_words : ℕ → List (List ℕ) → Option LaneWords
lane_words k ws = do
  a ← lead (codes "lane") ws
  b ← lead ((48 + k) ∷ []) a
  c ← lead (codes "sq") b
  sq ← next c
  d ← lead (codes "cq") sq.1
  cq ← next d
  pages ← keyed (codes "pages") cq.1
  Some (record { sq = sq.0; cq = cq.0; pages = pages })

-- a lane's sizes by their words, where each is in its range
unfoldable pub set_of : LaneWords → Option LaneSet
set_of w = do
  sq ← ranged_in 2 64 w.sq
  cq ← ranged_in 2 256 w.cq
  pages ← ranged_in 1 256 w.pages
  Some (record { sq = sq; cq = cq; pages = pages })

-- a lane's sizes by the words of its line
abbrev pub set_in : ℕ → List (List ℕ) → Option LaneSet
set_in k ws = lane_words k ws >>= set_of

-- ---- forms

-- a word is there, and is a numeral
abbrev pub is_number : Option (List ℕ) → Bool
is_number None = false
is_number (Some w) = is_numeral w

-- the three words of a lane's line are there, and are numerals
abbrev pub are_numbers : Option LaneWords → Bool
are_numbers None = false
are_numbers (Some w) = is_numeral w.sq && is_numeral w.cq && is_numeral w.pages

-- a line has the form of `end` or of an act
abbrev pub is_body : List ℕ → Bool
is_body line = bytes_eq line (codes "end") || is_act_form (words_of line)

-- the form of the line that is due
abbrev pub is_due : Due → List ℕ → Bool
is_due Title line = bytes_eq line title
is_due (Number key) line = is_number (keyed (key_word key) (words_of line))
is_due (Lane k) line = nat_lt k 8 && are_numbers (lane_words (k + 1) (words_of line))
is_due Behind line = is_number (keyed (codes "migrate") (words_of line)) || is_body line
is_due Body line = is_body line
is_due Done line = false

-- which line is due behind one, in a script with so many lanes
abbrev pub due_next : ℕ → Due → Due
due_next lanes Title = Number Blocks
due_next lanes (Number key) = after key
due_next lanes (Lane k) = if k + 1 == lanes then Number Burst else Lane (k + 1)
due_next lanes Behind = Body
due_next lanes Body = Body
due_next lanes Done = Done

-- which line is due behind so many
unfoldable pub due_at : ℕ → ℕ → Due
due_at lanes zero = Title
due_at lanes (suc n) = due_next lanes (due_at lanes n)

-- ---- what was read

-- what was read: which line is due, the head so far, and the acts so far
pub record State : Type 0 where
  pub due : Due
  pub head : Head
  pub acts : List (ℕ × Act)

-- the script that was read
abbrev pub script_of : State → Script
script_of s = record { head = s.head; acts = s.acts }

-- nothing was read
abbrev pub start : State
start = record { due = Title; head = no_head; acts = [] }

-- a head's number by its line, where it is in its range
abbrev pub number_in : Key → Head → List ℕ → Option ℕ
number_in key h line = do
  w ← keyed (key_word key) (words_of line)
  n ← ranged_in (lowest key h) (highest key h) w
  if are_shelves key n h then Some n else None

-- after a lane's line
abbrev pub with_lane : ℕ → LaneSet → State → State
with_lane k set s = record { due = due_next s.head.lanes (Lane k); head = record s.head { sets = slice_set s.head.sets k set }; acts = s.acts }

-- after an act's line, where there are fewer than 65,536
abbrev pub with_act : ℕ × Act → State → Option State
with_act a s = if nat_lt (length s.acts) 65536 then Some (record { due = Body; head = s.head; acts = s.acts ++ a ∷ [] }) else None

-- an act, or the end
abbrev pub body_step : State → List ℕ → Option State
body_step s line = if bytes_eq line (codes "end") then Some (record s { due = Done }) else line_in s.head (words_of line) >>= λ a. with_act a s

-- after the line `migrate`, or after one where it may stand
abbrev pub with_turn : Option (List ℕ) → State → List ℕ → Option State
with_turn None s line = body_step s line
with_turn (Some w) s line = ranged_in 1 65535 w >>= λ turn. Some (record { due = Body; head = record s.head { migrate = Some turn }; acts = s.acts })

-- what was read after one more line, by which line is due
abbrev pub step_at : Due → State → List ℕ → Option State
step_at Title s line = if bytes_eq line title then Some (record s { due = Number Blocks }) else None
step_at (Number key) s line = number_in key s.head line >>= λ n. Some (record { due = after key; head = with_number key n s.head; acts = s.acts })
step_at (Lane k) s line = if nat_lt k 8 then (lane_words (k + 1) (words_of line) >>= set_of >>= λ set. Some (with_lane k set s)) else None
step_at Behind s line = with_turn (keyed (codes "migrate") (words_of line)) s line
step_at Body s line = body_step s line
step_at Done s line = None

-- what was read after one more line, if that is right
unfoldable pub step : State → List ℕ → Option State
step s line = step_at s.due s line

-- and after many
unfoldable pub run : State → List (List ℕ) → Option State
run s [] = Some s
run s (line ∷ lines) = step s line >>= λ t. run t lines
