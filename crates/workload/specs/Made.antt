use Rattle.std.specs.Prelude.{ℕ, zero, suc, ◌+◌, ◌-◌, ◌*◌, ◌/◌, ◌%◌, ◌^◌, ◌==◌, nat_lt, if◌then◌else◌, List, [], ◌∷◌, ◌++◌, Option, Some, None, map, replicate}
use Rattle.nvm_values.specs.declared.op.Op.{Op}
use Rattle.nvm_values.specs.declared.op.Op.TheVariants.{Read, Write, Compare, WriteZeroes}
use Rattle.nvm_model.specs.declared.script.Act.{Act}
use Rattle.nvm_model.specs.declared.script.Act.TheVariants.{Fill, Submit, Wait}
use Rattle.nvm_model.specs.declared.script.Head.{Head}
use Rattle.nvm_model.specs.declared.script.LaneSet.{LaneSet}
use Rattle.nvm_model.specs.declared.script.Script.{Script}
use Rattle.nvm_model.specs.Turn.{word_at}

-- A script that is made from a number: four lanes of 750 commands each. What a command is stands in one word of
-- SplitMix64, whose seed is the number.

-- the command that a word asks for: half of all are writes, a quarter reads
abbrev pub asked_op : ℕ → Op
asked_op word = if nat_lt (word % 8) 4 then Write else if nat_lt (word % 8) 6 then Read else if word % 8 == 6 then WriteZeroes else Compare

-- how many blocks it is on: from 1 to 16
abbrev pub asked_count : ℕ → ℕ
asked_count word = 1 + word / 2 ^ 8 % 16

-- Its first block. Stretches of sixteen blocks go to lanes 1 to 4 by turns, and this is the first block of one of them.
abbrev pub asked_first : ℕ → ℕ → ℕ
asked_first k word = 16 * (4 * (word / 2 ^ 16 % 1024) + (k - 1))

-- the byte that a write writes
abbrev pub asked_byte : ℕ → ℕ
asked_byte word = word / 2 ^ 40 % 256

-- the first of its two data pages: an even one below 64
abbrev pub asked_page : ℕ → ℕ
asked_page word = 2 * (word / 2 ^ 48 % 32)

-- a command that moves data has that page
abbrev pub first_page : Op → ℕ → Option ℕ
first_page WriteZeroes word = None
first_page _ word = Some (asked_page word)

-- and the next one, where it is on more blocks than a page holds
abbrev pub second_page : Op → ℕ → Option ℕ
second_page WriteZeroes word = None
second_page _ word = if nat_lt 8 (asked_count word) then Some (asked_page word + 1) else None

-- the command of that word in lane k
abbrev pub asked_command : ℕ → ℕ → ℕ → Act
asked_command k cid word =
    let op = asked_op word in
    Submit cid op (asked_first k word) (asked_count word) (first_page op word) (second_page op word)

-- before a write its guest fills the first page
abbrev pub fills : Op → ℕ → List Act
fills Write word = Fill (asked_page word) (asked_byte word) ∷ []
fills _ word = []

-- the acts of lane k by which that command is submitted
abbrev pub command_acts : ℕ → ℕ → ℕ → List (ℕ × Act)
command_acts k cid word = map (λ (act : Act). (k, act)) (fills (asked_op word) word ++ asked_command k cid word ∷ [])

-- The acts of the first n commands. Lanes 1 to 4 have one by turns, each with the next word, and each lane numbers its
-- own from 1.
unfoldable pub commands : ℕ → ℕ → List (ℕ × Act)
commands seed zero = []
commands seed (suc n) = commands seed n ++ command_acts (n % 4 + 1) (n / 4 + 1) (word_at seed n)

-- at the end each lane waits for all of its own, lanes 1 to k here
abbrev pub waits : ℕ → List (ℕ × Act)
waits zero = []
waits (suc k) = waits k ++ (k + 1, Wait) ∷ []

-- the sizes of a lane
abbrev pub made_set : LaneSet
made_set = record { sq = 64; cq = 64; pages = 64 }

-- the head: 64 shelves of 1,024 blocks, on which all lanes' blocks lie, and a move in rounds before turn 8
abbrev pub made_head : ℕ → Head
made_head seed = record {
  blocks = 65536;
  shelf = 1024;
  lanes = 4;
  sets = replicate 4 made_set ++ replicate 4 (record { sq = 0; cq = 0; pages = 0 });
  burst = 16;
  mix = seed % 2 ^ 32;
  change = 1024;
  slice = 2048;
  small = 4096;
  pages = 128;
  patience = 256;
  migrate = Some 8;
}

-- the script of a number
abbrev pub made : ℕ → Script
made seed = record { head = made_head seed; acts = commands seed 3000 ++ waits 4 }
