use Rattle.std.proofs.Common.{◌≡◌, ℕ, zero, suc, ◌+◌, ◌-◌, ◌*◌, ◌/◌, ◌%◌, ◌^◌, ◌<◌, ◌≤◌, ◌++◌, List, ◌∷◌, [], Bool, true, false, Some, None, cond, nat_lt, length, map, refl, sym, subst, arith, length-append}
use Rattle.std.specs.List.{AllByRecursion}
use Rattle.mig_base.proofs.ListLemmas.{all_append}
use Rattle.nvm_values.specs.declared.op.Op.{Op}
use Rattle.nvm_values.specs.declared.op.Op.TheVariants.{Write, WriteZeroes}
use Rattle.nvm_model.specs.declared.script.Act.{Act}
use Rattle.nvm_model.specs.declared.script.Act.TheVariants.{Fill, Wait}
use Rattle.nvm_model.specs.declared.script.Head.{Head}
use Rattle.nvm_model.specs.ScriptText.{IsAct, IsActLine, IsHead, IsPage, IsScript, IsSet}
use Rattle.nvm_model.specs.Turn.{word_at}
use Rattle.nvm_model.specs.World.{set_of}
use Rattle.workload.specs.Apart.{AreApart, IsOn}
use Rattle.workload.specs.Made.{asked_byte, asked_command, asked_count, asked_op, asked_page, command_acts, commands, fills, first_page, made, made_head, made_set, second_page, waits}

-- A made script is in the grammar.

-- the pages of a command
pages_few : (word : ℕ) → asked_page word + 1 < 64
pages_few word = omega arith

first_is : (op : Op) (word : ℕ) → IsPage 64 (first_page op word)
first_is WriteZeroes word = tt
first_is _ word = omega (arith, pages_few word)

where_more : (more : Bool) (page : ℕ) → page < 64 → IsPage 64 (cond more (Some page) None)
where_more true page few = few
where_more false page few = tt

second_is : (op : Op) (word : ℕ) → IsPage 64 (second_page op word)
second_is WriteZeroes word = tt
second_is _ word = where_more (nat_lt 8 (asked_count word)) (asked_page word + 1) (pages_few word)

-- a command
command_is : (k cid word : ℕ) → 1 ≤ k → k ≤ 4 → cid ≤ 750 → IsAct 64 (asked_command k cid word)
command_is k cid word some few small = (omega arith, omega arith, omega arith, omega arith, first_is (asked_op word) word, second_is (asked_op word) word)

-- each of the four lanes has 64 pages
pages_are : (seed k : ℕ) → 1 ≤ k → k ≤ 4 → (set_of (made_head seed) k).pages ≡ 64
pages_are seed zero some few = absurd (omega (arith, some))
pages_are seed (suc zero) some few = refl
pages_are seed (suc (suc zero)) some few = refl
pages_are seed (suc (suc (suc zero))) some few = refl
pages_are seed (suc (suc (suc (suc zero)))) some few = refl
pages_are seed (suc (suc (suc (suc (suc k))))) some few = absurd (omega (arith, few))

line_is : (seed k : ℕ) (act : Act) → 1 ≤ k → k ≤ 4 → IsAct 64 act → IsActLine (made_head seed) (k, act)
line_is seed k act some few is = (some, few, subst (λ (pages : ℕ). IsAct pages act) (sym (pages_are seed k some few)) is)

-- the acts of a command
lines_are : (seed k : ℕ) (op : Op) (word : ℕ) (act : Act) → 1 ≤ k → k ≤ 4 → IsAct 64 act → AllByRecursion (IsActLine (made_head seed)) (map (λ (a : Act). (k, a)) (fills op word ++ act ∷ []))
lines_are seed k Write word act some few is = (line_is seed k (Fill (asked_page word) (asked_byte word)) some few (omega (arith, pages_few word), omega arith), (line_is seed k act some few is, tt))
lines_are seed k _ word act some few is = (line_is seed k act some few is, tt)

-- the acts of all commands
commands_are : (seed n : ℕ) → n ≤ 3000 → AllByRecursion (IsActLine (made_head seed)) (commands seed n)
unfolding commands
commands_are seed zero few = tt
commands_are seed (suc n) few =
    let word = word_at seed n in
    let k = n % 4 + 1 in
    let cid = n / 4 + 1 in
    all_append (IsActLine (made_head seed)) (commands seed n) (command_acts k cid word) (commands_are seed n (omega (arith, few)))
    (lines_are seed k (asked_op word) word (asked_command k cid word) (omega arith) (omega arith) (command_is k cid word (omega arith) (omega arith) (omega (arith, few))))

-- a command has at most two
two_each : (k : ℕ) (op : Op) (word : ℕ) (act : Act) → length {A = ℕ × Act} (map (λ (a : Act). (k, a)) (fills op word ++ act ∷ [])) ≤ 2
two_each k Write word act = omega arith
two_each k _ word act = omega arith

commands_few : (seed n : ℕ) → length (commands seed n) ≤ 2 * n
unfolding commands
commands_few seed zero = omega arith
commands_few seed (suc n) =
    let word = word_at seed n in
    let k = n % 4 + 1 in
    let cid = n / 4 + 1 in
    omega (arith, length-append (commands seed n) (command_acts k cid word), commands_few seed n, two_each k (asked_op word) word (asked_command k cid word))

-- the sizes of a lane
set_is : IsSet made_set
set_is = (omega arith, omega arith, omega arith, omega arith, omega arith, omega arith)

-- the head
head_is : (seed : ℕ) → IsHead (made_head seed)
head_is seed = record {
  blocks = (omega arith, omega arith);
  shelf = (omega arith, omega arith);
  shelves = (64, omega arith, refl);
  lanes = (omega arith, omega arith);
  sets = (refl, (set_is, (set_is, (set_is, (set_is, tt)))));
  rest = refl;
  burst = (omega arith, omega arith);
  mix = omega arith;
  change = (omega arith, omega arith);
  slice = (omega arith, omega arith);
  small = (omega arith, omega arith);
  pages = (omega arith, omega arith);
  patience = (omega arith, omega arith);
  migrate = (omega arith, omega arith);
}

-- the waits
waits_are : (seed k : ℕ) → k ≤ 4 → AllByRecursion (IsActLine (made_head seed)) (waits k)
waits_are seed zero few = tt
waits_are seed (suc k) few = all_append (IsActLine (made_head seed)) (waits k) ((k + 1, Wait) ∷ []) (waits_are seed k (omega (arith, few))) (line_is seed (k + 1) Wait (omega arith) (omega (arith, few)) tt, tt)

made_is : (seed : ℕ) → IsScript (made seed)
made_is seed = record {
  head = head_is seed;
  acts = all_append (IsActLine (made_head seed)) (commands seed 3000) (waits 4) (commands_are seed 3000 (omega arith)) (waits_are seed 4 (omega arith));
  few = omega (arith, length-append (commands seed 3000) (waits 4), commands_few seed 3000);
}

-- a script of this head and these acts is that one
pub made_of : (seed : ℕ) (head : Head) (acts : List (ℕ × Act)) → head ≡ made_head seed → acts ≡ commands seed 3000 ++ waits 4 → IsScript (record { head = head; acts = acts })
made_of seed head acts head_same acts_same =
    subst (λ (h : Head). IsScript (record { head = h; acts = acts })) (sym head_same)
    (subst (λ (list : List (ℕ × Act)). IsScript (record { head = made_head seed; acts = list })) (sym acts_same) (made_is seed))

-- Each block has one lane.

-- the lane of a block: stretches of sixteen go to the four by turns
owner_of : ℕ → ℕ
owner_of block = block / 16 % 4 + 1

abbrev IsOwn : ℕ × Act → Type 0
IsOwn a = (block : ℕ) → IsOn block a.1 → a.0 ≡ owner_of block

own_block : (k stretch count block : ℕ) → 1 ≤ k → k ≤ 4 → count ≤ 16 → 16 * (4 * stretch + (k - 1)) ≤ block → block < 16 * (4 * stretch + (k - 1)) + count → k ≡ owner_of block
unfolding owner_of
own_block k stretch count block some few small from to = omega arith

owns : (k : ℕ) (op : Op) (cid word : ℕ) → 1 ≤ k → k ≤ 4 → AllByRecursion IsOwn (map (λ (a : Act). (k, a)) (fills op word ++ asked_command k cid word ∷ []))
owns k Write cid word some few = (λ block none. absurd none, (λ block on. own_block k (word / 2 ^ 16 % 1024) (asked_count word) block some few (omega arith) on.0 on.1, tt))
owns k _ cid word some few = (λ block on. own_block k (word / 2 ^ 16 % 1024) (asked_count word) block some few (omega arith) on.0 on.1, tt)

all_own : (seed n : ℕ) → AllByRecursion IsOwn (commands seed n)
unfolding commands
all_own seed zero = tt
all_own seed (suc n) =
    let word = word_at seed n in
    let k = n % 4 + 1 in
    let cid = n / 4 + 1 in
    all_append IsOwn (commands seed n) (command_acts k cid word) (all_own seed n) (owns k (asked_op word) cid word (omega arith) (omega arith))

waits_own : (k : ℕ) → AllByRecursion IsOwn (waits k)
waits_own zero = tt
waits_own (suc k) = all_append IsOwn (waits k) ((k + 1, Wait) ∷ []) (waits_own k) (λ block none. absurd none, tt)

pub made_apart : (seed : ℕ) → AreApart (made seed).acts
made_apart seed = (owner_of, all_append IsOwn (commands seed 3000) (waits 4) (all_own seed 3000) (waits_own 4))
