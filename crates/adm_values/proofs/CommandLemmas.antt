-- Commands and their bytes.
use Rattle.std.proofs.Common.{◌≡◌, ◌≢◌, ◌==◌, ◌<◌, ◌≤◌, ◌+◌, ◌-◌, ◌*◌, ◌/◌, ◌%◌, ℕ, zero, suc, Some, Ok, List, ◌∷◌, ◌++◌, cond, length, nat_lt, slice_index, ⊎_elim, refl, sym, ap, ◌∙◌, subst, arith}
use Rattle.std.proofs.lemmas.Bool.{cases_eq, cases_lt, cases_order, eq-eqb, le-ltb, lt-ltb, ne_eqb}
use Rattle.std.proofs.lemmas.List.{get_or-append_right}
use Rattle.std.specs.Int.{w16, w32, to_le_bytes}
use Rattle.std.specs.List.{flat_map}
use Rattle.nvm_values.specs.declared.sqe.Sqe.{Sqe}
use Rattle.nvm_values.specs.Sqe.{IsSqe, number_at, sqe_bytes, sqe_of}
use Rattle.nvm_values.proofs.PlaceLemmas.{number_at_2-lt}
use Rattle.nvm_values.proofs.SqeLemmas.{length-sqe_bytes, sqe_of-sqe_bytes}
use Rattle.adm_values.specs.declared.command.AdminCmd.{AdminCmd}
use Rattle.adm_values.specs.declared.command.What.{What}
use Rattle.adm_values.specs.declared.kind.Kind.{Kind}
use Rattle.adm_values.specs.Command.{GoesOn, IsCommand, IsFirstBad, command_bytes, opcode_of, select_of, entry_of}
use Rattle.adm_values.specs.Kinds.{FirstBadByte, HaveSame, IsRightTo, IsWithin, dword_at, kind_at, kind_of, limits_of, what_of}
use Rattle.adm_values.proofs.ByteLemmas.{byte_of_dword, byte_of_dwords, byte_of_word, same_lists}
use Rattle.adm_values.proofs.KindLemmas.{HasNumbers, dword_within, dwords_of, has_numbers, kind_found_at, kind_of-what_of, kind_tells, least_within_limits, one_within, what_of-dwords, words_small}

-- 64 bytes whose opcode and selector are those of a kind
pub record IsFor (kind : Kind) (b : List ℕ) : Type 0 where
  pub found : kind_at (slice_index b 0) (slice_index b 40) ≡ Ok kind
  pub size : length b ≡ 64
  pub small : (i : ℕ) → slice_index b i < 256

-- a command's bytes are its first four and its dwords from number 1 on
as_dwords : (c : AdminCmd) → command_bytes c ≡ (opcode_of c.what ∷ 0 ∷ to_le_bytes w16 c.cid) ++ flat_map (to_le_bytes w32) (dwords_of c.what)
unfolding sqe_bytes
as_dwords c = refl

byte_0 : (c : AdminCmd) → slice_index (command_bytes c) 0 ≡ opcode_of c.what
unfolding sqe_bytes
byte_0 c = refl

byte_1 : (c : AdminCmd) → slice_index (command_bytes c) 1 ≡ 0
unfolding sqe_bytes
byte_1 c = refl

byte_2 : (c : AdminCmd) → slice_index (command_bytes c) 2 ≡ slice_index (to_le_bytes w16 c.cid) 0
unfolding sqe_bytes
byte_2 c = refl

byte_3 : (c : AdminCmd) → slice_index (command_bytes c) 3 ≡ slice_index (to_le_bytes w16 c.cid) 1
unfolding sqe_bytes
byte_3 c = refl

byte_of_command : (c : AdminCmd) (d i : ℕ) → 1 ≤ d → d < 16 → i < 4
    → slice_index (command_bytes c) (4 * d + i) ≡ slice_index (to_le_bytes w32 (slice_index (dwords_of c.what) (d - 1))) i
byte_of_command c d i some few within =
    let front : List ℕ = opcode_of c.what ∷ 0 ∷ to_le_bytes w16 c.cid in
    let rest : List ℕ = flat_map (to_le_bytes w32) (dwords_of c.what) in
    let past : 4 * d + i - 4 ≡ 4 * (d - 1) + i = omega arith in
    ap (λ (b : List ℕ). slice_index b (4 * d + i)) (as_dwords c)
    ∙ get_or-append_right front rest 4 (4 * d + i) 0 refl (omega arith)
    ∙ ap (λ (k : ℕ). slice_index rest k) past
    ∙ byte_of_dwords (dwords_of c.what) (d - 1) i (omega arith) within

-- a command that goes on as the bytes do is of their kind
kind_is : (kind : Kind) (b : List ℕ) (w : What) → IsFor kind b → opcode_of w ≡ slice_index b 0 → select_of w ≡ slice_index b 40 → kind_of w ≡ kind
kind_is kind b w is o s = let found = kind_found_at w (slice_index b 0) (slice_index b 40) o s in let there = is.found in cc

-- none goes on behind a byte that no number within the limits of its dword has
stops : (kind : Kind) (b : List ℕ) (d byte : ℕ) → IsFor kind b → 1 ≤ d → d < 16 → byte < 4
    → ((y : ℕ) → IsWithin (limits_of kind d) y → HaveSame (byte + 1) y (dword_at b d) → ⊥) → GoesOn b (4 * d + byte + 1) → ⊥
stops kind b d byte is some few within none on =
    let c : AdminCmd = on.command in
    let size = is.size in
    none (slice_index (dwords_of c.what) (d - 1))
    (subst (λ (k : Kind). IsWithin (limits_of k d) (slice_index (dwords_of c.what) (d - 1))) (kind_is kind b c.what is on.opcode on.selector) (dword_within c.what d on.is.numbers some few))
    (λ i below. sym (byte_of_command c d i some few (omega arith)) ∙ on.same (4 * d + i) (omega arith) ∙ sym (byte_of_dword d i b (omega arith) is.small (omega arith)))

-- The dwords of a command that goes on as bytes do that are right before dword d: theirs before it, y in its place, and the
-- least numbers behind it.
abbrev pick : Kind → List ℕ → ℕ → ℕ → ℕ → ℕ
pick kind b d y j = cond (nat_lt j d) (dword_at b j) (cond (j == d) y (limits_of kind j).0)

pick_before : (kind : Kind) (b : List ℕ) (d y j : ℕ) → j < d → pick kind b d y j ≡ dword_at b j
pick_before kind b d y j below = ap (λ t. cond t (dword_at b j) (cond (j == d) y (limits_of kind j).0)) (lt-ltb j d below)

pick_at : (kind : Kind) (b : List ℕ) (d y j : ℕ) → j ≡ d → pick kind b d y j ≡ y
pick_at kind b d y j is =
    ap (λ t. cond t (dword_at b j) (cond (j == d) y (limits_of kind j).0)) (le-ltb j d (omega (arith, is))) ∙ ap (λ t. cond t y (limits_of kind j).0) (eq-eqb j d is)

pick_behind : (kind : Kind) (b : List ℕ) (d y j : ℕ) → d < j → pick kind b d y j ≡ (limits_of kind j).0
pick_behind kind b d y j above =
    let other : j ≢ d = λ e. absurd (omega (arith, e, above)) in
    ap (λ t. cond t (dword_at b j) (cond (j == d) y (limits_of kind j).0)) (le-ltb j d (omega arith)) ∙ ap (λ t. cond t y (limits_of kind j).0) (ne_eqb j d other)

-- Bytes that are right before dword d, and a number y for it that has its first bytes, so many of them. With d 16 all are
-- right.
pub record MayGoOn (kind : Kind) (b : List ℕ) (d count y : ℕ) : Type 0 where
  pub is : IsFor kind b
  pub right : IsRightTo kind b d
  pub some : 1 ≤ d
  pub end : 4 * d + count ≤ 64
  pub part : count ≤ 4
  pub within : d < 16 → IsWithin (limits_of kind d) y
  pub same : d < 16 → HaveSame count y (dword_at b d)

pick_within : (kind : Kind) (b : List ℕ) (d count y j : ℕ) → MayGoOn kind b d count y → 1 ≤ j → j < 16 → IsWithin (limits_of kind j) (pick kind b d y j)
pick_within kind b d count y j may some few =
    let P : ℕ → Type 0 = λ x. IsWithin (limits_of kind j) x in
    ⊎_elim (λ at. subst P (sym (pick_at kind b d y j at)) (subst (λ n. IsWithin (limits_of kind n) y) (sym at) (may.within (omega (arith, at, few)))))
    (λ other. ⊎_elim (λ below. subst P (sym (pick_before kind b d y j below)) (may.right.dwords j some below))
    (λ above. subst P (sym (pick_behind kind b d y j above)) (least_within_limits kind j))
    other)
    (cases_order j d)

abbrev witness : Kind → List ℕ → ℕ → ℕ → AdminCmd
witness kind b d y = record { cid = number_at w16 2 b; what = what_of kind (pick kind b d y 11) (pick kind b d y 12) }

numbers_of : (kind : Kind) (b : List ℕ) (d count y : ℕ) → MayGoOn kind b d count y → HasNumbers kind (pick kind b d y 11) (pick kind b d y 12)
numbers_of kind b d count y may =
    has_numbers kind (pick kind b d y 11) (pick kind b d y 12) (pick_within kind b d count y 11 may (omega arith) (omega arith)) (pick_within kind b d count y 12 may (omega arith) (omega arith))

-- each of its dwords is the one that was picked
dword_picked : (kind : Kind) (b : List ℕ) (d count y j : ℕ) → MayGoOn kind b d count y → 1 ≤ j → j < 16 → slice_index (dwords_of (witness kind b d y).what) (j - 1) ≡ pick kind b d y j
dword_picked kind b d count y j may some few =
    let w : What = (witness kind b d y).what in
    let numbers = numbers_of kind b d count y may in
    let P : ℕ → Type 0 = λ n. slice_index (dwords_of w) (n - 1) ≡ pick kind b d y n in
    ⊎_elim (λ at_11. subst P (sym at_11) numbers.dword_11_is)
    (λ not_11. ⊎_elim (λ at_12. subst P (sym at_12) numbers.dword_12_is)
    (λ not_12. one_within kind j (slice_index (dwords_of w) (j - 1)) (pick kind b d y j) not_11 not_12
    (subst (λ (k : Kind). IsWithin (limits_of k j) (slice_index (dwords_of w) (j - 1))) (kind_of-what_of kind (pick kind b d y 11) (pick kind b d y 12)) (dword_within w j numbers.range some few))
    (pick_within kind b d count y j may some few))
    (cases_eq j 12))
    (cases_eq j 11)

-- a byte of a dword that goes on so
picked_byte : (kind : Kind) (b : List ℕ) (d count y j i : ℕ) → MayGoOn kind b d count y → 1 ≤ j → j < 16 → i < 4 → 4 * j + i < 4 * d + count
    → slice_index (to_le_bytes w32 (pick kind b d y j)) i ≡ slice_index (to_le_bytes w32 (dword_at b j)) i
picked_byte kind b d count y j i may some few within below =
    ⊎_elim (λ before. ap (λ x. slice_index (to_le_bytes w32 x) i) (pick_before kind b d y j before))
    (λ not_before.
    let part = may.part in
    let at : j ≡ d = omega arith in
    ap (λ x. slice_index (to_le_bytes w32 x) i) (pick_at kind b d y j at)
    ∙ may.same (omega (arith, at, few)) i (omega (arith, at, below))
    ∙ ap (λ n. slice_index (to_le_bytes w32 (dword_at b n)) i) (sym at))
    (cases_lt j d)

-- so the command has the same bytes
same_bytes : (kind : Kind) (b : List ℕ) (d count y i : ℕ) → MayGoOn kind b d count y → i < 4 * d + count → slice_index (command_bytes (witness kind b d y)) i ≡ slice_index b i
same_bytes kind b d count y zero may below = byte_0 (witness kind b d y) ∙ (kind_tells kind (slice_index b 0) (slice_index b 40) (pick kind b d y 11) (pick kind b d y 12) may.is.found).0
same_bytes kind b d count y (suc zero) may below = byte_1 (witness kind b d y) ∙ sym may.right.flags
same_bytes kind b d count y (suc (suc zero)) may below = byte_2 (witness kind b d y) ∙ byte_of_word 2 0 b (omega (arith, may.is.size)) may.is.small (omega arith)
same_bytes kind b d count y (suc (suc (suc zero))) may below = byte_3 (witness kind b d y) ∙ byte_of_word 2 1 b (omega (arith, may.is.size)) may.is.small (omega arith)
same_bytes kind b d count y (suc (suc (suc (suc k)))) may below =
    let i : ℕ = suc (suc (suc (suc k))) in
    let j : ℕ = i / 4 in
    let r : ℕ = i % 4 in
    let parts : 4 * j + r ≡ i = omega arith in
    let some : 1 ≤ j = omega arith in
    let few : j < 16 = omega (arith, may.end) in
    let here : slice_index (command_bytes (witness kind b d y)) (4 * j + r) ≡ slice_index b (4 * j + r)
    = byte_of_command (witness kind b d y) j r some few (omega arith)
    ∙ ap (λ x. slice_index (to_le_bytes w32 x) r) (dword_picked kind b d count y j may some few)
    ∙ picked_byte kind b d count y j r may some few (omega arith) (omega arith)
    ∙ byte_of_dword j r b (omega (arith, may.is.size)) may.is.small (omega arith) in
    subst (λ n. slice_index (command_bytes (witness kind b d y)) n ≡ slice_index b n) parts here

witness_is : (kind : Kind) (b : List ℕ) (d count y : ℕ) → MayGoOn kind b d count y → IsCommand (witness kind b d y)
witness_is kind b d count y may = record { cid = number_at_2-lt 2 b may.is.small; numbers = (numbers_of kind b d count y may).range }

goes_on : (kind : Kind) (b : List ℕ) (d count y : ℕ) → MayGoOn kind b d count y → GoesOn b (4 * d + count)
goes_on kind b d count y may =
    let tells = kind_tells kind (slice_index b 0) (slice_index b 40) (pick kind b d y 11) (pick kind b d y 12) may.is.found in
    record { command = witness kind b d y; is = witness_is kind b d count y may; opcode = tells.0; selector = tells.1; same = λ i below. same_bytes kind b d count y i may below }

-- The first bad byte.

-- in a dword
pub bad_dword : (kind : Kind) (b : List ℕ) (d byte : ℕ) → IsFor kind b → IsRightTo kind b d → 1 ≤ d → d < 16
    → FirstBadByte (limits_of kind d) (dword_at b d) (Some byte) → IsFirstBad b (4 * d + byte)
bad_dword kind b d byte is right some few bad =
    let within = bad.0 in
    record {
      there = omega (arith, within);
      before = goes_on kind b d byte bad.1.0 (record { is = is; right = right; some = some; end = omega (arith, within); part = omega (arith, within); within = λ _. bad.1.1; same = λ _. bad.1.2 });
      no_more = stops kind b d byte is some few within bad.2;
    }

-- in byte 1
pub bad_flags : (kind : Kind) (b : List ℕ) → IsFor kind b → slice_index b 1 ≢ 0 → IsFirstBad b 1
bad_flags kind b is other =
    let first = least_within_limits kind 11 in
    let second = least_within_limits kind 12 in
    let c : AdminCmd = record { cid = 0; what = what_of kind (limits_of kind 11).0 (limits_of kind 12).0 } in
    let numbers = has_numbers kind (limits_of kind 11).0 (limits_of kind 12).0 first second in
    let tells = kind_tells kind (slice_index b 0) (slice_index b 40) (limits_of kind 11).0 (limits_of kind 12).0 is.found in
    record {
      there = omega arith;
      before = record {
        command = c;
        is = record { cid = omega arith; numbers = numbers.range };
        opcode = tells.0;
        selector = tells.1;
        same = λ i below. let zero_is : i ≡ 0 = omega arith in subst (λ n. slice_index (command_bytes c) n ≡ slice_index b n) (sym zero_is) (byte_0 c ∙ tells.0);
      };
      no_more = λ on. other (sym (on.same 1 (omega arith)) ∙ byte_1 on.command);
    }

-- Bytes that are right are a command's.
pub command_of : (kind : Kind) (b : List ℕ) → IsFor kind b → IsRightTo kind b 16
    → (c : AdminCmd) → c.cid ≡ number_at w16 2 b → c.what ≡ what_of kind (dword_at b 11) (dword_at b 12) → IsCommand c × (command_bytes c ≡ b)
command_of kind b is right c cid_is what_is =
    let may : MayGoOn kind b 16 0 0 = record { is = is; right = right; some = omega arith; end = omega arith; part = omega arith; within = λ few. absurd (omega arith); same = λ few. absurd (omega arith) } in
    let c_is : c ≡ witness kind b 16 0 = λ k. record { cid = cid_is k; what = what_is k } in
    let all = same_lists (command_bytes (witness kind b 16 0)) b (length-sqe_bytes (entry_of (witness kind b 16 0)) ∙ sym is.size)
    (λ i below. same_bytes kind b 16 0 0 i may (omega (arith, below, length-sqe_bytes (entry_of (witness kind b 16 0))))) in
    subst (λ (x : AdminCmd). IsCommand x × (command_bytes x ≡ b)) (sym c_is) (witness_is kind b 16 0 0 may, all)

-- A command's bytes are read as that command.

-- the numbers of its entry fit their fields
entry_is : (c : AdminCmd) → IsCommand c → IsSqe (entry_of c)
entry_is c is =
    let small = words_small c.what is.numbers in
    record {
      opcode = small.opcode;
      flags = omega arith;
      cid = is.cid;
      nsid = omega arith;
      cdw2 = omega arith;
      cdw3 = omega arith;
      mptr = omega arith;
      prp1 = omega arith;
      prp2 = omega arith;
      cdw10 = omega (arith, small.select);
      cdw11 = small.dword_11;
      cdw12 = small.dword_12;
      cdw13 = omega arith;
      cdw14 = omega arith;
      cdw15 = omega arith;
    }

byte_40 : (c : AdminCmd) → slice_index (command_bytes c) 40 ≡ select_of c.what % 256
unfolding sqe_bytes
byte_40 c = refl

own_opcode : (c : AdminCmd) (b : List ℕ) → command_bytes c ≡ b → opcode_of c.what ≡ slice_index b 0
own_opcode c b bytes = sym (byte_0 c) ∙ ap (λ (x : List ℕ). slice_index x 0) bytes

own_selector : (c : AdminCmd) (b : List ℕ) → IsCommand c → command_bytes c ≡ b → select_of c.what ≡ slice_index b 40
own_selector c b is bytes =
    let small = (words_small c.what is.numbers).select in
    let selector_is : select_of c.what ≡ select_of c.what % 256 = omega (arith, small) in
    selector_is ∙ sym (byte_40 c) ∙ ap (λ (x : List ℕ). slice_index x 40) bytes

-- their kind is found
pub own_kind : (c : AdminCmd) (b : List ℕ) → IsCommand c → command_bytes c ≡ b → kind_at (slice_index b 0) (slice_index b 40) ≡ Ok (kind_of c.what)
own_kind c b is bytes = kind_found_at c.what (slice_index b 0) (slice_index b 40) (own_opcode c b bytes) (own_selector c b is bytes)

-- it goes on as they do to the end
pub own_bytes : (c : AdminCmd) (b : List ℕ) (end : ℕ) → IsCommand c → command_bytes c ≡ b → GoesOn b end
own_bytes c b end is bytes =
    record { command = c; is = is; opcode = own_opcode c b bytes; selector = own_selector c b is bytes; same = λ i below. ap (λ (x : List ℕ). slice_index x i) bytes }

-- and what is read of them is the command
pub own_value : (c read : AdminCmd) (kind : Kind) (b : List ℕ) → kind_at (slice_index b 0) (slice_index b 40) ≡ Ok kind → IsCommand c → command_bytes c ≡ b
    → read.cid ≡ number_at w16 2 b → read.what ≡ what_of kind (dword_at b 11) (dword_at b 12) → read ≡ c
own_value c read kind b found is bytes cid_is what_is =
    let there = own_kind c b is bytes in
    let kind_same : kind ≡ kind_of c.what = cc in
    let entry : sqe_of b ≡ entry_of c = ap sqe_of (sym bytes) ∙ sqe_of-sqe_bytes (entry_of c) (entry_is c is) in
    let cid : read.cid ≡ c.cid = cid_is ∙ ap (λ (e : Sqe). e.cid) entry in
    let what : read.what ≡ c.what = what_is ∙ (λ k. what_of (kind_same k) (entry k).cdw11 (entry k).cdw12) ∙ what_of-dwords c.what in
    λ k. record { cid = cid k; what = what k }

-- So no two commands have the same bytes.
pub same_command : (a b : AdminCmd) → IsCommand a → IsCommand b → command_bytes a ≡ command_bytes b → a ≡ b
same_command a b a_is b_is bytes =
    own_value b a (kind_of a.what) (command_bytes a) (own_kind a (command_bytes a) a_is refl) b_is (sym bytes) (own_cid a a_is) (own_what a a_is)
  where
    entry : (c : AdminCmd) → IsCommand c → sqe_of (command_bytes c) ≡ entry_of c
    entry c is = sqe_of-sqe_bytes (entry_of c) (entry_is c is)

    own_cid : (c : AdminCmd) → IsCommand c → c.cid ≡ number_at w16 2 (command_bytes c)
    own_cid c is = sym (ap (λ (e : Sqe). e.cid) (entry c is))

    own_what : (c : AdminCmd) → IsCommand c → c.what ≡ what_of (kind_of c.what) (dword_at (command_bytes c) 11) (dword_at (command_bytes c) 12)
    own_what c is = sym (what_of-dwords c.what) ∙ (λ k. what_of (kind_of c.what) (sym (entry c is) k).cdw11 (sym (entry c is) k).cdw12)
