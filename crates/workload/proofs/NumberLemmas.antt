use Rattle.std.proofs.Common.{◌≡◌, ⊎_elim, ℕ, zero, suc, ◌+◌, ◌-◌, ◌/◌, ◌%◌, ◌≤◌, ◌==◌, ◌++◌, List, ◌∷◌, [], Bool, true, false, filter, map, refl, sym, ap, ◌∙◌, add-one, append-nil, arith, eq-eqb}
use Rattle.std.specs.List.{flat_map}
use Rattle.std.proofs.lemmas.Bool.{cases_eq, ne_eqb}
use Rattle.std.proofs.lemmas.Grind.{flat_map-append}
use Rattle.std.proofs.lemmas.List.{map-append}
use Rattle.std.proofs.lemmas.List.Elements.{filter-append}
use Rattle.nvm_values.specs.declared.op.Op.{Op}
use Rattle.nvm_values.specs.declared.op.Op.TheVariants.{Write}
use Rattle.nvm_model.specs.declared.script.Act.{Act}
use Rattle.nvm_model.specs.declared.script.Act.TheVariants.{Wait}
use Rattle.nvm_model.specs.Turn.{word_at}
use Rattle.nvm_model.specs.World.{acts_of}
use Rattle.workload.specs.Apart.{numbers_to, submitted_cid}
use Rattle.workload.specs.Made.{asked_command, asked_op, command_acts, commands, fills, made, waits}

-- Each lane's commands are numbered from 1.

-- the identifiers of a lane's commands, in order
abbrev cids : ℕ → List (ℕ × Act) → List ℕ
cids k acts = flat_map submitted_cid (acts_of k acts)

cids_append : (k : ℕ) (xs ys : List (ℕ × Act)) → cids k (xs ++ ys) ≡ cids k xs ++ cids k ys
cids_append k xs ys =
    let own = λ (a : ℕ × Act). a.0 == k in
    let act = λ (a : ℕ × Act). a.1 in
    ap (λ (acts : List (ℕ × Act)). flat_map submitted_cid (map act acts)) (filter-append own xs ys)
    ∙ ap (λ (acts : List Act). flat_map submitted_cid acts) (map-append act (filter own xs) (filter own ys))
    ∙ flat_map-append submitted_cid (map act (filter own xs)) (map act (filter own ys))

-- a command of the lane has its number
own_cid : (k j : ℕ) (op : Op) (cid word : ℕ) → j ≡ k → cids k (map (λ (a : Act). (j, a)) (fills op word ++ asked_command j cid word ∷ [])) ≡ cid ∷ []
own_cid k j Write cid word own = let e : (j == k) ≡ true = eq-eqb j k own in rw e refl
own_cid k j _ cid word own = let e : (j == k) ≡ true = eq-eqb j k own in rw e refl

-- one of another lane has none
other_cid : (k j : ℕ) (op : Op) (cid word : ℕ) → (j ≡ k → ⊥) → cids k (map (λ (a : Act). (j, a)) (fills op word ++ asked_command j cid word ∷ [])) ≡ []
other_cid k j Write cid word other = let e : (j == k) ≡ false = ne_eqb j k other in rw e refl
other_cid k j _ cid word other = let e : (j == k) ≡ false = ne_eqb j k other in rw e refl

-- a wait has none
wait_cid : (k j : ℕ) (same : Bool) → (j == k) ≡ same → cids k ((j, Wait) ∷ []) ≡ []
wait_cid k j true e = rw e refl
wait_cid k j false e = rw e refl

waits_cids : (k n : ℕ) → cids k (waits n) ≡ []
waits_cids k zero = refl
waits_cids k (suc n) =
    let both = cids_append k (waits n) ((n + 1, Wait) ∷ []) in
    let before = waits_cids k n in
    let last = wait_cid k (n + 1) (n + 1 == k) refl in
    both ∙ ap (λ (xs : List ℕ). xs ++ cids k ((n + 1, Wait) ∷ [])) before ∙ last

-- how many of the first n commands are of lane k
count_to : ℕ → ℕ → ℕ
count_to n k = (n + 4 - k) / 4

none_yet : (k : ℕ) → 1 ≤ k → numbers_to (count_to 0 k) ≡ []
unfolding numbers_to count_to
none_yet k some = let e : (0 + 4 - k) / 4 ≡ 0 = omega (arith, some) in ap numbers_to e

number_more : (n : ℕ) → numbers_to (n + 1) ≡ numbers_to n ++ (n + 1) ∷ []
unfolding numbers_to
number_more n = ap numbers_to (add-one n)

one_more : (n k : ℕ) → 1 ≤ k → k ≤ 4 → n % 4 + 1 ≡ k → numbers_to (count_to (suc n) k) ≡ numbers_to (count_to n k) ++ (n / 4 + 1) ∷ []
unfolding count_to
one_more n k some few own =
    let m = (n + 4 - k) / 4 in
    let next : (suc n + 4 - k) / 4 ≡ m + 1 = omega (arith, some, few, own) in
    let last : m + 1 ≡ n / 4 + 1 = omega (arith, some, few, own) in
    ap numbers_to next ∙ number_more m ∙ ap (λ (x : ℕ). numbers_to m ++ x ∷ []) last

no_more : (n k : ℕ) → 1 ≤ k → k ≤ 4 → (n % 4 + 1 ≡ k → ⊥) → numbers_to (count_to (suc n) k) ≡ numbers_to (count_to n k)
unfolding count_to
no_more n k some few other =
    let same : (suc n + 4 - k) / 4 ≡ (n + 4 - k) / 4 = omega (arith, some, few, other) in
    ap numbers_to same

numbered : (seed n k : ℕ) → 1 ≤ k → k ≤ 4 → cids k (commands seed n) ≡ numbers_to (count_to n k)
unfolding commands
numbered seed zero k some few = sym (none_yet k some)
numbered seed (suc n) k some few =
    let word = word_at seed n in
    let j = n % 4 + 1 in
    let cid = n / 4 + 1 in
    let both = cids_append k (commands seed n) (command_acts j cid word)
    ∙ ap (λ (xs : List ℕ). xs ++ cids k (command_acts j cid word)) (numbered seed n k some few) in
    ⊎_elim
    (λ own. both ∙ ap (λ (xs : List ℕ). numbers_to (count_to n k) ++ xs) (own_cid k j (asked_op word) cid word own) ∙ sym (one_more n k some few own))
    (λ other. both ∙ ap (λ (xs : List ℕ). numbers_to (count_to n k) ++ xs) (other_cid k j (asked_op word) cid word other) ∙ append-nil (numbers_to (count_to n k)) ∙ sym (no_more n k some few other))
    (cases_eq j k)

all_numbered : (k : ℕ) → 1 ≤ k → k ≤ 4 → count_to 3000 k ≡ 750
unfolding count_to
all_numbered k some few = omega (arith, some, few)

pub made_numbered : (seed k : ℕ) → 1 ≤ k → k ≤ 4 → cids k (made seed).acts ≡ numbers_to 750
made_numbered seed k some few =
    let first = numbered seed 3000 k some few ∙ ap numbers_to (all_numbered k some few) in
    cids_append k (commands seed 3000) (waits 4) ∙ ap (λ (xs : List ℕ). cids k (commands seed 3000) ++ xs) (waits_cids k 4) ∙ append-nil (cids k (commands seed 3000)) ∙ first
