use Rattle.std.proofs.Common.{◌≡◌, ℕ, ◌+◌, ◌/◌, ◌%◌, ◌++◌, ◌∷◌, [], ◌∙◌, ap, refl, sym, add-one}
use Rattle.nvm_model.specs.declared.script.Act.TheVariants.{Wait}
use Rattle.nvm_model.specs.Turn.{word_at, word_state}
use Rattle.rand_xoshiro.specs.SplitMix64.{mix_u64}
use Rattle.workload.specs.Made.{command_acts, commands, waits}

-- One command or one wait more.

-- none yet
pub no_commands : (seed : ℕ) → commands seed 0 ≡ []
unfolding commands
no_commands seed = refl

-- the next command behind those that were made
pub command_more : (seed n : ℕ) → commands seed (n + 1) ≡ commands seed n ++ command_acts (n % 4 + 1) (n / 4 + 1) (word_at seed n)
unfolding commands
command_more seed n = ap (commands seed) (add-one n)

-- the wait of the next lane
pub wait_more : (k : ℕ) → waits (k + 1) ≡ waits k ++ (k + 1, Wait) ∷ []
wait_more k = ap waits (add-one k)

-- what a step of the generator gives
pub word_is : (seed n state word new : ℕ) → state ≡ word_state seed n → (word, new) ≡ mix_u64 state → word ≡ word_at seed n
word_is seed n state word new at stepped = ap (λ (p : ℕ × ℕ). p.0) stepped ∙ ap (λ (x : ℕ). (mix_u64 x).0) at

-- and the state that it leaves
pub state_is : (seed n state word new : ℕ) → state ≡ word_state seed n → (word, new) ≡ mix_u64 state → new ≡ word_state seed (n + 1)
state_is seed n state word new at stepped = ap (λ (p : ℕ × ℕ). p.1) stepped ∙ ap (λ (x : ℕ). (mix_u64 x).1) at ∙ ap (word_state seed) (sym (add-one n))
