use Rattle.std.proofs.Common.{◌≡◌, ◌+◌, ◌*◌, ◌≤◌, ◌++◌, vec_capacity, vec_len}
use Rattle.nvm_model.specs.Turn.{word_state}
use Rattle.workload.specs.Made.{commands}
use Rattle.workload.proofs.acts.push_commands.Given as goal

abbrev pub invariant-loop-n : goal.invariant-loop-n
invariant-loop-n l = record {
  state : l.words ≡ word_state l.seed l.n;
  items : l.acts.items ≡ l.fn.acts.items ++ commands l.seed l.n;
  few : vec_len l.acts ≤ vec_len l.fn.acts + 2 * l.n;
  capacity : vec_capacity l.acts ≡ vec_capacity l.fn.acts;
}
