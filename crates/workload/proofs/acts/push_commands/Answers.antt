use Rattle.std.proofs.Common.{◌+◌, ◌/◌, ◌%◌, ◌++◌, ◌∙◌, ap, refl, sym, append-nil, append_assoc, arith}
use Rattle.workload.specs.Made.{command_acts, commands}
use Rattle.workload.proofs.CommandLemmas.{no_commands, command_more, word_is, state_is}
use Rattle.workload.proofs.acts.push_commands.Goals as goal

pub loop-n-init : goal.loop-n-init
loop-n-init c = record {
  state = c.seed_from_u64-words.ensures.same;
  items = sym (ap (λ acts. c.args.acts.now.items ++ acts) (no_commands c.args.seed) ∙ append-nil c.args.acts.now.items);
  few = omega arith;
  capacity = refl;
}

pub loop-n-preserved : goal.loop-n-preserved
loop-n-preserved c =
    let now = c.loop-n.invariant in
    let seed = c.args.seed in
    let n = c.loop-n.n in
    let word = word_is seed n c.loop-n.words c.next_word.result c.next_word.new.self now.state c.next_word.ensures in
    let items = c.push_command.ensures.items in
    let more = command_more seed n in
    let grouped = append_assoc c.args.acts.now.items (commands seed n) (command_acts (n % 4 + 1) (n / 4 + 1) c.next_word.result) in
    record {
      state = state_is seed n c.loop-n.words c.next_word.result c.next_word.new.self now.state c.next_word.ensures;
      items = cc;
      few = omega arith;
      capacity = c.push_command.ensures.capacity ∙ now.capacity;
    }
