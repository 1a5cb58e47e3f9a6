use Rattle.std.proofs.Common.{◌≡◌, ◌+◌, ◌<◌, ℕ, List, [], ◌∷◌, ◌++◌, length, sym, ap, subst, ◌∙◌, arith}
use Rattle.std.proofs.lemmas.List.{length_push, map-append}
use Rattle.std.proofs.lemmas.Option.{slice_get_within}
use Rattle.nvm_model.specs.declared.command.Command.{Command}
use Rattle.nvm_model.specs.Check.{identifiers}
use Rattle.judge.specs.Lane.{AreDoable}
use Rattle.judge.proofs.LaneLemmas.{doable_pushed}
use Rattle.judge.proofs.lane.JudgedLane.fetch.Goals as goal

pub returns-clause-sound : goal.returns-clause-sound
returns-clause-sound c =
    let j = c.args.self.now in
    let sound = c.requires.sound in
    let n = sound.counted in
    let command = c.checked-command.result in
    let there : length j.commands.items < length j.submitted.items = slice_get_within j.submitted.items (length j.commands.items) c.in-Some.entry (sym c.in-Some.ensures) in
    let more = c.push_reserved.ensures.items in
    let count : length c.push_reserved.new.self.items ≡ length j.commands.items + 1 = ap (λ (cs : List Command). length cs) more ∙ length_push j.commands.items command in
    record {
      set_up = sound.set_up;
      counted = record { few = n.few; done_is = n.done_is; submitted_is = n.submitted_is; fetched_is = omega (arith, count, there); posted_is = omega (arith, count, n.posted_is); reaped_is = n.reaped_is };
      room = record { entries = sound.room.entries; commands = omega (arith, sound.room.commands, c.push_reserved.ensures.capacity); cids = omega (arith, sound.room.cids, c.push_reserved-2.ensures.capacity); completions = sound.room.completions };
      doable = subst (λ (cs : List Command). AreDoable j.blocks j.set.pages cs) (sym more) (doable_pushed j.blocks j.set.pages j.commands.items command sound.doable c.checked-command.ensures.doable);
      cids = c.push_reserved-2.ensures.items ∙ (ap (λ (ids : List ℕ). ids ++ command.cid ∷ []) sound.cids ∙ (sym (map-append (λ (x : Command). x.cid) j.commands.items (command ∷ [])) ∙ ap identifiers (sym more)));
    }
