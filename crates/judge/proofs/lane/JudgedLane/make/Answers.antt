use Rattle.std.proofs.Common.{◌≡◌, ◌+◌, ◌≤◌, ℕ, All, List, length, sym, ap, subst, ◌∙◌, arith, rules}
use Rattle.std.proofs.lemmas.List.{length-replicate}
use Rattle.std.proofs.lemmas.List.Elements.{All-from_recursion}
use Rattle.nvm_model.specs.declared.script.Act.{Act}
use Rattle.nvm_model.specs.declared.script.LaneSet.{LaneSet}
use Rattle.nvm_model.specs.Check.{identifiers}
use Rattle.nvm_model.specs.Memory.{zero_page}
use Rattle.nvm_model.specs.ScriptText.{IsAct, IsSet}
use Rattle.nvm_model.specs.World.{acts_of, set_of}
use Rattle.guest_ram.specs.Window.{WindowState}
use Rattle.turns.proofs.ScriptLaws.{acts_few, acts_fit, set_fits}
use Rattle.judge.proofs.lane.JudgedLane.make.Goals as goal

pub returns-clause-sound : goal.returns-clause-sound
returns-clause-sound c =
    let s = c.args.script.now in
    let k = c.args.lane in
    let set = c.set_of-set.result in
    let acts = c.in_ok-acts.acts.items in
    let acts_are : acts ≡ acts_of k s.acts = c.in_ok-acts.ensures ∙ ap (λ (n : ℕ). acts_of n s.acts) c.get.ensures.value in
    let made = c.in_ok-make.ensures.made in
    let pages : length c.in_ok-make.field-0.pages ≡ set.pages + 2 = ap (λ (w : WindowState). length w.pages) made ∙ length-replicate (set.pages + 2) zero_page in
    let is_set : IsSet set = subst IsSet (sym c.set_of-set.ensures) (set_fits s.head k c.requires.script.head (omega (arith, c.get.ensures.value, c.get.ensures.range)) c.requires.there) in
    let are_acts : All (IsAct set.pages) acts =
    subst (λ (n : LaneSet). All (IsAct n.pages) acts) (sym c.set_of-set.ensures)
    (subst (λ (xs : List Act). All (IsAct (set_of s.head k).pages) xs) (sym acts_are) (All-from_recursion (IsAct (set_of s.head k).pages) (acts_of k s.acts) (acts_fit s.head k s.acts c.requires.script.acts))) in
    let few : length acts ≤ 65536 = subst (λ (xs : List Act). length xs ≤ 65536) (sym acts_are) (omega (arith, acts_few k s.acts, c.requires.script.few)) in
    let submitted : length c.in_ok-with_capacity.field-0.items ≡ 0 = ap (λ (xs : List _). length xs) c.in_ok-with_capacity.ensures.items in
    let commands : length c.in_ok-with_capacity-2.field-0.items ≡ 0 = ap (λ (xs : List _). length xs) c.in_ok-with_capacity-2.ensures.items in
    let posted : length c.in_ok-with_capacity-4.field-0.items ≡ 0 = ap (λ (xs : List _). length xs) c.in_ok-with_capacity-4.ensures.items in
    record {
      set_up = record { lane_is = ap (λ (w : WindowState). w.lane) made; pages_are = pages; is_set = is_set; are_acts = are_acts; large = c.requires.script.head.shelf.0; few = c.requires.script.head.blocks.1 };
      counted = record { few = few; done_is = omega arith; submitted_is = omega (arith, submitted); fetched_is = omega (arith, commands); posted_is = omega (arith, posted); reaped_is = omega arith };
      room = record { entries = search rules; commands = search rules; cids = search rules; completions = search rules };
      doable = λ i d low. absurd (omega (arith, low, commands));
      cids = c.in_ok-with_capacity-3.ensures.items ∙ ap identifiers (sym c.in_ok-with_capacity-2.ensures.items);
    }
