use Rattle.std.proofs.Common.{◌≡◌, ◌≤◌, ℕ, List, All, length, subst, sym, ap, ◌∙◌, arith}
use Rattle.std.proofs.lemmas.List.Elements.{All-from_recursion}
use Rattle.nvm_model.specs.declared.script.Act.{Act}
use Rattle.nvm_model.specs.declared.script.LaneSet.{LaneSet}
use Rattle.nvm_model.specs.ScriptText.{IsSet, IsAct}
use Rattle.nvm_model.specs.World.{acts_of, set_of}
use Rattle.turns.proofs.ScriptLaws.{acts_fit, acts_few, set_fits}
use Rattle.session.proofs.lane_script.LaneScript.make.Goals as goal

pub returns-clause-made : goal.returns-clause-made
returns-clause-made c =
    let s = c.args.script.now in
    let k = c.args.lane in
    let acts : c.in_ok-acts.acts.items ≡ acts_of k s.acts = c.in_ok-acts.ensures ∙ ap (λ (n : ℕ). acts_of n s.acts) c.get.ensures.value in
    record {
      lane = (c.requires.there.0, omega (arith, c.requires.there.1, c.requires.script.head.lanes.1));
      set_is = c.set_of.ensures;
      acts_are = acts;
      set_fits = subst IsSet (sym c.set_of.ensures) (set_fits s.head k c.requires.script.head c.requires.there.0 c.requires.there.1);
      acts_fit = subst (λ (set : LaneSet). All (IsAct set.pages) c.in_ok-acts.acts.items) (sym c.set_of.ensures)
          (subst (λ (xs : List Act). All (IsAct (set_of s.head k).pages) xs) (sym acts)
          (All-from_recursion (IsAct (set_of s.head k).pages) (acts_of k s.acts) (acts_fit s.head k s.acts c.requires.script.acts)));
      few = subst (λ (xs : List Act). length xs ≤ 65536) (sym acts) (omega (arith, acts_few k s.acts, c.requires.script.few));
    }
