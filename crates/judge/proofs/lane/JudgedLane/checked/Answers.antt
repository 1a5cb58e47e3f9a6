use Rattle.std.specs.List.{drop-map}
use Rattle.std.specs.Prelude.{IfSome}
use Rattle.std.proofs.Common.{◌≡◌, ℕ, ◌-◌, List, drop, length, take, sym, ap, subst, ◌∙◌}
use Rattle.std.proofs.lemmas.List.{take_rest}
use Rattle.nvm_model.specs.declared.command.Command.{Command}
use Rattle.nvm_model.specs.Check.{fetched_command, identifiers, verdict}
use Rattle.guest_ram.specs.Window.{data_pages}
use Rattle.judge.specs.Lane.{IsDoable}
use Rattle.judge.proofs.LaneLemmas.{doable_checked}
use Rattle.judge.proofs.lane.JudgedLane.checked.Goals as goal

pub returns-clause-value : goal.returns-clause-value
returns-clause-value c =
    let j = c.args.self.now in
    let e = c.args.entry.now in
    let p = length j.posted.items in
    let busy : drop p j.cids.items ≡ identifiers (drop p j.commands.items) = ap (λ (ids : List ℕ). drop p ids) c.requires.cids ∙ drop-map (λ (command : Command). command.cid) p j.commands.items in
    let lane : j.window.lane ≡ j.lane = c.requires.set_up.lane_is in
    let posted : c.len.result ≡ p = c.len.ensures ∙ j.posted.ok.0 in
    let given : take (length c.deref.result.now - c.len.result) (drop c.len.result c.deref.result.now) ≡ identifiers (drop p j.commands.items) =
    take_rest c.deref.result.now c.len.result ∙ (ap (λ (ids : List ℕ). drop c.len.result ids) c.deref.ensures.value ∙ (ap (λ (n : ℕ). drop n j.cids.items) posted ∙ busy)) in
    let made : ℕ → List ℕ → Command = λ k ids. fetched_command (verdict j.blocks k (data_pages j.window) ids e) k (data_pages j.window) e in
    c.command_of.ensures ∙ (c.check.ensures.command ∙ (ap (made j.window.lane) given ∙ ap (λ (k : ℕ). made k (identifiers (drop p j.commands.items))) lane))

pub returns-clause-doable : goal.returns-clause-doable
returns-clause-doable c =
    let j = c.args.self.now in
    subst (λ (command : Command). IfSome command.work (IsDoable j.blocks j.set.pages)) (sym c.command_of.ensures) (doable_checked j.blocks j.set.pages c.args.entry.now.cid j.window c.check.result c.requires.set_up.pages_are c.check.ensures.runnable)
