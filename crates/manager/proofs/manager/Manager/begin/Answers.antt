use Rattle.std.proofs.Common.{ap, ◌∙◌, replicate, true, ℕ}
use Rattle.manager.specs.Work.{TurnWork}
use Rattle.manager.proofs.MoveLemmas.{covers_all}
use Rattle.manager.proofs.manager.Manager.begin.Goals as goal

pub returns-clause-covers : goal.returns-clause-covers
returns-clause-covers c =
    covers_all _ (ap (λ (w : TurnWork). w.owed) c.owe_all.ensures ∙ ap (λ (n : ℕ). replicate n true) c.self.invariant.1) (c.owe_all-2.ensures ∙ ap (λ (n : ℕ). replicate n true) c.self.invariant.2)
