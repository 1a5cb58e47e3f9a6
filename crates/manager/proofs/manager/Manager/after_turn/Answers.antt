use Rattle.std.proofs.Common.{◌≡◌, ◌+◌, ℕ, Bool, true, false, List, Option, Some, None, length, replicate, refl, sym, ap, subst, ◌∙◌, arith}
use Rattle.std.proofs.lemmas.List.{length-replicate}
use Rattle.manager.specs.declared.side.Side.{Side}
use Rattle.manager.specs.Move.{ManagerState}
use Rattle.manager.specs.Round.{GoesOn}
use Rattle.manager.proofs.MoveLemmas.{few_asked}
use Rattle.manager.proofs.RoundLemmas.{ends_round, few_logs, has_turned}
use Rattle.manager.proofs.manager.Manager.after_turn.Goals as goal

not_failed : (failed : Option Side) → ((side : Side) → failed ≡ Some side → ⊥) → failed ≡ None
not_failed None not = refl
not_failed (Some side) not = absurd (not side refl)

pub returns-clause-turned : goal.returns-clause-turned
returns-clause-turned g c =
    let i = c.self.inside in
    let s = c.settle-restarted.ensures in
    let was = c.self.invariant in
    let blocks : List Bool = c.settle-restarted.new.self.owed in
    let all : c.owe_all.new.self ≡ replicate i.set.ram_pages true = c.owe_all.ensures ∙ ap (λ (n : ℕ). replicate n true) was.2 in
    let none : c.owe_none.new.self ≡ replicate (length i.pages) false = c.owe_none.ensures ∙ ap (λ (n : ℕ). replicate n false) (ap length c.owe_all.ensures ∙ length-replicate (length i.pages) true) in
    let m : ManagerState = record { set = i.set; phase = i.phase; blocks = i.work.owed; pages = i.pages; due = i.work.due; busy = i.work.busy; failed = i.work.failed; rounds = i.rounds } in
    let ends = ends_round m (rw (← c.self.view_is) at c.requires.fits) (rw was.4 at s.settled) (rw all at c.copy_pages.ensures) in
    let goes = subst (λ (x : ManagerState). GoesOn c.settle-restarted.result c.go_on.result x c.go_on.new.self)
    (λ k. record { set = i.set; phase = i.phase; blocks = blocks; pages = none k; due = (s.rest.0 k).due; busy = (s.rest.0 k).busy; failed = (s.rest.0 k).failed; rounds = i.rounds + 1 }) c.go_on.ensures in
    rw (← c.self.view_is) (has_turned m c.go_on.new.self blocks c.go_on.result (sym c.failed.ensures ∙ not_failed c.failed.result c.in_default.not-Some) ends goes)

pub returns-clause-left : goal.returns-clause-left
returns-clause-left g c =
    let s = c.settle-restarted.ensures.settled in
    let size = ap length c.owe_all.ensures ∙ length-replicate (length c.self.inside.pages) true in
    omega (arith, s.drains.left, s.starts.asked.left, few_logs, c.copy_pages.ensures.asked.left, few_asked, size, c.self.invariant.0.ram_pages, c.self.invariant.2)
