use Rattle.std.proofs.Common.{List, ◌++◌, ◌∷◌, [], sym, ap, subst, refl, ◌∙◌, true}
use Rattle.nvm_model.specs.declared.line.Line.{Line}
use Rattle.nvm_model.specs.World.{set_of}
use Rattle.lanes.specs.Guest.{GuestState}
use Rattle.turns.specs.Parts.{ReapsSome, Leads}
use Rattle.session.specs.LaneParts.{StandsFree, seat_of}
use Rattle.session.proofs.LanePartLemmas.{guest_step, reap_none, reap_some, run_set}
use Rattle.session.proofs.plan.reap.Goals as goal
use Rattle.controller.proofs.PairLemmas.{pair_stepped, rung_commands}

pub returns-in-Some-clause-reaps : goal.returns-in-Some-clause-reaps
returns-in-Some-clause-reaps c = λ l free.
    let s = c.args.script.now in
    let k = c.args.lane in
    let events = c.args.events.now.items in
    let run = c.args.run.now in
    let pushed = c.push_reserved.ensures.items ∙ ap (λ (e : Line). events ++ e ∷ []) c.reap_line.ensures in
    subst (λ (es : List Line). Leads (ReapsSome true s k) (StandsFree s k (seat_of (record run { guest = c.reap.new.self }) c.ring_cq-rung.new.self c.args.window.now)) l events es) (sym pushed)
    (reap_some c.args.controller.now c.ring_cq-rung.new.self c.in-Some.cqe c.cq_head.result c.ring_cq-rung.result events c.requires.seat.run.guest c.cq_head.ensures free
    (c.in-Some.ensures.reaps (set_of s.head k) l (run_set c.requires.seat.run) free.both.guest_stands) c.ring_cq-rung.ensures.step c.ring_cq-rung.ensures.rung.step.takes)

pub returns-in-Some-clause-step : goal.returns-in-Some-clause-step
returns-in-Some-clause-step c =
    guest_step c.reap.new.self c.requires.seat (ap (λ (g : GuestState). g.lane) c.in-Some.ensures.takes.2) refl refl (pair_stepped c.ring_cq-rung.ensures.step) (rung_commands c.ring_cq-rung.result c.ring_cq-rung.ensures.step.step)

pub returns-in-None-clause-reaps : goal.returns-in-None-clause-reaps
returns-in-None-clause-reaps c = λ l free.
    reap_none c.args.events.now.items free (c.in-None.ensures.reaps (set_of c.args.script.now.head c.args.lane) l (run_set c.requires.seat.run) free.both.guest_stands)
