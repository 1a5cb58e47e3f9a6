use Rattle.std.proofs.Common.{◌+◌, ◌∙◌, not, length, ap, sym, ℕ, List, subst, arith}
use Rattle.std.specs.List.{slice_get}
use Rattle.nvm_model.specs.declared.line.Line.{Line}
use Rattle.nvm_model.specs.World.{acts_of}
use Rattle.turns.specs.Parts.{ActsSome, Leads}
use Rattle.turns.proofs.PartLaws.{act_refused, acts_all, leads_none}
use Rattle.session.specs.LaneParts.{StandsFree, seat_of}
use Rattle.session.proofs.LanePartLemmas.{act_did, act_fits, next_due}
use Rattle.session.proofs.plan.do_next_act.Goals as goal

pub returns-then-place-len-clause-acts : goal.returns-then-place-len-clause-acts
returns-then-place-len-clause-acts c = λ l free.
    let own = c.requires.seat.run in
    let all = ap length own.script.acts_are ∙ ap (λ (n : ℕ). length (acts_of n c.args.script.now.acts)) own.lane in
    leads_none l c.args.events.now.items free (acts_all l (omega (arith, all, free.acts, c.if-place-len.true, c.len.ensures)))

pub do_act-requires-clause-act : goal.do_act-requires-clause-act
do_act-requires-clause-act c = act_fits c.index.result.now c.requires.seat.run (omega arith) c.index.ensures

pub returns-then-not-do_act-clause-acts : goal.returns-then-not-do_act-clause-acts
returns-then-not-do_act-clause-acts c = λ l free.
    let s = c.args.script.now in
    let k = c.args.lane in
    let act = c.index.result.now in
    let due = next_due s k c.args.run.now act c.requires.seat.run (omega arith) c.index.ensures in
    let did = c.if-not-do_act.ensures.does l free.both in
    leads_none l c.args.events.now.items (record { both = did.1; acts = free.acts ∙ sym c.do_act.ensures.acts; none = free.none }) (act_refused l act (ap (slice_get (acts_of k s.acts)) free.acts ∙ due) did.0)

pub returns-clause-acts : goal.returns-clause-acts
returns-clause-acts c = λ l free.
    let s = c.args.script.now in
    let k = c.args.lane in
    let act = c.index.result.now in
    let run = c.do_act.new.run in
    let due = next_due s k c.args.run.now act c.requires.seat.run (omega arith) c.index.ensures in
    subst (λ (es : List Line). Leads (ActsSome (not c.is_idle.result) s k) (StandsFree s k (seat_of (record run { acts_done = run.acts_done + 1 }) c.do_act.new.controller c.do_act.new.window)) l c.args.events.now.items es)
    (sym c.push_reserved.ensures.items)
    (act_did c.is_idle.result act c.args.events.now.items (ap (slice_get (acts_of k s.acts)) free.acts ∙ due) (free.acts ∙ sym c.do_act.ensures.acts) free.none (c.if-not-do_act.ensures.does l free.both) c.is_idle.ensures.yes c.is_idle.ensures.not)
