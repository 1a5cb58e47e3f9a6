use Rattle.std.proofs.Common.{◌≡◌, ◌∙◌, List, [], ℕ, ◌++◌, map, ap, sym, refl, subst, length-drop, arith}
use Rattle.nvm_values.specs.Status.{StatusPair}
use Rattle.nvm_model.specs.declared.line.Line.{Line}
use Rattle.nvm_model.specs.Turn.{Plans}
use Rattle.ctl_state.specs.Controller.{pair_of}
use Rattle.controller.specs.Pair.{fetch_line}
use Rattle.controller.proofs.StepLemmas.{all_fetched}
use Rattle.session.specs.LaneParts.{IsGuestStep, seat_of}
use Rattle.session.specs.Lanes.{Stands}
use Rattle.session.proofs.LanePartLemmas.{both_control, plans_lane, run_set, stands_free, step_more}
use Rattle.session.proofs.plan.plan_lane.Goals as goal
use Rattle.controller.proofs.PairLemmas.{burst_stays, pair_more, pair_stepped}
use Rattle.turns.specs.Parts.{Leads}
use Rattle.controller.proofs.PlannedLemmas.{turn_planned}

-- what the guest's steps left
steps : (c : goal.After-push_fetches) → IsGuestStep c.args.script.now c.args.run.now.script.lane (seat_of c.args.run.now c.args.controller.now c.args.window.now) (seat_of c.do_acts.new.run c.do_acts.new.controller c.do_acts.new.window)
steps c = step_more c.reap_all.ensures.step c.do_acts.ensures.step

-- no command was under way before the fetches
none : (c : goal.After-push_fetches) → (pair_of c.do_acts.new.controller c.args.run.now.script.lane).commands ≡ []
none c = (steps c).commands ∙ c.requires.may.free.commands

-- so those that were fetched are all
all : (c : goal.After-push_fetches) → (pair_of c.fetch_turn.new.self c.args.run.now.script.lane).commands ≡ c.fetch_turn.ensures.step.step.commands
all c = all_fetched c.fetch_turn.ensures.step.step (none c)

pub returns-clause-leads : goal.returns-clause-leads
returns-clause-leads c = λ l stands.
    let s = c.args.script.now in
    let k = c.args.run.now.script.lane in
    let reaps = c.reap_all.ensures.reaps l (stands_free stands c.requires.may.free.commands) in
    let acts = c.do_acts.ensures.acts reaps.new reaps.stands in
    let number = (steps c).seat.run.guest in
    let fetches = c.fetch_turn.ensures.fetches.step s acts.new (record { blocks_is = refl; shelf_is = refl; burst_is = sym (burst_stays (steps c).pairs ∙ c.requires.may.burst) }) (run_set c.requires.may.free.seat.run) (both_control number acts.stands.both) acts.stands.none (none c) in
    let told = c.push_fetches.ensures.events ∙ ap (λ (ts : List (ℕ × StatusPair × ℕ)). c.do_acts.new.events.items ++ map (fetch_line k) ts) c.fetched.ensures in
    subst (λ (es : List Line). Leads (Plans s k) (Stands s k c.do_acts.new.run (pair_of c.fetch_turn.new.self k) c.do_acts.new.window) l c.args.events.now.items es) (sym told)
    (plans_lane reaps acts fetches number (ap (λ v. v.items) (steps c).results ∙ c.requires.may.free.results))

pub returns-clause-seat : goal.returns-clause-seat
returns-clause-seat c =
    let is = (steps c).seat in
    let stepped = pair_stepped c.fetch_turn.ensures.step in
    (record { run = is.run; window = is.window; there = omega (arith, is.there, stepped.count) }, ap (λ v. v.items) (steps c).results ∙ c.requires.may.free.results)

pub returns-clause-others : goal.returns-clause-others
returns-clause-others c = pair_more (steps c).pairs (pair_stepped c.fetch_turn.ensures.step)

pub returns-clause-planned : goal.returns-clause-planned
returns-clause-planned c =
    let s = c.args.script.now in
    let k = c.args.run.now.script.lane in
    let window = c.do_acts.new.window in
    let is = c.requires.may.free.seat.run in
    turn_planned s k c.fetch_turn.ensures.step.step refl refl (sym (burst_stays (steps c).pairs ∙ c.requires.may.burst)) (omega (arith, length-drop 2 window.pages, (steps c).seat.window.size)) (none c) c.requires.plan.1
    (omega (arith, c.requires.plan.0.count, c.requires.may.high, is.lane, is.script.lane.0))
