use Rattle.std.proofs.Common.{◌≡◌, ℕ, ◌+◌, ◌≤◌, inl, inr, List, [], ◌∷◌, ◌++◌, length, sym, ap, ap₂, subst, ◌∙◌, arith}
use Rattle.std.proofs.lemmas.List.{length_push}
use Rattle.nvm_values.specs.Status.{StatusPair}
use Rattle.nvm_model.specs.declared.command.Command.{Command}
use Rattle.nvm_model.specs.Check.{checked_command}
use Rattle.guest_ram.specs.Window.{data_pages}
use Rattle.hall.specs.Plan.{PlanState, pieces_of}
use Rattle.ctl_state.specs.Controller.{PairState}
use Rattle.controller.specs.Pair.{FetchesTurn, lane_pieces}
use Rattle.controller.specs.Parts.{IsPair}
use Rattle.controller.proofs.PlanLemmas.{count_with}
use Rattle.controller.proofs.StepLemmas.{fetched_count, fetched_more, fetches_turn, one_fetched}
use Rattle.controller.proofs.LaneLemmas.{fetches_lead}
use Rattle.controller.proofs.pair.Pair.fetch_turn.Goals as goal

pub returns-in_default-clause-step : goal.returns-in_default-clause-step
returns-in_default-clause-step c =
    let sound = subst IsPair c.self.view_is c.self.invariant.0 in
    let room = ap (λ (p : PairState). p.room) c.self.view_is in
    subst (λ (p : PairState). FetchesTurn c.args.lane c.args.blocks c.args.shelf c.args.self.now.room c.args.w.now c.args.plan.now c.fetches.plan c.args.self.now p) (sym c.in_default.ensures.1)
    (fetches_turn c.fetches.invariant.fetched sound.told (omega (arith, c.fetches.invariant.count, c.fetches-test.true, room)) (inr c.in_default.ensures.0))

pub returns-in_default-clause-fetches : goal.returns-in_default-clause-fetches
returns-in_default-clause-fetches c = fetches_lead (returns-in_default-clause-step c)

pub plan_command-pieces-requires-clause-room : goal.plan_command-pieces-requires-clause-room
plan_command-pieces-requires-clause-room c =
    let k = c.args.lane in
    let h = c.fetches.invariant.fetched in
    let pieces = lane_pieces k c.args.shelf h.commands in
    let count = ap (λ (p : PlanState). length (pieces_of p k)) h.planned ∙ count_with k pieces c.args.plan.now c.requires.planned.0 c.requires.planned.1 in
    let room = ap (λ (p : PlanState). p.room) h.planned in
    let most = ap (λ (p : PairState). p.room) c.self.view_is in
    omega (arith, count, room, h.few, fetched_count h, c.fetches.invariant.count, c.fetches-test.true, most, c.requires.space)

pub fetches-preserved : goal.fetches-preserved
fetches-preserved c =
    let w = c.args.w.now in
    let inside = c.self-in-fetches.inside in
    let pair = c.fetches.self in
    let was = c.take_entry.new.self in
    let command = c.check-command.result in
    let pieces = c.plan_command-pieces.result in
    let took = c.in-Some.ensures in
    let view = c.self-in-fetches.view_is in
    let make : List Command → List (ℕ × StatusPair × ℕ) → PairState = λ cs fs. record { sq = inside.sq; cq = inside.cq; commands = cs; fetched = fs; posted = inside.posted.items; room = inside.room } in
    let checked = c.check-command.ensures.value ∙ ap (λ (cs : List Command). checked_command c.args.blocks w.lane (data_pages w) cs c.in-Some.entry) (c.as_slice.ensures.value ∙ ap (λ (p : PairState). p.commands) view) in
    let now_is = ap₂ make c.push_reserved.ensures.items c.push_reserved-in-fetches.ensures.items
    ∙ ap (λ (p : PairState). record p { commands = p.commands ++ command ∷ []; fetched = p.fetched ++ (command.cid, command.status, pieces) ∷ [] }) view in
    let one = one_fetched c.args.blocks c.args.shelf w pair was _ c.in-Some.entry command pieces took checked c.plan_command-pieces.ensures.count now_is in
    record {
      fetched = fetched_more command c.fetches.invariant.fetched took.0 one c.plan_command-pieces.ensures.planned c.check-command.ensures.fetched c.plan_command-pieces.ensures.few c.requires.planned.0 c.requires.planned.1;
      count = ap length c.push_reserved.ensures.items ∙ length_push inside.commands.items command ∙ ap (λ (n : ℕ). n + 1) (ap (λ (p : PairState). length p.commands) (view ∙ took.2) ∙ c.fetches.invariant.count);
      room = ap (λ (p : PairState). p.room) (view ∙ took.2) ∙ c.fetches.invariant.room;
    }

pub returns-clause-step : goal.returns-clause-step
returns-clause-step c =
    let sound = subst IsPair c.self.view_is c.self.invariant.0 in
    let room = ap (λ (p : PairState). p.room) c.self.view_is in
    let commands = ap (λ (p : PairState). length p.commands) c.self.view_is in
    let few : c.fetches._done ≤ c.self.inside.room = c.fetches.auto._done-end (omega (arith, c.len-done.ensures, sound.few, room, commands)) in
    let full : length c.fetches.self.commands ≡ c.args.self.now.room = omega (arith, c.fetches.invariant.count, c.fetches-test.false, few, room) in
    fetches_turn c.fetches.invariant.fetched sound.told (omega (arith, full)) (inl full)

pub returns-clause-fetches : goal.returns-clause-fetches
returns-clause-fetches c = fetches_lead (returns-clause-step c)
