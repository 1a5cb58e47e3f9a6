use Rattle.std.proofs.Common.{List, sym, ap, subst, ◌∙◌}
use Rattle.nvm_model.specs.declared.line.Line.{Line}
use Rattle.nvm_model.specs.Turn.{InLanes, Plans}
use Rattle.session.specs.Place.{StandsFor, machine, PlaceState}
use Rattle.session.proofs.TurnLemmas.{Phases, less_after, ready_after, turn_by_phases}
use Rattle.session.proofs.WorkLemmas.{none_is_left}
use Rattle.session.proofs.turn.do_turn.Given.{Over}
use Rattle.session.proofs.turn.do_turn.Goals as goal
use Rattle.nvm_model.specs.World.{Lane}
use Rattle.nvm_blocks.specs.Namespace.{NamespaceState, media_of}
use Rattle.session.proofs.EntryLemmas.{plan_cleared, plan_within}
use Rattle.turns.specs.Parts.{Leads}
use Rattle.session.proofs.ServedLemmas.{served_cleared, served_more, served_none}

-- what the phases came to
phases : (g : Over) → (c : goal.After-post_all g) → Phases g.M.Medium.state g.M.Medium.moves c.args.script.now (machine c.args.runs.now.items c.args.order.now c.args.place.now) (machine c.post_all.new.runs.items c.do_pieces.new.order c.post_all.new.place) c.post_all.new.events.items
phases g c =
    let s = c.args.script.now in
    let planned = λ (place : PlaceState g.row.M.Denot) (es : List Line) (lanes : List Lane). Leads (InLanes (Plans s) 1) (StandsFor s c.plan_all.new.runs.items place.controller place.windows) lanes es c.plan_all.new.events.items in
    record {
      ready = c.requires.ready;
      due = c.requires.due;
      planned_runs = c.plan_all.new.runs.items;
      planned_place = c.clear_shelves.new.place;
      planned_events = c.plan_all.new.events.items;
      plan = λ lanes stands. subst (λ (es : List Line). planned c.clear_shelves.new.place es lanes) c.clear.ensures.items
          (subst (λ (place : PlaceState g.row.M.Denot). planned place c.clear.new.self.items lanes) (sym c.clear_shelves.ensures.kept.rest) (c.plan_all.ensures.leads lanes stands));
      plan_kept = c.clear_shelves.ensures.kept.entries.media ∙ ap (λ (n : NamespaceState g.row.M.Denot). media_of n) c.plan_all.ensures.kept.namespace;
      worked_runs = c.do_pieces.new.runs.items;
      worked_place = c.do_pieces.new.place;
      worked_events = c.do_pieces.new.events.items;
      works = c.do_pieces.ensures.works;
      finished = λ lanes stands. none_is_left c.do_pieces.ensures.has.0 c.do_pieces.ensures.has.1 stands;
      posts = c.post_all.ensures.leads;
      posts_kept = c.post_all.ensures.kept.namespace;
      fit = c.post_all.ensures.rests.0;
      quiet = c.post_all.ensures.rests.1;
      undone = c.post_all.ensures.rests.2;
      mix = c.do_pieces.ensures.mix;
    }

pub clear_shelves-requires-clause-within : goal.clear_shelves-requires-clause-within
clear_shelves-requires-clause-within g c = plan_within c.plan_all.ensures.has.0

pub do_pieces-requires-clause-has : goal.do_pieces-requires-clause-has
do_pieces-requires-clause-has g c = (plan_cleared c.clear_shelves.ensures.kept c.plan_all.ensures.has.0, c.plan_all.ensures.has.1)

pub returns-clause-turn : goal.returns-clause-turn
returns-clause-turn g c = λ h stands. turn_by_phases (phases g c) h stands

pub returns-clause-ready : goal.returns-clause-ready
returns-clause-ready g c = ready_after (phases g c)

pub returns-clause-served : goal.returns-clause-served
returns-clause-served g c = served_more (served_more (served_none c.plan_all.ensures.kept) (served_cleared c.clear_shelves.ensures.kept)) (served_more c.do_pieces.ensures.served (served_none c.post_all.ensures.kept))

pub returns-clause-less : goal.returns-clause-less
returns-clause-less g c = less_after (phases g c)
