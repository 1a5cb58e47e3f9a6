use Rattle.std.proofs.Common.{◌≡◌, ◌+◌, ◌<◌, ℕ, List, length, map, refl, sym, ap, ◌∙◌, ◌∷◌, ◌++◌, arith, [], subst}
use Rattle.nvm_model.specs.Turn.{left_in, next_lane}
use Rattle.session.proofs.WorkLemmas.{lefts_are, all_done, left_at, left_few, left_less, does_more, works_on}
use Rattle.session.proofs.pieces.do_pieces.Goals as goal
use Rattle.mig_base.proofs.ListLemmas.{element_at, sum_less, sum_none}
use Rattle.session.proofs.EntryLemmas.{room_due, rooms_first, rooms_next}
use Rattle.hall.specs.Plan.{pieces_of}
use Rattle.turns.proofs.PartLaws.{leads_more, leads_none}
use Rattle.turns.proofs.PieceLaws.{next_alone}
use Rattle.nvm_model.specs.Run.{Here}
use Rattle.session.specs.declared.order.Order.{Order}
use Rattle.turns.specs.Parts.{Leads}
use Rattle.session.specs.Phases.{DoesPieces}
use Rattle.session.specs.Place.{StandsOn, machine}
use Rattle.session.proofs.ServedLemmas.{served_more, served_none}

pub pieces-init : goal.pieces-init
pieces-init g c = record {
  works = λ h stands. leads_none h c.args.events.now.items stands (record { pieces = []; working = refl; beside = refl; lines_are = refl });
  has = c.requires.has.0;
  served = served_none (record { namespace = refl; controller = refl });
  left = c.count_left.ensures;
  rooms = rooms_first c.count_left.new.left c.requires.has.0 c.requires.clear;
  tickets = omega arith;
  mix = c.requires.mix;
  count = refl;
  capacity = refl;
}

pub do_piece-requires-clause-left : goal.do_piece-requires-clause-left
do_piece-requires-clause-left g c =
    let is = c.pieces.invariant.left in
    let there = c.in-Some.ensures.there in
    let low : c.in-Some.at < c.args.script.now.head.lanes = omega (arith, there.0, is.count) in
    record { there = low; left = λ d. omega (arith, there.1, left_at is c.in-Some.at d low) }

pub do_piece-requires-clause-entry : goal.do_piece-requires-clause-entry
do_piece-requires-clause-entry g c =
    let now = c.pieces.invariant in
    let there = c.in-Some.ensures.there in
    λ d none. room_due c.in-Some.at d none now.has now.left now.rooms (omega (arith, there.0, now.left.count)) there.1

pub do_piece-requires-clause-room : goal.do_piece-requires-clause-room
do_piece-requires-clause-room g c =
    let now = c.pieces.invariant in
    let there = c.in-Some.ensures.there in
    omega (arith, c.requires.room, now.count, now.capacity, left_few c.requires.has.0 c.count_left.ensures, sum_less c.pieces.left c.in-Some.at there.0 there.1)

pub pieces-preserved : goal.pieces-preserved
pieces-preserved g c =
    let s = c.args.script.now in
    let now = c.pieces.invariant in
    let left = c.pieces.left in
    let at = c.in-Some.at in
    let there = c.in-Some.ensures.there in
    let low : at < s.head.lanes = omega (arith, there.0, now.left.count) in
    let done = c.do_piece.ensures.done in
    let d = element_at c.pieces.runs.items at (omega (arith, low, now.has.fit.own.count)) in
    let none = element_at (pieces_of c.args.plan.now (at + 1)) 0 (omega (arith, left_at now.left at d low, there.1)) in
    record {
      works = λ h stands. leads_more does_more (now.works h stands) (λ y stood.
          let lefts : map (left_in s.head.shelf) y.lanes ≡ left = lefts_are d now.has.planned now.left stood.lanes in
          let drawn = c.in-Some.ensures.next y.drawn stood.words in
          let next : at + 1 ≡ next_lane s.head.mix y.drawn (map (left_in s.head.shelf) y.lanes) = drawn.0 ∙ ap (λ (k : ℕ). next_lane k y.drawn left) now.mix ∙ ap (λ (l : List ℕ). next_lane s.head.mix y.drawn l) (sym lefts) in
          let alone : at + 1 ≡ next_lane s.head.mix y.drawn (map (left_in s.head.shelf) y.lanes ++ length y.due ∷ []) =
          next ∙ sym (next_alone s.head.mix y.drawn (map (left_in s.head.shelf) y.lanes)) ∙ ap (λ (due : List ℕ). next_lane s.head.mix y.drawn (map (left_in s.head.shelf) y.lanes ++ length due ∷ [])) (sym stood.due) in
          works_on drawn.1 (c.do_piece.ensures.works y (record { lanes = stood.lanes; media = stood.media; due = stood.due }) alone));
      has = c.do_piece.ensures.has;
      served = served_more now.served c.do_piece.ensures.served;
      left = left_less at done.result low there.1 done.has now.left;
      rooms = rooms_next at d none now.has now.left now.rooms low there.1 (done.entered d none);
      tickets = omega (arith, now.tickets, c.do_piece.ensures.more.0);
      mix = c.in-Some.ensures.mix ∙ now.mix;
      count = omega (arith, c.do_piece.ensures.more.0, sum_less left at there.0 there.1, now.count);
      capacity = c.do_piece.ensures.more.1 ∙ now.capacity;
    }

pub returns-clause-works : goal.returns-clause-works
returns-clause-works g c = subst (λ (o : Order). (h : Here g.row.M.Denot) → StandsOn c.args.script.now (machine c.args.runs.now.items c.args.order.now c.args.place.now) h → Leads (DoesPieces g.M.Medium.state g.M.Medium.moves c.args.script.now) (StandsOn c.args.script.now (machine c.pieces.runs.items o c.pieces.place)) h c.args.events.now.items c.pieces.events.items) (sym c.in_default.ensures.none.1) c.pieces.invariant.works

pub returns-clause-has : goal.returns-clause-has
returns-clause-has g c = (c.pieces.invariant.has, all_done c.pieces.invariant.left c.in_default.ensures.none.0)

pub returns-clause-more : goal.returns-clause-more
returns-clause-more g c =
    let now = c.pieces.invariant in
    let few = left_few c.requires.has.0 c.count_left.ensures in
    let none = sum_none c.pieces.left c.in_default.ensures.none.0 in
    record { fewer = omega (arith, now.count, none); few = omega (arith, now.count, none, few); capacity = now.capacity }
