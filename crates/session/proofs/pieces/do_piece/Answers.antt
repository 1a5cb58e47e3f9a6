use Rattle.std.proofs.Common.{List, ◌+◌, ◌++◌, [], ◌∷◌, get_or, subst, sym, ap, ◌∙◌, arith, ◌/◌, ℕ}
use Rattle.nvm_model.specs.declared.line.Line.{Line}
use Rattle.session.specs.Phases.{DoesPieces, StandsNext}
use Rattle.session.proofs.WorkLemmas.{piece_fits, piece_leads, plan_after, result_fits}
use Rattle.session.proofs.pieces.do_piece.Goals as goal
use Rattle.nvm_model.specs.declared.piece.Piece.{Piece}
use Rattle.nvm_blocks.specs.Namespace.{Enters, HasRoom}
use Rattle.mig_base.proofs.ListLemmas.{element_at}
use Rattle.session.specs.Work.{due_piece}
use Rattle.turns.specs.Parts.{Leads}
use Rattle.controller.proofs.PlannedLemmas.{pieces_fit}
use Rattle.session.proofs.ServedLemmas.{served_piece}

pub next_piece-piece-requires-clause-few : goal.next_piece-piece-requires-clause-few
next_piece-piece-requires-clause-few g c =
    let has = c.requires.has in
    omega (arith, has.fit.head.burst.1, pieces_fit has.fit.head.shelf.0 (has.planned (c.args.due.at + 1) (omega arith) (omega (arith, c.requires.left.there))))

pub piece-done-requires : goal.piece-done-requires
piece-done-requires g c =
    let has = c.requires.has in
    let fits = piece_fits c.args.due.at has c.requires.left c.next_piece-piece.ensures.piece in
    let d = element_at c.args.runs.now.items c.args.due.at (omega (arith, c.requires.left.there, has.fit.own.count)) in
    let piece = c.next_piece-piece.result.0 in
    record {
      lane = (omega (arith, fits.0), omega (arith, fits.0, c.requires.left.there, has.fit.at.windows.count));
      fits = fits.1;
      room = subst (λ (p : Piece). HasRoom c.args.place.now.namespace (p.span.first / c.args.place.now.namespace.shelf)) (sym (c.next_piece-piece.ensures.piece d piece)) (c.requires.entry d piece);
      few = omega (arith, has.fit.at.namespace.blocks, has.fit.head.blocks.1);
    }

pub push_result-requires-clause-room : goal.push_result-requires-clause-room
push_result-requires-clause-room g c = λ d.
    omega (arith, result_fits c.args.due.at c.requires.has c.requires.left d, (get_or c.args.runs.now.items c.args.due.at d).results.ok.0)

pub returns-clause-works : goal.returns-clause-works
returns-clause-works g c = λ h over may.
    let events = c.args.events.now.items in
    let state = g.M.Medium.state in
    let moves = g.M.Medium.moves in
    subst (λ (es : List Line). Leads (DoesPieces state moves c.args.script.now) (StandsNext c.args.script.now c.push_result.new.runs.items c.piece-done.new.self h.drawn) h events es)
    (sym (◌∙◌ {A = List Line} c.push_reserved.ensures.items (ap {B = List Line} (λ (e : Line). events ++ e ∷ []) c.piece_line.ensures)))
    (piece_leads c.args.due.at events c.requires.has c.requires.left c.next_piece-piece.ensures.piece c.piece-done.ensures.done c.push_result.ensures over may)

pub returns-clause-has : goal.returns-clause-has
returns-clause-has g c =
    let fits = piece_fits c.args.due.at c.requires.has c.requires.left c.next_piece-piece.ensures.piece in
    plan_after c.args.due.at fits.0 c.requires.left.there c.piece-done.ensures.done c.push_result.ensures c.requires.has

pub returns-clause-served : goal.returns-clause-served
returns-clause-served g c = served_piece c.piece-done.ensures.done

pub returns-clause-done : goal.returns-clause-done
returns-clause-done g c = record {
  result = c.piece-done.result;
  has = c.push_result.ensures;
  entered = λ d none. subst (λ (n : ℕ). Enters (due_piece c.args.runs.now.items c.args.plan.now c.args.due.at d none).span.first (record { lane = (due_piece c.args.runs.now.items c.args.plan.now c.args.due.at d none).lane; index = n; ticket = c.args.due.ticket; result = c.piece-done.result }) c.args.place.now.namespace c.piece-done.new.self.namespace)
      (c.next_piece-piece.ensures.index d)
      (subst (λ (p : Piece). Enters p.span.first (record { lane = p.lane; index = c.next_piece-piece.result.1; ticket = c.args.due.ticket; result = c.piece-done.result }) c.args.place.now.namespace c.piece-done.new.self.namespace) (c.next_piece-piece.ensures.piece d none) c.piece-done.ensures.entered);
}
