use Rattle.std.proofs.Common.{◌∙◌, [], arith, rules, ◌++◌, List, ℕ, length, map, sum, ap, sym, refl, subst, ◌≡◌}
use Rattle.nvm_values.specs.Status.{StatusPair}
use Rattle.nvm_model.specs.declared.line.Line.{Line}
use Rattle.nvm_model.specs.declared.piece.PieceResult.{PieceResult}
use Rattle.nvm_model.specs.Turn.{PostsAll}
use Rattle.nvm_model.specs.World.{set_of}
use Rattle.ctl_state.specs.Controller.{pair_of}
use Rattle.controller.specs.Pair.{outcomes_of, post_line, worked}
use Rattle.controller.proofs.StepLemmas.{posted_few, posts_kept}
use Rattle.session.specs.Lanes.{Stands}
use Rattle.session.proofs.LanePartLemmas.{posts_lane, run_set, stands_control}
use Rattle.session.proofs.posts.post_lane.Goals as goal
use Rattle.controller.proofs.PairLemmas.{pair_stepped}
use Rattle.controller.proofs.NextLemmas.{pieces_told}
use Rattle.turns.specs.Parts.{Leads}

pub finish_turn-requires-clause-results : goal.finish_turn-requires-clause-results
finish_turn-requires-clause-results c =
    let s = c.args.script.now in
    let k = c.args.run.now.script.lane in
    ap length c.as_slice.ensures.value ∙ c.requires.may.done ∙ pieces_told k s.head.shelf s.head.blocks (set_of s.head k).pages (pair_of c.args.controller.now k).commands c.requires.may.checked
    ∙ sym (ap (λ (fs : List (ℕ × StatusPair × ℕ)). sum (map (λ (f : ℕ × StatusPair × ℕ). f.2) fs)) c.requires.may.told)

-- no command is left
none : (c : goal.After-push_posts) → (pair_of c.finish_turn.new.self c.args.run.now.script.lane).commands ≡ []
none c = (posts_kept c.args.run.now.script.lane _ _ _ c.args.window.now c.finish_turn.new.w c.finish_turn.ensures.step.step).commands

pub push_posts-requires : goal.push_posts-requires
push_posts-requires c =
    let k = c.args.run.now.script.lane in
    let few = posted_few k c.as_slice.result.now (pair_of c.args.controller.now k) (pair_of c.finish_turn.new.self k) c.args.window.now c.finish_turn.new.w c.finish_turn.ensures.step.step in
    omega (arith, few, ap (λ (ps : List (ℕ × StatusPair)). length ps) c.posted.ensures, c.requires.may.few, c.requires.head.burst.1, c.requires.room)

pub returns-clause-more : goal.returns-clause-more
returns-clause-more c =
    let k = c.args.run.now.script.lane in
    let few = posted_few k c.as_slice.result.now (pair_of c.args.controller.now k) (pair_of c.finish_turn.new.self k) c.args.window.now c.finish_turn.new.w c.finish_turn.ensures.step.step in
    let more = c.push_posts.ensures.more in
    record { fewer = more.fewer; few = omega (arith, more.few, few, ap (λ (ps : List (ℕ × StatusPair)). length ps) c.posted.ensures, c.requires.may.few, c.requires.head.burst.1); capacity = more.capacity }

pub returns-clause-leads : goal.returns-clause-leads
returns-clause-leads c = λ l stands.
    let s = c.args.script.now in
    let k = c.args.run.now.script.lane in
    let commands = (pair_of c.args.controller.now k).commands in
    let running = stands.running ∙ ap (λ (rs : List PieceResult). worked s.head.shelf commands (outcomes_of rs)) (sym c.as_slice.ensures.value) in
    let posts = c.finish_turn.ensures.posts.step s l (run_set c.requires.seat.run) c.requires.may.told (stands_control stands) running in
    let told = c.push_posts.ensures.events ∙ ap (λ (ts : List (ℕ × StatusPair)). c.args.events.now.items ++ map (post_line k) ts) c.posted.ensures in
    subst (λ (es : List Line). Leads (PostsAll s k) (Stands s k (record c.args.run.now { results = c.clear.new.self }) (pair_of c.finish_turn.new.self k) c.finish_turn.new.w) l c.args.events.now.items es) (sym told)
    (posts_lane c.args.events.now.items stands refl refl posts (none c))

pub returns-clause-rests : goal.returns-clause-rests
returns-clause-rests c =
    let run = c.requires.seat.run in
    record {
      seat = record {
        run = record { script = run.script; lane = run.lane; guest = run.guest; few = run.few; room = omega (arith, run.room, c.clear.ensures.capacity) };
        window = record { lane = c.finish_turn.ensures.window.0 ∙ c.requires.seat.window.lane; size = c.finish_turn.ensures.window.1 ∙ c.requires.seat.window.size };
        there = omega (arith, c.requires.seat.there, (pair_stepped c.finish_turn.ensures.step).count);
      };
      commands = none c;
      results = search rules;
    }

pub returns-clause-others : goal.returns-clause-others
returns-clause-others c = pair_stepped c.finish_turn.ensures.step
