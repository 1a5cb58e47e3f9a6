use Rattle.std.proofs.Common.{◌≡◌, ℕ, ◌+◌, ◌-◌, ◌<◌, List, [], ◌∷◌, drop, take, get_or, length, map, sum, sym, ap, ap₂, subst, ◌∙◌, arith, rules}
use Rattle.std.proofs.lemmas.List.{drop_all}
use Rattle.nvm_values.specs.Status.{StatusPair}
use Rattle.nvm_model.specs.declared.command.Command.{Command}
use Rattle.nvm_model.specs.declared.ring.RingState.{RingState}
use Rattle.nvm_model.specs.Ring.{CqState}
use Rattle.nvm_ring.specs.Moves.{with_phase}
use Rattle.guest_ram.specs.Window.{WindowState}
use Rattle.ctl_state.specs.Controller.{PairState}
use Rattle.controller.specs.Pair.{PostSteps, after_pieces, ended, next_completion, outcomes_of, told_fetch, told_post}
use Rattle.controller.specs.Parts.{HasPosted, IsPair, joined}
use Rattle.controller.proofs.StepLemmas.{ended_next, one_posted, posted_all}
use Rattle.controller.proofs.LaneLemmas.{posts_lead}
use Rattle.controller.proofs.WorkLemmas.{told_ended}
use Rattle.controller.proofs.pair.Pair.finish_turn.Goals as goal

pub posts-preserved : goal.posts-preserved
posts-preserved c =
    let k = c.args.lane in
    let old = c.args.self.now in
    let commands = old.commands in
    let fetched = old.fetched in
    let results = c.args.results.now in
    let outcomes = outcomes_of results in
    let inside = c.posts.self-inside in
    let was = c.posts.invariant in
    let place = c.posts.place in
    let at = c.posts.at in
    let n = c.pieces_at.result in
    let command = c.index.result.now in
    let status = c.joined_status-status.result in
    let t : ℕ × StatusPair = (command.cid, status) in
    let sound = subst IsPair c.self.view_is c.self.invariant.0 in
    let there : place < length commands = search rules in
    let is : command ≡ get_or commands place command = c.index.ensures ∙ ap (λ (cs : List Command). get_or cs place command) was.commands in
    let told = c.as_slice.ensures.value ∙ was.fetched in
    let count : n ≡ (get_or fetched place (told_fetch 0 command)).2 = c.pieces_at.ensures.value (told_fetch 0 command) ∙ ap (λ (fs : List (ℕ × StatusPair × ℕ)). (get_or fs place (told_fetch 0 command)).2) told in
    let left = subst (λ (fs : List (ℕ × StatusPair × ℕ)). n + sum (map (λ (f : ℕ × StatusPair × ℕ). f.2) (drop (place + 1) fs)) ≡ sum (map (λ (f : ℕ × StatusPair × ℕ). f.2) (drop place fs))) told c.pieces_at.ensures.left in
    let size : at + n - at ≡ n = omega arith in
    let joined_is : status ≡ joined command.work (outcomes_of (take n (drop at results))) command.status =
    c.joined_status-status.ensures ∙ ap (λ (m : ℕ). joined command.work (outcomes_of (take m (drop at results))) command.status) size in
    let rest = map told_post (ended (drop (place + 1) commands) (drop (place + 1) fetched) (drop (at + n) outcomes)) in
    let next : map told_post (ended (drop place commands) (drop place fetched) (drop at outcomes)) ≡ t ∷ rest =
    ap (map told_post) (ended_next commands fetched outcomes place at command (told_fetch 0 command) there sound.told)
    ∙ ap₂ (λ (x : Command) (m : ℕ). told_post (after_pieces x (take m (drop at outcomes))) ∷ map told_post (ended (drop (place + 1) commands) (drop (place + 1) fetched) (drop (at + m) outcomes))) (sym is) (sym count)
    ∙ ap (λ (x : ℕ × StatusPair). x ∷ rest) (told_ended command results at n ∙ ap (λ (x : StatusPair). (command.cid, x)) (sym joined_is)) in
    let start : PairState = record old { commands = []; fetched = []; posted = [] } in
    let at_ring : CqState → List (ℕ × StatusPair) → PairState = λ q ps. record old { cq = q; commands = []; fetched = []; posted = ps } in
    let now = at_ring inside.cq inside.posted.items in
    let head = ap (λ (r : RingState). r.head) c.state-head.ensures.value ∙ ap (λ (p : PairState). p.sq.head) c.self.view_is in
    let entry = with_phase inside.cq.phase c.finish-entry.result in
    let entry_is = ap (with_phase inside.cq.phase) c.finish-entry.ensures ∙ ap (λ (h : ℕ). next_completion k t (record now { sq = record now.sq { head = h } })) head in
    let h = subst (λ (ts : List (ℕ × StatusPair)). HasPosted k (map told_post (ended commands fetched outcomes)) ts start c.args.w.now now c.posts.w) next was.posted in
    record {
      posted = one_posted t entry h entry_is c.post.ensures.back (ap₂ at_ring c.post.ensures.moved c.push_reserved.ensures.items) c.post.ensures.written;
      left = omega (arith, left, was.left);
      count = search rules;
      capacity = search rules;
      space = omega (arith, was.space, c.post.ensures.frees);
      sq = was.sq;
      commands = was.commands;
      fetched = was.fetched;
      room = was.room;
      commands_room = was.commands_room;
      fetched_room = was.fetched_room;
      lane = ap (λ (x : WindowState). x.lane) c.post.ensures.written ∙ was.lane;
      size = c.post.ensures.size ∙ was.size;
    }

pub returns-clause-step : goal.returns-clause-step
returns-clause-step c =
    let old = c.args.self.now in
    let was = c.posts.invariant in
    let inside = c.posts.self-inside in
    let outcomes = outcomes_of c.args.results.now in
    let all = map told_post (ended old.commands old.fetched outcomes) in
    let start : PairState = record old { commands = []; fetched = []; posted = [] } in
    let now : PairState = record old { cq = inside.cq; commands = []; fetched = []; posted = inside.posted.items } in
    let none : drop c.posts.place old.commands ≡ [] = drop_all c.posts.place old.commands (search rules) in
    let make : RingState → List Command → List (ℕ × StatusPair × ℕ) → ℕ → PairState = λ sq cs fs room. record { sq = sq; cq = inside.cq; commands = cs; fetched = fs; posted = inside.posted.items; room = room } in
    let now_is = ap (λ (q : RingState). make q c.clear-2.new.self.items c.clear-3.new.self.items inside.room) was.sq ∙ ap₂ (λ (cs : List Command) (fs : List (ℕ × StatusPair × ℕ)). make old.sq cs fs inside.room) c.clear-2.ensures.items c.clear-3.ensures.items
    ∙ ap (make old.sq [] []) was.room in
    let h = subst (λ (cs : List Command). HasPosted c.args.lane all (map told_post (ended cs (drop c.posts.place old.fetched) (drop c.posts.at outcomes))) start c.args.w.now now c.posts.w) none was.posted in
    subst (λ (p : PairState). PostSteps c.args.lane all start c.args.w.now p c.posts.w) (sym now_is) (posted_all h)

pub returns-clause-posts : goal.returns-clause-posts
returns-clause-posts c = posts_lead c.args.lane c.args.results.now c.args.self.now _ c.args.w.now c.posts.w c.requires.results (returns-clause-step c)
