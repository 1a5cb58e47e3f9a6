use Rattle.std.proofs.Common.{◌≡◌, Bool, true, false, ℕ, List, refl, subst, sym}
use Rattle.nvm_model.specs.declared.line.Line.{Line}
use Rattle.nvm_model.specs.Event.{DoesAct, Fetches, LaneStep, Posts, lane_number}
use Rattle.nvm_model.specs.World.{Lane}
use Rattle.judge.specs.Decides.{Decides}
use Rattle.judge.specs.Lane.{model_of}
use Rattle.judge.proofs.lane.JudgedLane.step.Goals as goal

-- an event that touches no block
blocks_stay : (found : Bool) (Step : Lane → Type 0) (blocks : List (List ℕ)) (new : Lane) → Decides found Step new → Decides found (λ (x : List (List ℕ) × Lane). (x.0 ≡ blocks) × Step x.1) (blocks, new)
blocks_stay true Step blocks new is = (refl, is)
blocks_stay false Step blocks new none = λ other step. none other.1 step.1

pub returns-in-Act-clause-step : goal.returns-in-Act-clause-step
returns-in-Act-clause-step c = λ s of number.
    let j = c.args.self.now in
    let blocks = c.args.namespace.now.blocks in
    let new = model_of c.act.new.self in
    let lane : c.in-Act.lane ≡ j.lane = subst (λ (e : Line). lane_number e ≡ j.lane) c.in-Act.is number in
    subst (λ (e : Line). Decides c.act.result (λ (x : List (List ℕ) × Lane). LaneStep s e blocks (model_of j) x.0 x.1) (blocks, new)) (sym c.in-Act.is)
    (subst (λ (k : ℕ). Decides c.act.result (λ (x : List (List ℕ) × Lane). (x.0 ≡ blocks) × DoesAct s k c.in-Act.n (model_of j) x.1) (blocks, new)) (sym lane)
    (blocks_stay c.act.result (DoesAct s j.lane c.in-Act.n (model_of j)) blocks new (c.act.ensures.step s of)))

pub returns-in-Fetch-clause-step : goal.returns-in-Fetch-clause-step
returns-in-Fetch-clause-step c = λ s of number.
    let j = c.args.self.now in
    let e = c.in-Fetch in
    let blocks = c.args.namespace.now.blocks in
    let new = model_of c.fetch.new.self in
    let lane : e.lane ≡ j.lane = subst (λ (l : Line). lane_number l ≡ j.lane) e.is number in
    subst (λ (l : Line). Decides c.fetch.result (λ (x : List (List ℕ) × Lane). LaneStep s l blocks (model_of j) x.0 x.1) (blocks, new)) (sym e.is)
    (subst (λ (k : ℕ). Decides c.fetch.result (λ (x : List (List ℕ) × Lane). (x.0 ≡ blocks) × Fetches s k e.cid e.status e.pieces (model_of j) x.1) (blocks, new)) (sym lane)
    (blocks_stay c.fetch.result (Fetches s j.lane e.cid e.status e.pieces (model_of j)) blocks new (c.fetch.ensures.step s of)))

pub returns-in-Post-clause-step : goal.returns-in-Post-clause-step
returns-in-Post-clause-step c = λ s of number.
    let j = c.args.self.now in
    let e = c.in-Post in
    let blocks = c.args.namespace.now.blocks in
    let new = model_of c.post.new.self in
    let lane : e.lane ≡ j.lane = subst (λ (l : Line). lane_number l ≡ j.lane) e.is number in
    subst (λ (l : Line). Decides c.post.result (λ (x : List (List ℕ) × Lane). LaneStep s l blocks (model_of j) x.0 x.1) (blocks, new)) (sym e.is)
    (subst (λ (k : ℕ). Decides c.post.result (λ (x : List (List ℕ) × Lane). (x.0 ≡ blocks) × Posts s k e.cid e.status (model_of j) x.1) (blocks, new)) (sym lane)
    (blocks_stay c.post.result (Posts s j.lane e.cid e.status (model_of j)) blocks new (c.post.ensures.step s of)))
