use Rattle.std.proofs.Common.{◌≡◌, ◌+◌, ◌∙◌, ℕ, List, get_or, length, map, sym, ap, subst, arith, rules}
use Rattle.std.proofs.lemmas.List.{length_push}
use Rattle.nvm_model.specs.World.{Lane, new_lane, set_of}
use Rattle.judge.specs.declared.lane.JudgedLane.{JudgedLane}
use Rattle.judge.specs.Lane.{model_of}
use Rattle.judge.specs.Replay.{ReplayState}
use Rattle.judge.specs.Verdict.{zeroed}
use Rattle.judge.specs.World.{IsLaneIn}
use Rattle.judge.proofs.WorldLemmas.{lanes_pushed, lanes_start}
use Rattle.judge.proofs.world.JudgedWorld.make.Goals as goal

pub lanes-preserved : goal.lanes-preserved
lanes-preserved c =
    let s = c.args.script.now in
    let now = c.lanes.invariant in
    let lanes = c.lanes.lanes.items in
    let lane = c.in_ok-make.field-0 in
    let items = c.push_reserved.ensures.items in
    let count : length c.push_reserved.new.self.items ≡ length lanes + 1 = ap (λ (ls : List JudgedLane). length ls) items ∙ length_push lanes lane in
    let no : c.unwrap-lane.result ≡ length lanes + 1 = search (rules, c.new.ensures.value, c.unwrap-lane.ensures, now.count) in
    let last : IsLaneIn s (length lanes + 1) lane = record { of = c.in_ok-make.ensures.of; number = c.in_ok-make.ensures.number ∙ no; sound = c.in_ok-make.ensures.sound } in
    let zeroed : model_of lane ≡ new_lane (set_of s.head (length lanes + 1)).pages = c.in_ok-make.ensures.new ∙ ap (λ (k : ℕ). new_lane (set_of s.head k).pages) no in
    record {
      count = omega (arith, count, now.count);
      capacity = omega (arith, now.capacity, c.push_reserved.ensures.capacity);
      each = λ i d low. subst (λ (ls : List JudgedLane). IsLaneIn s (i + 1) (get_or ls i d)) (sym items)
          (lanes_pushed (λ n l. IsLaneIn s (n + 1) l) lanes lane (λ n e within. now.each n e (omega (arith, within, now.count))) last i d (omega (arith, low, now.count)));
      new = λ i d low. subst (λ (ls : List JudgedLane). model_of (get_or ls i d) ≡ new_lane (set_of s.head (i + 1)).pages) (sym items)
          (lanes_pushed (λ n l. model_of l ≡ new_lane (set_of s.head (n + 1)).pages) lanes lane (λ n e within. now.new n e (omega (arith, within, now.count))) zeroed i d (omega (arith, low, now.count)));
    }

pub returns-clause-new : goal.returns-clause-new
returns-clause-new c =
    let head = c.args.script.now.head in
    let now = c.lanes.invariant in
    let lanes = c.lanes.lanes.items in
    let blocks : c.in_ok-make-2.field-0.blocks ≡ zeroed head = ap (λ (r : ReplayState). r.blocks) c.in_ok-make-2.ensures in
    let count : length lanes ≡ head.lanes = omega (arith, now.count, c.lanes-test.false, c.lanes.auto.place-end) in
    ap (λ (bs : List (List ℕ)). record { blocks = bs; lanes = map model_of lanes }) blocks
    ∙ ap (λ (ls : List Lane). record { blocks = zeroed head; lanes = ls }) (lanes_start head lanes c.requires.head count (λ i d low. now.new i d (omega (arith, low, now.count))))
