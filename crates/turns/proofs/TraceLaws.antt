use Rattle.std.proofs.Common.{◌≡◌, ℕ, ◌*◌, ◌<◌, Bool, true, false, List, [], ◌∷◌, ◌++◌, take, refl, sym, ap, subst, ◌∙◌}
use Rattle.std.specs.List.{flat_map}
use Rattle.nvm_model.specs.declared.run.RunPhase.{RunPhase}
use Rattle.nvm_model.specs.declared.run.RunPhase.TheVariants.{Running, Moving, Suspended, Stopped}
use Rattle.nvm_model.specs.declared.run.Side.{Side}
use Rattle.nvm_model.specs.declared.run.Side.TheVariants.{Source, Destination}
use Rattle.nvm_model.specs.declared.script.Script.{Script}
use Rattle.nvm_model.specs.declared.trace.Step.{Step}
use Rattle.nvm_model.specs.declared.trace.Step.TheVariants.{Get, Put}
use Rattle.nvm_model.specs.Chain.{Chain}
use Rattle.nvm_model.specs.Medium.{At, MediumState}
use Rattle.nvm_model.specs.Run.{IsStage, Snapshot, Stage, Task, by_side, calls_at, copy_calls, gets_of, media_count, opposite, puts_of, turn_calls}
use Rattle.nvm_model.specs.Run.Stage.{Title, Turn, Begin, Round, Broken, Suspend, Resume, Stop, GiveUp, End}
use Rattle.nvm_model.specs.Segment.{HasBroken, HasCopied, HaveSegments, IsSegment, block_steps, mark_of, run_segment, steps_at, stood_of}
use Rattle.nvm_model.proofs.ChainLemmas.{chain_keeps}
use Rattle.turns.proofs.CrossLaws.{chain_split}
use Rattle.turns.proofs.MediaLaws.{after_failed}
use Rattle.turns.proofs.RunLaws.{run_task}
use Rattle.turns.proofs.SegmentLaws.{IsAfter, IsFresh, IsUnderWay, broken_copies, broken_segment, copies_here, no_puts, none_left, other_side, pause_segment, round_copies, round_segment, stop_segment}

-- The traces of a whole run, cut at its marks.

same_side : {X : Type 0} (k : Side) (a b : X) → by_side k k a b ≡ a
same_side Source a b = refl
same_side Destination a b = refl

opposite_twice : (k : Side) → opposite (opposite k) ≡ k
opposite_twice Source = refl
opposite_twice Destination = refl

-- Where the guests are.

-- a migration that was begun stays so
stage_tried : {M I : Type 0} (state : M → MediumState I) (moves : I → Step → Bool → I → Type 0) (x : Snapshot M) (stage : Stage) (y : Snapshot M) → IsStage state moves x stage y → x.tried ≡ true → y.tried ≡ true
stage_tried {M} state moves x Title y r tried = ap (λ (z : Snapshot M). z.tried) r.after ∙ tried
stage_tried {M} state moves x (Turn side t) y r tried = ap (λ (z : Snapshot M). z.tried) r.after ∙ tried
stage_tried {M} state moves x Begin y r tried = ap (λ (z : Snapshot M). z.tried) r.after
stage_tried {M} state moves x (Round side n t lost blocks pages) y r tried = ap (λ (z : Snapshot M). z.tried) r.after ∙ tried
stage_tried {M} state moves x (Broken side n t) y r tried = ap (λ (z : Snapshot M). z.tried) r.after ∙ tried
stage_tried {M} state moves x Suspend y r tried = ap (λ (z : Snapshot M). z.tried) r.after ∙ tried
stage_tried {M} state moves x (Resume side n copies pages) y r tried = ap (λ (z : Snapshot M). z.tried) r.after ∙ tried
stage_tried {M} state moves x (Stop side n copies) y r tried = ap (λ (z : Snapshot M). z.tried) r.after ∙ tried
stage_tried {M} state moves x (GiveUp n) y r tried = ap (λ (z : Snapshot M). z.tried) r.after ∙ tried
stage_tried {M} state moves x End y r tried = ap (λ (z : Snapshot M). z.tried) r.after ∙ tried

-- Until a migration is over the guests are on the source, and while one is under way it was begun.
record AreAtSource {M : Type 0} (x : Snapshot M) : Type 0 where
  untried : x.tried ≡ false → x.side ≡ Source
  under_way : IsUnderWay x.phase → (x.side ≡ Source) × (x.tried ≡ true)

-- where neither changes, nor the side
stays : {M : Type 0} {x y : Snapshot M} → AreAtSource x → y.tried ≡ x.tried → y.side ≡ x.side → (IsUnderWay y.phase → IsUnderWay x.phase) → AreAtSource y
stays h tried side under = record { untried = λ none. side ∙ h.untried (sym tried ∙ none); under_way = λ now. let was = h.under_way (under now) in (side ∙ was.0, tried ∙ was.1) }

at_phase : (p q : RunPhase) → p ≡ q → IsUnderWay q → IsUnderWay p
at_phase p q is under = subst IsUnderWay (sym is) under

stage_source : {M I : Type 0} (state : M → MediumState I) (moves : I → Step → Bool → I → Type 0) (x : Snapshot M) (stage : Stage) (y : Snapshot M) → IsStage state moves x stage y → AreAtSource x → AreAtSource y
stage_source {M} state moves x Title y r h =
    stays h (ap (λ (z : Snapshot M). z.tried) r.after) (ap (λ (z : Snapshot M). z.side) r.after) (λ now. absurd (subst IsUnderWay (ap (λ (z : Snapshot M). z.phase) r.after) now))
stage_source {M} state moves x (Turn side t) y r h =
    stays h (ap (λ (z : Snapshot M). z.tried) r.after) (ap (λ (z : Snapshot M). z.side) r.after) (λ now. subst IsUnderWay (ap (λ (z : Snapshot M). z.phase) r.after) now)
stage_source {M} state moves x Begin y r h =
    let tried : y.tried ≡ true = ap (λ (z : Snapshot M). z.tried) r.after in
    record { untried = λ none. let same = sym tried ∙ none in absurd cc; under_way = λ now. (ap (λ (z : Snapshot M). z.side) r.after ∙ h.untried r.due.untried, tried) }
stage_source {M} state moves x (Round side n t lost blocks pages) y r h =
    stays h (ap (λ (z : Snapshot M). z.tried) r.after) (ap (λ (z : Snapshot M). z.side) r.after) (λ now. at_phase x.phase Moving r.moving.was tt)
stage_source {M} state moves x (Broken side n t) y r h =
    stays h (ap (λ (z : Snapshot M). z.tried) r.after) (ap (λ (z : Snapshot M). z.side) r.after) (λ now. at_phase x.phase Moving r.moving.was tt)
stage_source {M} state moves x Suspend y r h =
    stays h (ap (λ (z : Snapshot M). z.tried) r.after) (ap (λ (z : Snapshot M). z.side) r.after) (λ now. at_phase x.phase Moving r.was tt)
stage_source {M} state moves x (Resume side n copies pages) y r h =
    let tried : y.tried ≡ true = ap (λ (z : Snapshot M). z.tried) r.after ∙ (h.under_way (at_phase x.phase Suspended r.was tt)).1 in
    record { untried = λ none. let same = sym tried ∙ none in absurd cc; under_way = λ now. absurd (subst IsUnderWay (ap (λ (z : Snapshot M). z.phase) r.after) now) }
stage_source {M} state moves x (Stop side n copies) y r h =
    stays h (ap (λ (z : Snapshot M). z.tried) r.after) (ap (λ (z : Snapshot M). z.side) r.after) (λ now. at_phase x.phase Suspended r.was tt)
stage_source {M} state moves x (GiveUp n) y r h =
    stays h (ap (λ (z : Snapshot M). z.tried) r.after) (ap (λ (z : Snapshot M). z.side) r.after) (λ now. absurd (subst IsUnderWay (ap (λ (z : Snapshot M). z.phase) r.after) now))
stage_source {M} state moves x End y r h =
    stays h (ap (λ (z : Snapshot M). z.tried) r.after) (ap (λ (z : Snapshot M). z.side) r.after) (λ now. absurd (subst IsUnderWay (ap (λ (z : Snapshot M). z.phase) r.after) now))

run_source : {M I : Type 0} (state : M → MediumState I) (moves : I → Step → Bool → I → Type 0) (s : Script) (x : Snapshot M) (stages : List Stage) (y : Snapshot M) → Chain (IsStage state moves) x stages y → IsFresh s x → AreAtSource y
run_source {M} state moves s x stages y c fresh =
    chain_keeps (IsStage state moves) AreAtSource (stage_source state moves) x stages y c (record { untried = λ none. fresh.side; under_way = λ now. absurd (subst IsUnderWay fresh.phase now) })

-- Before a migration is begun the other side gets no call.
none_before : {M I : Type 0} (state : M → MediumState I) (moves : I → Step → Bool → I → Type 0) (s : Script) (x : Snapshot M) (stages : List Stage) (y : Snapshot M) → x.side ≡ Source → (IsUnderWay x.phase → ⊥) → y.tried ≡ false → Chain (IsStage state moves) x stages y →
    flat_map (calls_at s Destination) stages ≡ []
none_before state moves s x [] y side calm none c = refl
none_before {M} state moves s x (Title ∷ stages) y side calm none c =
    none_before state moves s c.0 stages y (ap (λ (z : Snapshot M). z.side) c.1.after ∙ side) (λ now. subst IsUnderWay (ap (λ (z : Snapshot M). z.phase) c.1.after) now) none c.2
none_before {M} state moves s x (Turn w t ∷ stages) y side calm none c =
    let puts = no_puts s.head.shelf t.items (after_failed state moves x.task _ t.items _ c.1.turn.working refl) in
    let first : calls_at s Destination (Turn w t) ≡ [] = ap (λ (j : Side). by_side Destination j (turn_calls s t) (copy_calls s t)) (c.1.stands ∙ side) ∙ puts in
    ap (λ (calls : List At). calls ++ flat_map (calls_at s Destination) stages) first
    ∙ none_before state moves s c.0 stages y (ap (λ (z : Snapshot M). z.side) c.1.after ∙ side) (λ now. calm (subst IsUnderWay (ap (λ (z : Snapshot M). z.phase) c.1.after) now)) none c.2
none_before {M} state moves s x (Begin ∷ stages) y side calm none c =
    let tried = chain_keeps (IsStage state moves) (λ (z : Snapshot M). z.tried ≡ true) (stage_tried state moves) c.0 stages y c.2 (ap (λ (z : Snapshot M). z.tried) c.1.after) in
    let same = sym tried ∙ none in
    absurd cc
none_before state moves s x (Round w n t lost blocks pages ∷ stages) y side calm none c = absurd (calm (at_phase x.phase Moving c.1.moving.was tt))
none_before state moves s x (Broken w n t ∷ stages) y side calm none c = absurd (calm (at_phase x.phase Moving c.1.moving.was tt))
none_before state moves s x (Suspend ∷ stages) y side calm none c = absurd (calm (at_phase x.phase Moving c.1.was tt))
none_before state moves s x (Resume w n copies pages ∷ stages) y side calm none c = absurd (calm (at_phase x.phase Suspended c.1.was tt))
none_before state moves s x (Stop w n copies ∷ stages) y side calm none c = absurd (calm (at_phase x.phase Suspended c.1.was tt))
none_before state moves s x (GiveUp n ∷ stages) y side calm none c = absurd (calm (at_phase x.phase Stopped c.1.was tt))
none_before {M} state moves s x (End ∷ stages) y side calm none c =
    none_before state moves s c.0 stages y (ap (λ (z : Snapshot M). z.side) c.1.after ∙ side) (λ now. subst IsUnderWay (ap (λ (z : Snapshot M). z.phase) c.1.after) now) none c.2

-- The segments of the marks.

module _ {M I : Type 0} (state : M → MediumState I) (moves : I → Step → Bool → I → Type 0) (s : Script) (i : ℕ) (there : i < media_count s) (old : Snapshot M) (fresh : IsFresh s old) where
  -- on the side on which the guests stand, and on the other one
  both_sides : (P : List Step → List Step → Type 0) (side : Side) (n : ℕ) (stages : List Stage) (xs ys : List At) → ((who : Side) → run_segment s who i n stages ≡ steps_at i (by_side who side xs ys)) → P (steps_at i xs) (steps_at i ys) →
      P (run_segment s side i n stages) (run_segment s (opposite side) i n stages)
  both_sides P side n stages xs ys each is =
      subst (λ (left : List Step). P left (run_segment s (opposite side) i n stages)) (sym (each side ∙ ap (steps_at i) (same_side side xs ys)))
      (subst (λ (taken : List Step). P (steps_at i xs) taken) (sym (each (opposite side) ∙ ap (steps_at i) (other_side side xs ys))) is)

  segment_is : (front : List Stage) (x : Snapshot M) (stage : Stage) (y : Snapshot M) (back : List Stage) (z : Snapshot M) → Chain (IsStage state moves) old front x → IsStage state moves x stage y → Chain (IsStage state moves) y back z →
      IsSegment s i x.owed stage (run_segment s (stood_of stage) i (mark_of stage) (front ++ stage ∷ back)) (run_segment s (opposite (stood_of stage)) i (mark_of stage) (front ++ stage ∷ back))
  segment_is front x (Round side n t lost blocks pages) y back z before r after =
      let script = ap (λ (t : Task). t.script) (run_task state moves old front x before) ∙ fresh.script in
      both_sides (HasCopied s.head.shelf i (take s.head.slice x.owed.blocks) t.items) side (3 * n) (front ++ Round side n t lost blocks pages ∷ back) (turn_calls s t) (copy_calls s t)
      (λ who. round_segment state moves s who i old front x side n t lost blocks pages y back z fresh there before r after)
      (subst (λ (k : Script). HasCopied k.head.shelf i (take k.head.slice x.owed.blocks) t.items (steps_at i (turn_calls k t)) (steps_at i (copy_calls k t))) script (round_copies state moves i x side n t lost blocks pages y r))
  segment_is front x (Broken side n t) y back z before r after =
      let script = ap (λ (t : Task). t.script) (run_task state moves old front x before) ∙ fresh.script in
      both_sides (HasBroken s.head.shelf i (take s.head.slice x.owed.blocks) t.items) side (3 * n) (front ++ Broken side n t ∷ back) (turn_calls s t) (copy_calls s t)
      (λ who. broken_segment state moves s who i old front x side n t y back z fresh there before r after)
      (subst (λ (k : Script). HasBroken k.head.shelf i (take k.head.slice x.owed.blocks) t.items (steps_at i (turn_calls k t)) (steps_at i (copy_calls k t))) script (broken_copies state moves i x side n t y r))
  segment_is front x (Resume side n copies pages) y back z before r after = record {
    left_is = pause_segment state moves s side i old front x side n copies pages y back fresh there before r ∙ same_side side (block_steps (λ b. Get b) s.head.shelf i x.owed.blocks) (block_steps (λ b. Put b) s.head.shelf i x.owed.blocks);
    taken_is = pause_segment state moves s (opposite side) i old front x side n copies pages y back fresh there before r ∙ other_side side (block_steps (λ b. Get b) s.head.shelf i x.owed.blocks) (block_steps (λ b. Put b) s.head.shelf i x.owed.blocks);
  }
  segment_is front x (Stop side n copies) y back z before r after =
      let gets = flat_map (gets_of s.head.shelf) copies in
      let puts = flat_map (puts_of s.head.shelf) copies in
      let steps = copies_here s.head.shelf i copies in
      record {
        up_to = r.copies_stop;
        left_is = stop_segment state moves s side i old front x side n copies y back z fresh there before r after ∙ ap (steps_at i) (same_side side gets puts) ∙ steps.0;
        taken_is = stop_segment state moves s (opposite side) i old front x side n copies y back z fresh there before r after ∙ ap (steps_at i) (other_side side gets puts) ∙ steps.1;
      }
  segment_is front x Title y back z before r after = tt
  segment_is front x (Turn side t) y back z before r after = tt
  segment_is front x Begin y back z before r after = tt
  segment_is front x Suspend y back z before r after = tt
  segment_is front x (GiveUp n) y back z before r after = tt
  segment_is front x End y back z before r after = tt

pub run_segments : {M I : Type 0} (state : M → MediumState I) (moves : I → Step → Bool → I → Type 0) (s : Script) (old : Snapshot M) (stages : List Stage) (new : Snapshot M) → IsFresh s old → Chain (IsStage state moves) old stages new → HaveSegments state moves s old stages
run_segments {M} {I} state moves s old stages new fresh c = record {
  segments = λ i there front stage back is.
      let at = parts front stage back is in
      record {
        before = at.0;
        reached = at.1;
        is = subst (λ (all : List Stage). IsSegment s i at.0.owed stage (run_segment s (stood_of stage) i (mark_of stage) all) (run_segment s (opposite (stood_of stage)) i (mark_of stage) all)) (sym is)
            (segment_is state moves s i there old fresh front at.0 stage at.2.0 back new at.1 at.2.1 at.2.2);
      };
  before = λ front back is. let at = parts front Begin back is in none_before state moves s old front at.0 fresh.side (λ now. subst IsUnderWay fresh.phase now) at.2.1.due.untried at.1;
  given_up = λ n front back is.
      let at = parts front (GiveUp n) back is in
      let r = at.2.1 in
      let was = (run_source state moves s old front at.0 at.1 fresh).under_way (at_phase at.0.phase Stopped r.was tt) in
      none_left state moves s Source at.2.0 back new (ap (λ (z : Snapshot M). z.tried) r.after ∙ was.1) (ap (λ (z : Snapshot M). z.side) r.after ∙ was.0) (running (ap (λ (z : Snapshot M). z.phase) r.after)) at.2.2;
  moved = λ side n copies pages front back is.
      let at = parts front (Resume side n copies pages) back is in
      let r = at.2.1 in
      let was = (run_source state moves s old front at.0 at.1 fresh).under_way (at_phase at.0.phase Suspended r.was tt) in
      subst (λ (k : Side). flat_map (calls_at s k) back ≡ []) (opposite_twice side)
      (none_left state moves s (opposite side) at.2.0 back new (ap (λ (z : Snapshot M). z.tried) r.after ∙ was.1) (ap (λ (z : Snapshot M). z.side) r.after ∙ ap opposite (sym r.stood)) (running (ap (λ (z : Snapshot M). z.phase) r.after)) at.2.2);
}
  where
    parts : (front : List Stage) (stage : Stage) (back : List Stage) → stages ≡ front ++ stage ∷ back → (x : Snapshot M) × Chain (IsStage state moves) old front x × Chain (IsStage state moves) x (stage ∷ back) new
    parts front stage back is = chain_split (IsStage state moves) front (stage ∷ back) old new (subst (λ (all : List Stage). Chain (IsStage state moves) old all new) is c)

    running : {p : RunPhase} → p ≡ Running → IsAfter p
    running is = subst IsAfter (sym is) tt
