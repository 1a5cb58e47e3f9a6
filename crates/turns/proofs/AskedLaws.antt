use Rattle.std.proofs.Common.{◌≡◌, ℕ, inr, Bool, true, false, List, Some, refl, sym, ap, subst, ◌∙◌}
use Rattle.nvm_model.specs.declared.trace.Step.{Step}
use Rattle.nvm_model.specs.Chain.{Chain}
use Rattle.nvm_model.specs.Medium.{MediumState}
use Rattle.nvm_model.proofs.ChainLemmas.{chain_keeps}
use Rattle.nvm_model.specs.declared.run.RunPhase.{RunPhase}
use Rattle.nvm_model.specs.declared.run.RunPhase.TheVariants.{New, Running, Moving, Suspended, Stopped, Over}
use Rattle.nvm_model.specs.declared.run.Side.TheVariants.{Source}
use Rattle.nvm_model.specs.Run.{IsStage, Snapshot, Stage, Task}
use Rattle.nvm_model.specs.Run.Stage.{Title, Turn, Begin, Round, Broken, Suspend, Resume, Stop, GiveUp, End}

-- What a run's stages do with the migration that its script asks for, whatever the media tell.

-- a migration is under way
abbrev pub IsMoving : RunPhase → Type 0
IsMoving New = ⊥
IsMoving Running = ⊥
IsMoving Moving = Unit {0}
IsMoving Suspended = Unit {0}
IsMoving Stopped = Unit {0}
IsMoving Over = ⊥

-- It is begun only where it is asked for, and no run is over before it was. Until it is begun, nothing of the other side
-- changes.
pub record Asks {M : Type 0} (old x : Snapshot M) : Type 0 where
  pub same : x.task ≡ old.task
  pub asked : x.tried ≡ true → (turn : ℕ) × (x.task.script.head.migrate ≡ Some turn)
  pub begun : IsMoving x.phase → x.tried ≡ true
  pub over : x.phase ≡ Over → x.tried ≡ false → (turn : ℕ) → x.task.script.head.migrate ≡ Some turn → ⊥
  pub stays : x.tried ≡ false → (x.side ≡ Source) × (x.other ≡ old.other) × (x.left ≡ old.left)

-- the run goes on with its guests running, where no migration is begun
kept : {M : Type 0} {old x y : Snapshot M} → Asks old x → y.tried ≡ x.tried → y.task ≡ x.task → y.phase ≡ Running → (y.tried ≡ false → (y.side ≡ x.side) × (y.other ≡ x.other) × (y.left ≡ x.left)) → Asks old y
kept {M} {old} {x} {y} h tried task phase stays = record {
  same = task ∙ h.same;
  asked = λ t. let a = h.asked (sym tried ∙ t) in (a.0, ap (λ (k : Task). k.script.head.migrate) task ∙ a.1);
  begun = λ p. absurd (subst IsMoving phase p);
  over = λ p. absurd cc;
  stays = λ n. let s = stays n in let b = h.stays (sym tried ∙ n) in (s.0 ∙ b.0, s.1 ∙ b.1, s.2 ∙ b.2);
}

-- a migration that was begun goes on
goes : {M : Type 0} {old x y : Snapshot M} → Asks old x → IsMoving x.phase → y.tried ≡ x.tried → y.task ≡ x.task → (y.phase ≡ Over → ⊥) → Asks old y
goes {M} {old} {x} {y} h moving tried task not_over =
    let begun = tried ∙ h.begun moving in
    record {
      same = task ∙ h.same;
      asked = λ t. let a = h.asked (sym tried ∙ t) in (a.0, ap (λ (k : Task). k.script.head.migrate) task ∙ a.1);
      begun = λ p. begun;
      over = λ p. absurd (not_over p);
      stays = λ n. absurd cc;
    }

to_moving : (p q : RunPhase) → p ≡ q → IsMoving q → IsMoving p
to_moving p q is moving = subst IsMoving (sym is) moving

stage_asks : {M I : Type 0} (state : M → MediumState I) (moves : I → Step → Bool → I → Type 0) (old x : Snapshot M) (stage : Stage) (y : Snapshot M) → IsStage state moves x stage y → Asks old x → Asks old y
stage_asks {M} state moves old x Title y r h =
    kept h (ap (λ (z : Snapshot M). z.tried) r.after) (ap (λ (z : Snapshot M). z.task) r.after) (ap (λ (z : Snapshot M). z.phase) r.after)
    (λ n. (ap (λ (z : Snapshot M). z.side) r.after, ap (λ (z : Snapshot M). z.other) r.after, ap (λ (z : Snapshot M). z.left) r.after))
stage_asks {M} state moves old x (Turn side t) y r h =
    kept h (ap (λ (z : Snapshot M). z.tried) r.after) (ap (λ (z : Snapshot M). z.task) r.after) (ap (λ (z : Snapshot M). z.phase) r.after ∙ r.was)
    (λ n. (ap (λ (z : Snapshot M). z.side) r.after, ap (λ (z : Snapshot M). z.other) r.after, ap (λ (z : Snapshot M). z.left) r.after))
stage_asks {M} state moves old x Begin y r h =
    let tried = ap (λ (z : Snapshot M). z.tried) r.after in
    let phase = ap (λ (z : Snapshot M). z.phase) r.after in
    record {
      same = ap (λ (z : Snapshot M). z.task) r.after ∙ h.same;
      asked = λ t. (r.due.turn, ap (λ (z : Snapshot M). z.task.script.head.migrate) r.after ∙ r.due.asked);
      begun = λ p. tried;
      over = λ p. absurd cc;
      stays = λ n. absurd cc;
    }
stage_asks {M} state moves old x (Round side n t lost blocks pages) y r h =
    let phase = ap (λ (z : Snapshot M). z.phase) r.after ∙ r.moving.was in
    goes h (to_moving x.phase Moving r.moving.was tt) (ap (λ (z : Snapshot M). z.tried) r.after) (ap (λ (z : Snapshot M). z.task) r.after) (λ over. absurd cc)
stage_asks {M} state moves old x (Broken side n t) y r h =
    let phase = ap (λ (z : Snapshot M). z.phase) r.after in
    goes h (to_moving x.phase Moving r.moving.was tt) (ap (λ (z : Snapshot M). z.tried) r.after) (ap (λ (z : Snapshot M). z.task) r.after) (λ over. absurd cc)
stage_asks {M} state moves old x Suspend y r h =
    let phase = ap (λ (z : Snapshot M). z.phase) r.after in
    goes h (to_moving x.phase Moving r.was tt) (ap (λ (z : Snapshot M). z.tried) r.after) (ap (λ (z : Snapshot M). z.task) r.after) (λ over. absurd cc)
stage_asks {M} state moves old x (Resume side n copies pages) y r h =
    let phase = ap (λ (z : Snapshot M). z.phase) r.after in
    goes h (to_moving x.phase Suspended r.was tt) (ap (λ (z : Snapshot M). z.tried) r.after) (ap (λ (z : Snapshot M). z.task) r.after) (λ over. absurd cc)
stage_asks {M} state moves old x (Stop side n copies) y r h =
    let phase = ap (λ (z : Snapshot M). z.phase) r.after in
    goes h (to_moving x.phase Suspended r.was tt) (ap (λ (z : Snapshot M). z.tried) r.after) (ap (λ (z : Snapshot M). z.task) r.after) (λ over. absurd cc)
stage_asks {M} state moves old x (GiveUp n) y r h =
    let phase = ap (λ (z : Snapshot M). z.phase) r.after in
    goes h (to_moving x.phase Stopped r.was tt) (ap (λ (z : Snapshot M). z.tried) r.after) (ap (λ (z : Snapshot M). z.task) r.after) (λ over. absurd cc)
stage_asks {M} state moves old x End y r h =
    let tried = ap (λ (z : Snapshot M). z.tried) r.after in
    let phase = ap (λ (z : Snapshot M). z.phase) r.after in
    let migrate = ap (λ (z : Snapshot M). z.task.script.head.migrate) r.after in
    record {
      same = ap (λ (z : Snapshot M). z.task) r.after ∙ h.same;
      asked = λ t. let a = h.asked (sym tried ∙ t) in (a.0, migrate ∙ a.1);
      begun = λ p. absurd (subst IsMoving phase p);
      over = λ p n turn m. r.not_due (record { untried = sym tried ∙ n; turn = turn; asked = sym migrate ∙ m; when = inr r.complete });
      stays = λ n.
          let b = h.stays (sym tried ∙ n) in
          (ap (λ (z : Snapshot M). z.side) r.after ∙ b.0, ap (λ (z : Snapshot M). z.other) r.after ∙ b.1, ap (λ (z : Snapshot M). z.left) r.after ∙ b.2);
    }

pub run_asks : {M I : Type 0} (state : M → MediumState I) (moves : I → Step → Bool → I → Type 0) (old : Snapshot M) (stages : List Stage) (new : Snapshot M) → old.phase ≡ New → old.tried ≡ false → old.side ≡ Source → Chain (IsStage state moves) old stages new → Asks old new
run_asks {M} state moves old stages new phase tried side run =
    chain_keeps (IsStage state moves) (Asks old) (stage_asks state moves old) old stages new run
    (record { same = refl; asked = λ t. absurd cc; begun = λ p. absurd (subst IsMoving phase p); over = λ p. absurd cc; stays = λ n. (side, refl, refl) })
