use Rattle.std.proofs.Common.{◌≡◌, ℕ, ◌+◌, Bool, List, [], ◌∷◌, ◌++◌, length, take, refl, sym, ap, subst, ◌∙◌, arith}
use Rattle.std.proofs.lemmas.List.{length-map}
use Rattle.std.proofs.lemmas.List.Sorted.{length_permutation}
use Rattle.nvm_model.specs.declared.run.Side.{Side}
use Rattle.nvm_model.specs.declared.script.Script.{Script}
use Rattle.nvm_model.specs.declared.trace.Step.{Step}
use Rattle.nvm_model.specs.Chain.{Chain}
use Rattle.nvm_model.specs.History.{Complete}
use Rattle.nvm_model.specs.Medium.{IsAt, MediumState}
use Rattle.nvm_model.specs.Owed.{DifferIn, Owed, changes_of}
use Rattle.nvm_model.specs.Rounds.{InRounds, IsRoundText, RoundText, copies_due}
use Rattle.nvm_model.specs.Run.{IsCutDue, IsLost, IsRound, IsTurn, Snapshot, TakesMoving, Task, TurnDone, among, copies_of, here, owed_then, turn_lines, turn_mark, written_in}
use Rattle.nvm_model.specs.Told.{Tell, serial}
use Rattle.nvm_model.specs.Turn.{Turn, pieces_in}
use Rattle.nvm_model.specs.World.{Lane, World}
use Rattle.turns.proofs.CrossLaws.{marks_tell, moving_differs}
use Rattle.turns.proofs.PieceLaws.{Blocks, TurnTold, picks_of, turn_told, world_of}
use Rattle.turns.proofs.SegmentLaws.{each_once}

-- A round of a run whose media tell their blocks is one of the transcript.

-- the guests' lanes are those of a world, whose blocks the media on their side tell
pub record Stands {M I : Type 0} (state : M → MediumState I) (s : Script) (x : Snapshot M) (w : World) : Type 0 where
  pub task : x.task ≡ serial s
  pub lanes : x.lanes ≡ w.lanes
  pub tells : Tell state s.head x.at w.blocks

-- those of the other side differ from them in what is owed alone
pub record Owes {M I : Type 0} (state : M → MediumState I) (s : Script) (x : Snapshot M) (w : World) : Type 0 where
  pub others : Blocks
  pub tells : Tell state s.head x.other others
  pub differ : DifferIn s.head.blocks x.owed.blocks w.blocks others

pub rounds_more : (task : Task) (n k : ℕ) (w : World) (owed : Owed) (rounds : List RoundText) (u : World) (mid : Owed) (drawn : ℕ) (r : RoundText) (v : World) → InRounds task n k w owed rounds u mid drawn → IsRoundText task drawn (k + length rounds) u mid r v →
    InRounds task n k w owed (rounds ++ r ∷ []) v r.owed (drawn + pieces_in r.events + copies_due task.script mid)
rounds_more task n k w owed [] u mid drawn r v are is =
    let at : IsRoundText task n k w owed r v = subst (λ (z : World). IsRoundText task n k z owed r v) are.0 (subst (λ (o : Owed). IsRoundText task n k u o r v) are.1
    (subst (λ (m : ℕ). IsRoundText task m k u mid r v) are.2 (subst (λ (m : ℕ). IsRoundText task drawn m u mid r v) (omega arith) is))) in
    (v, at, (refl, refl, omega (arith, are.2, ap (λ (o : Owed). copies_due task.script o) are.1)))
rounds_more task n k w owed (q ∷ rounds) u mid drawn r v are is =
    (are.0, are.1, rounds_more task (n + pieces_in q.events + copies_due task.script owed) (k + 1) are.0 q.owed rounds u mid drawn r v are.2 (subst (λ (m : ℕ). IsRoundText task drawn m u mid r v) (omega arith) is))

-- a turn of a migration, over media that tell
moving_turn : {M I : Type 0} (state : M → MediumState I) (moves : I → Step → Bool → I → Type 0) (s : Script) (x : Snapshot M) (side : Side) (n : ℕ) (t : TurnDone) (y : Snapshot M) (w : World) → TakesMoving state moves x side n t y → Stands state s x w →
    (at : List M) × (other : List M) × TurnTold state s (take s.head.slice x.owed.blocks) (here (record x { at = at; other = other })) t (here y) w.blocks
moving_turn {M} state moves s x side n t y w r h =
    let mid : Snapshot M = record x { at = r.at; other = r.other } in
    let marked = subst (λ (k : Task). Chain (IsAt state moves) x.at (turn_mark k.script n) r.at) h.task r.here_marked in
    let turn : IsTurn state moves (serial s) (take s.head.slice x.owed.blocks) (here mid) t (here y) = subst (λ (k : Task). IsTurn state moves k (take k.script.head.slice x.owed.blocks) (here mid) t (here y)) h.task r.turn in
    (r.at, r.other, turn_told state moves s (take s.head.slice x.owed.blocks) (here mid) t (here y) w.blocks turn (marks_tell state moves s _ x.at r.at w.blocks marked h.tells))

same_told : {M I : Type 0} (state : M → MediumState I) (s : Script) (media : List M) (a b : Blocks) → Tell state s.head media a → Tell state s.head media b → b ≡ a
same_told state s media a b p q = let same = sym q.told ∙ p.told in cc

-- what comes of a round
pub record NextRound {M I : Type 0} (state : M → MediumState I) (s : Script) (x : Snapshot M) (t : TurnDone) (lost : Bool) (y : Snapshot M) (w : World) : Type 0 where
  pub v : World
  pub is : IsRoundText (serial s) x.drawn x.rounds w x.owed (record { events = turn_lines t; restarted = lost; owed = y.owed }) v
  pub lanes : y.lanes ≡ v.lanes
  pub tells : Tell state s.head y.at v.blocks
  pub owes : Owes state s x w → Owes state s y v
  pub drawn : y.drawn ≡ x.drawn + pieces_in (turn_lines t) + copies_due s x.owed

pub next_round : {M I : Type 0} (state : M → MediumState I) (moves : I → Step → Bool → I → Type 0) (s : Script) (x : Snapshot M) (side : Side) (n : ℕ) (t : TurnDone) (lost : Bool) (blocks pages : ℕ) (y : Snapshot M) (w : World) →
    IsRound state moves x side n t lost blocks pages y → Stands state s x w → NextRound state s x t lost y w
next_round {M} {I} state moves s x side n t lost blocks pages y w r h =
    let told = (moving_turn state moves s x side n t y w r.moving h).2 in
    let v = world_of told.after y.lanes in
    let owed : y.owed ≡ owed_then s t lost x.owed = ap (λ (z : Snapshot M). z.owed) r.after ∙ ap (λ (k : Task). owed_then k.script t lost x.owed) h.task in
    let once = each_once state moves x.task _ t.items _ r.moving.turn.working r.copied refl in
    let count : length (copies_of t.items) ≡ copies_due s x.owed =
    sym (length_permutation _ _ once ∙ length-map (copies_of t.items) (λ c. c.block)) ∙ ap (λ (k : Task). length (take k.script.head.slice x.owed.blocks)) h.task in
    let text : RoundText = record { events = turn_lines t; restarted = lost; owed = y.owed } in
    let is : IsRoundText (serial s) x.drawn x.rounds (world_of w.blocks x.lanes) x.owed text v = record {
      not_due = subst (λ (k : Task). IsCutDue k.script.head x.owed x.rounds → ⊥) h.task r.moving.not_due;
      turn = record {
        turn = told.turn;
        picks = picks_of t.items;
        pieces = told.pieces;
        order = told.order r.copied;
        some = λ none. subst (λ (k : Task). Complete k.script (among x.lanes)) h.task (r.moving.some none);
      };
      written = written_in s t;
      wrote = told.wrote;
      lost = subst (λ (c : ℕ). IsLost (serial s) (changes_of (written_in s t)) c lost) count (subst (λ (k : Task). IsLost k (changes_of (written_in k.script t)) (length (copies_of t.items)) lost) h.task r.lost_is);
      owed_is = owed;
    } in
    record {
      v = v;
      is = subst (λ (ls : List Lane). IsRoundText (serial s) x.drawn x.rounds (world_of w.blocks ls) x.owed text v) h.lanes is;
      lanes = refl;
      tells = told.tells;
      owes = λ o.
          let cross = moving_differs state moves s x side n t y w.blocks o.others h.task r.moving h.tells o.tells in
          let same = same_told state s y.at told.after cross.new_from told.tells cross.from_tells in
          record {
            others = cross.new_to;
            tells = cross.to_tells;
            differ = subst (λ (b : Blocks). DifferIn s.head.blocks y.owed.blocks b cross.new_to) same
                (subst (λ (q : Owed). DifferIn s.head.blocks q.blocks cross.new_from cross.new_to) (sym owed) (cross.differ r.copied lost o.differ));
          };
      drawn = omega (arith, told.drawn, count);
    }

-- what comes of a turn in which a copy failed
pub record NextBroken {M I : Type 0} (state : M → MediumState I) (s : Script) (x : Snapshot M) (t : TurnDone) (y : Snapshot M) (w : World) : Type 0 where
  pub v : World
  pub turn : Turn s w (turn_lines t) v
  pub lanes : y.lanes ≡ v.lanes
  pub tells : Tell state s.head y.at v.blocks
  pub drawn : y.drawn ≡ x.drawn + pieces_in (turn_lines t) + length (copies_of t.items)

pub next_broken : {M I : Type 0} (state : M → MediumState I) (moves : I → Step → Bool → I → Type 0) (s : Script) (x : Snapshot M) (side : Side) (n : ℕ) (t : TurnDone) (y : Snapshot M) (w : World) → TakesMoving state moves x side n t y → Stands state s x w → NextBroken state s x t y w
next_broken state moves s x side n t y w r h =
    let told = (moving_turn state moves s x side n t y w r h).2 in
    record { v = world_of told.after y.lanes; turn = subst (λ (ls : List Lane). Turn s (world_of w.blocks ls) (turn_lines t) (world_of told.after y.lanes)) h.lanes told.turn; lanes = refl; tells = told.tells; drawn = told.drawn }
