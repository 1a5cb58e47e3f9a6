use Rattle.std.proofs.Common.{◌≡◌, ℕ, ◌-◌, ◌<◌, ⊎_elim, List, [], ◌∷◌, Option, Some, All, slice_get, take, drop, refl, sym, ap, subst, ◌∙◌, arith}
use Rattle.std.proofs.lemmas.Bool.{cases_order}
use Rattle.std.proofs.lemmas.List.{get_or-take, length-take-le}
use Rattle.std.proofs.lemmas.List.Elements.{All-get_or}
use Rattle.std.proofs.lemmas.Option.{slice_get_within, get_or_from_slice_get}
use Rattle.nvm_values.specs.Status.{StatusPair}
use Rattle.nvm_model.specs.declared.command.Command.{Command}
use Rattle.nvm_model.specs.declared.command.Completion.{Completion}
use Rattle.nvm_model.specs.declared.command.Outcome.{Outcome}
use Rattle.nvm_model.specs.declared.command.Work.{Work}
use Rattle.nvm_model.specs.declared.line.Line.{Line}
use Rattle.nvm_model.specs.declared.line.Line.TheVariants as line
use Rattle.nvm_model.specs.declared.script.Script.{Script}
use Rattle.nvm_model.specs.Event.{DoesAct, DoesPiece, Fetches, LaneStep, One, Posts, Reaps, lane_number}
use Rattle.nvm_model.specs.History.{Steps}
use Rattle.nvm_model.specs.Piece.{piece_count, pieces_left}
use Rattle.nvm_model.specs.World.{Lane, World, lane_of}
use Rattle.turns.proofs.PlanLemmas.{one_value}

-- From one world an event leads to one world at most.

-- an element of the front
in_front : {X : Type 0} (P : X → Type 0) (xs : List X) (i j : ℕ) (x y : X) → i < j → All P (take j xs) → slice_get xs i ≡ Some x → slice_get xs j ≡ Some y → P x
in_front P xs i j x y before all here there =
    let long = length-take-le j xs (omega (arith, slice_get_within xs j y there)) in
    subst P (get_or-take j xs i x before ∙ get_or_from_slice_get xs i x x here) (All-get_or P (take j xs) i x (omega (arith, before, long)) all)

-- of the elements for which something isn't so there is one before which it is so of all
pub one_place : {X : Type 0} (P : X → Type 0) (xs : List X) (i j : ℕ) (x y : X) →
    All P (take i xs) → All P (take j xs) → slice_get xs i ≡ Some x → slice_get xs j ≡ Some y → (P x → ⊥) → (P y → ⊥) → j ≡ i
one_place P xs i j x y before_i before_j here there not_x not_y =
    ⊎_elim (λ same. same)
    (λ other. ⊎_elim (λ (lower : j < i). absurd (not_y (in_front P xs j i y x lower before_i there here))) (λ (lower : i < j). absurd (not_x (in_front P xs i j x y lower before_j here there))) other)
    (cases_order j i)

-- a command with a piece that isn't done has one left
pub some_left : (shelf : ℕ) (command : Command) (work : Work) → command.work ≡ Some work → work.done < piece_count shelf work.span → pieces_left shelf command ≡ 0 → ⊥
some_left shelf command work work_is left none =
    let count : pieces_left shelf command ≡ piece_count shelf work.span - work.done = rw work_is refl in
    omega (arith, count, left, none)

-- an act, a reap, a fetch and a post of a lane
one_act : (s : Script) (k n : ℕ) (lane new other : Lane) → DoesAct s k n lane new → DoesAct s k n lane other → other ≡ new
one_act s k n lane new other a b =
    let act : b.act ≡ a.act = one_value b.due a.due in
    b.after ∙ rw act (sym a.after)

one_reap : (c : Completion) (lane new other : Lane) → Reaps c lane new → Reaps c lane other → other ≡ new
one_reap c lane new other a b = b.after ∙ sym a.after

one_fetch : (s : Script) (k cid : ℕ) (status : StatusPair) (pieces : ℕ) (lane new other : Lane) →
    Fetches s k cid status pieces lane new → Fetches s k cid status pieces lane other → other ≡ new
one_fetch s k cid status pieces lane new other a b =
    let entry : b.entry ≡ a.entry = one_value b.oldest a.oldest in
    let command : b.command ≡ a.command = b.checked ∙ (rw entry (sym a.checked)) in
    b.after ∙ rw command (sym a.after)

one_post : (s : Script) (k cid : ℕ) (status : StatusPair) (lane new other : Lane) → Posts s k cid status lane new → Posts s k cid status lane other → other ≡ new
one_post s k cid status lane new other a b =
    let both : b.command ∷ b.others ≡ a.command ∷ a.others = sym b.oldest ∙ a.oldest in
    let others : b.others ≡ a.others = ap (λ (cs : List Command). drop 1 cs) both in
    b.after ∙ rw others (sym a.after)

-- what a piece leaves of the namespace and of its lane
one_piece : (s : Script) (cid first count : ℕ) (outcome : Outcome) (digest : Option (List ℕ)) (blocks : List (List ℕ)) (lane : Lane)
    (new_blocks : List (List ℕ)) (new : Lane) (other_blocks : List (List ℕ)) (other : Lane) →
    DoesPiece s cid first count outcome digest blocks lane new_blocks new → DoesPiece s cid first count outcome digest blocks lane other_blocks other →
    (other_blocks ≡ new_blocks) × (other ≡ new)
one_piece s cid first count outcome digest blocks lane new_blocks new other_blocks other a b =
    let place : b.place ≡ a.place =
    one_place (λ (c : Command). pieces_left s.head.shelf c ≡ 0) lane.running a.place b.place a.command b.command a.earlier b.earlier a.at_place b.at_place
    (some_left s.head.shelf a.command a.work a.work_is a.left) (some_left s.head.shelf b.command b.work b.work_is b.left) in
    let at_place : slice_get lane.running b.place ≡ Some a.command = rw place a.at_place in
    let command : b.command ≡ a.command = one_value b.at_place at_place in
    let work_is : b.command.work ≡ Some a.work = rw command a.work_is in
    let work : b.work ≡ a.work = one_value b.work_is work_is in
    let memory : b.memory ≡ a.memory = b.does.memory_is ∙ (rw work (sym a.does.memory_is)) in
    (b.does.blocks_is ∙ (rw work (sym a.does.blocks_is)), b.after ∙ (rw (memory, place, command, work) (sym a.after)))

-- what an event leaves of the namespace and of its lane
pub one_lane_step : (s : Script) (e : Line) (blocks : List (List ℕ)) (lane : Lane) (new_blocks : List (List ℕ)) (new : Lane) (other_blocks : List (List ℕ)) (other : Lane) →
    LaneStep s e blocks lane new_blocks new → LaneStep s e blocks lane other_blocks other → (other_blocks ≡ new_blocks) × (other ≡ new)
one_lane_step s (line.Act k n) blocks lane new_blocks new other_blocks other a b = (b.0 ∙ sym a.0, one_act s k n lane new other a.1 b.1)
one_lane_step s (line.Reap k cid status head phase) blocks lane new_blocks new other_blocks other a b = (b.0 ∙ sym a.0, one_reap _ lane new other a.1 b.1)
one_lane_step s (line.Fetch k cid status pieces) blocks lane new_blocks new other_blocks other a b =
    (b.0 ∙ sym a.0, one_fetch s k cid status pieces lane new other a.1 b.1)
one_lane_step s (line.Piece k cid first count outcome digest) blocks lane new_blocks new other_blocks other a b =
    one_piece s cid first count outcome digest blocks lane new_blocks new other_blocks other a b
one_lane_step s (line.Post k cid status) blocks lane new_blocks new other_blocks other a b = (b.0 ∙ sym a.0, one_post s k cid status lane new other a.1 b.1)
one_lane_step s line.Title blocks lane new_blocks new other_blocks other a b = absurd a
one_lane_step s line.Ready blocks lane new_blocks new other_blocks other a b = absurd a
one_lane_step s line.Migrate blocks lane new_blocks new other_blocks other a b = absurd a
one_lane_step s line.Restart blocks lane new_blocks new other_blocks other a b = absurd a
one_lane_step s (line.Round owed pages) blocks lane new_blocks new other_blocks other a b = absurd a
one_lane_step s line.Suspend blocks lane new_blocks new other_blocks other a b = absurd a
one_lane_step s (line.Pause owed pages) blocks lane new_blocks new other_blocks other a b = absurd a
one_lane_step s line.ResumeTo blocks lane new_blocks new other_blocks other a b = absurd a
one_lane_step s line.GiveUp blocks lane new_blocks new other_blocks other a b = absurd a
one_lane_step s line.End blocks lane new_blocks new other_blocks other a b = absurd a

-- the next world of an event
pub one_next : (s : Script) (w : World) (e : Line) (v u : World) → One s w e v → One s w e u → u ≡ v
one_next s w e v u a b =
    let same = one_lane_step s e w.blocks (lane_of w (lane_number e)) a.blocks a.lane b.blocks b.lane a.step b.step in
    b.after ∙ (rw (same.0, same.1) (sym a.after))

-- the world that a list of events reaches
pub one_end : (s : Script) (w : World) (events : List Line) (v u : World) → Steps s w events v → Steps s w events u → u ≡ v
one_end s w [] v u a b = b ∙ sym a
one_end s w (e ∷ events) v u a b =
    let mid : b.0 ≡ a.0 = one_next s w e a.0 b.0 a.1 b.1 in
    one_end s a.0 events v u a.2 (subst (λ (m : World). Steps s m events u) mid b.2)
