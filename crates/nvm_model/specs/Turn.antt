use Rattle.std.specs.Prelude.{◌≡◌, ◌⊎◌, ℕ, zero, suc, ◌+◌, ◌-◌, ◌%◌, ◌<◌, ◌≤◌, ◌==◌, if◌then◌else◌, List, [], ◌∷◌, ◌++◌, Option, Some, None, length, map, slice_get, slice_index_or, sum}
use Rattle.std.specs.List.{AllByRecursion, flat_map}
use Rattle.rand_xoshiro.specs.SplitMix64.{mix_u64}
use Rattle.nvm_model.specs.declared.command.Command.{Command}
use Rattle.nvm_model.specs.declared.line.Line.{Line}
use Rattle.nvm_model.specs.declared.line.Line.TheVariants as line
use Rattle.nvm_model.specs.declared.script.Act.TheVariants.{Idle}
use Rattle.nvm_model.specs.declared.script.Script.{Script}
use Rattle.nvm_model.specs.Event.{LaneStep, One, lane_number}
use Rattle.nvm_model.specs.History.{Steps, Complete}
use Rattle.nvm_model.specs.Piece.{pieces_left}
use Rattle.nvm_model.specs.World.{Lane, World, acts_of}

-- A turn: for each lane in order, its guest reaps and acts and the controller fetches; then all pieces are done; then,
-- for each lane in order, all fetched commands are posted.

-- the kinds of events
pub data Kind : Type 0 where
  Reap : Kind
  Act : Kind
  Fetch : Kind
  Piece : Kind
  Post : Kind

-- a line is an event of this kind
abbrev pub IsKind : Kind → Line → Type 0
IsKind kind l = is kind l
  where
    is : Kind → Line → Type 0
    is Reap (line.Reap k cid status head phase) = Unit {0}
    is Act (line.Act k n) = Unit {0}
    is Fetch (line.Fetch k cid status pieces) = Unit {0}
    is Piece (line.Piece k cid first count outcome digest) = Unit {0}
    is Post (line.Post k cid status) = Unit {0}
    is _ _ = ⊥

-- events of one kind, all of lane k
abbrev pub AreOf : Kind → ℕ → List Line → Type 0
AreOf kind k events = AllByRecursion (λ e. IsKind kind e × (lane_number e ≡ k)) events

-- events that lead lane k from one state to another, one after another, and touch no block
abbrev pub LaneEvents : Script → Lane → List Line → Lane → Type 0
LaneEvents s lane [] new = new ≡ lane
LaneEvents s lane (e ∷ events) new = (mid : Lane) × ((blocks : List (List ℕ)) → LaneStep s e blocks lane blocks mid) × LaneEvents s mid events new

-- no event of a kind is legal for lane k
abbrev pub NoneLegal : Script → Kind → ℕ → Lane → Type 0
NoneLegal s kind k lane = (e : Line) (blocks new_blocks : List (List ℕ)) (new : Lane) → IsKind kind e → lane_number e ≡ k → LaneStep s e blocks lane new_blocks new → ⊥

-- act n of a lane is `idle`
abbrev pub IsIdle : Script → ℕ → ℕ → Type 0
IsIdle s k n = slice_get (acts_of k s.acts) (n - 1) ≡ Some Idle

-- all completions are reaped
pub record ReapsAll (s : Script) (k : ℕ) (lane : Lane) (events : List Line) (new : Lane) : Type 0 where
  pub are : AreOf Reap k events
  pub steps : LaneEvents s lane events new
  pub all : new.reaped ≡ length new.posted

-- Acts: at most as many as the burst, none behind an `idle`, and no fewer than these allow and are legal.
pub record ActsOn (s : Script) (k : ℕ) (lane : Lane) (events : List Line) (new : Lane) : Type 0 where
  pub are : AreOf Act k events
  pub steps : LaneEvents s lane events new
  pub few : length events ≤ s.head.burst
  pub none_behind : (n : ℕ) → lane.acts < n → n < new.acts → IsIdle s k n → ⊥
  pub stops : (length events ≡ s.head.burst) ⊎ ((lane.acts < new.acts) × IsIdle s k new.acts) ⊎ NoneLegal s Act k new

-- Fetches: the same.
pub record FetchesOn (s : Script) (k : ℕ) (lane : Lane) (events : List Line) (new : Lane) : Type 0 where
  pub are : AreOf Fetch k events
  pub steps : LaneEvents s lane events new
  pub few : length events ≤ s.head.burst
  pub stops : (length events ≡ s.head.burst) ⊎ NoneLegal s Fetch k new

-- all running commands are posted
pub record PostsAll (s : Script) (k : ℕ) (lane : Lane) (events : List Line) (new : Lane) : Type 0 where
  pub are : AreOf Post k events
  pub steps : LaneEvents s lane events new
  pub all : new.running ≡ []

-- what one lane does before the pieces
pub record Plans (s : Script) (k : ℕ) (lane : Lane) (events : List Line) (new : Lane) : Type 0 where
  pub reaps : List Line
  pub acts : List Line
  pub fetches : List Line
  pub events_are : events ≡ reaps ++ (acts ++ fetches)
  pub reaped : Lane
  pub acted : Lane
  pub reaping : ReapsAll s k lane reaps reaped
  pub acting : ActsOn s k reaped acts acted
  pub fetching : FetchesOn s k acted fetches new

-- a part for each of these lanes in order, the first with number k
abbrev pub InLanes : (ℕ → Lane → List Line → Lane → Type 0) → ℕ → List Lane → List Line → List Lane → Type 0
InLanes Part k [] events new = (events ≡ []) × (new ≡ [])
InLanes Part k (lane ∷ lanes) events new =
    (first : List Line) × (others : List Line) × (l : Lane) × (ls : List Lane) × (events ≡ first ++ others) × (new ≡ l ∷ ls) × Part k lane first l × InLanes Part (k + 1) lanes others ls

-- the pieces of all commands, in some order
pub record Works (s : Script) (w : World) (events : List Line) (v : World) : Type 0 where
  pub are : AllByRecursion (IsKind Piece) events
  pub steps : Steps s w events v
  pub all : AllByRecursion (λ (lane : Lane). AllByRecursion (λ (c : Command). pieces_left s.head.shelf c ≡ 0) lane.running) v.lanes

-- a turn: plans of all lanes, pieces until none is left, posts of all lanes
pub record Turn (s : Script) (w : World) (events : List Line) (v : World) : Type 0 where
  pub plan : List Line
  pub pieces : List Line
  pub posts : List Line
  pub events_are : events ≡ plan ++ (pieces ++ posts)
  pub planned : List Lane
  pub worked : World
  pub planning : InLanes (Plans s) 1 w.lanes plan planned
  pub working : Works s (record { blocks = w.blocks; lanes = planned }) pieces worked
  pub posting : InLanes (PostsAll s) 1 worked.lanes posts v.lanes
  pub blocks : v.blocks ≡ worked.blocks

-- The order of a turn's pieces on one thread.

-- the state of SplitMix64 from a seed after n words, and its next word
abbrev pub word_state : ℕ → ℕ → ℕ
word_state seed zero = seed
word_state seed (suc n) = (mix_u64 (word_state seed n)).1

-- word n of that seed, from 0
abbrev pub word_at : ℕ → ℕ → ℕ
word_at seed n = (mix_u64 (word_state seed n)).0

-- how many pieces of each lane aren't done
abbrev pub left_in : ℕ → Lane → ℕ
left_in shelf lane = sum (map (pieces_left shelf) lane.running)

-- the same for each lane of a world
abbrev pub lefts : Script → World → List ℕ
lefts s w = map (left_in s.head.shelf) w.lanes

-- the numbers of the lanes with some left, ascending, where the first lane has number k
abbrev pub with_some : ℕ → List ℕ → List ℕ
with_some k [] = []
with_some k (zero ∷ others) = with_some (k + 1) others
with_some k (suc n ∷ others) = k ∷ with_some (k + 1) others

-- the place of the one among so many whose piece is next, where n pieces of the run were done before it
abbrev pub pick_at : ℕ → ℕ → ℕ → ℕ
pick_at mix n count = if mix == 0 then 0 else word_at mix n % count

-- the lane whose piece is next
abbrev pub next_lane : ℕ → ℕ → List ℕ → ℕ
next_lane mix n left = let some = with_some 1 left in slice_index_or some (pick_at mix n (length some)) 0

-- Pieces from a world on, of which n were done before: with `mix 0` lane after lane, and else of the lanes with some left
-- the one that the next word picks.
abbrev pub InOrder : Script → ℕ → World → List Line → Type 0
InOrder s n w [] = Unit {0}
InOrder s n w (e ∷ events) = (u : World) × One s w e u × (lane_number e ≡ next_lane s.head.mix n (lefts s w)) × InOrder s (n + 1) u events

-- Turns, one after another.

-- a turn on one thread, before which the world isn't complete; it has an event
pub record SerialTurn (s : Script) (n : ℕ) (w : World) (events : List Line) (v : World) : Type 0 where
  pub turn : Turn s w events v
  pub order : InOrder s n (record { blocks = w.blocks; lanes = turn.planned }) turn.pieces
  pub due : Complete s w → ⊥
  pub some : events ≡ [] → ⊥

-- 1 for a piece line and 0 for another
abbrev pub piece_number : Line → ℕ
piece_number (line.Piece k cid first count outcome digest) = 1
piece_number _ = 0

-- how many pieces there are among events
abbrev pub pieces_in : List Line → ℕ
pieces_in events = sum (map piece_number events)

-- turns, where n pieces were done before
abbrev pub Turns : Script → ℕ → World → List (List Line) → World → Type 0
Turns s n w [] v = v ≡ w
Turns s n w (turn ∷ turns) v = (u : World) × SerialTurn s n w turn u × Turns s (n + pieces_in turn) u turns v

-- the events of turns
abbrev pub events_in : List (List Line) → List Line
events_in turns = flat_map (λ (turn : List Line). turn) turns

-- A migration that is asked for begins before the turn with that number, or before an earlier one where all is complete.
abbrev pub Begins : Script → Option ℕ → ℕ → World → Type 0
Begins s None done w = Unit {0}
Begins s (Some turn) done w = (done < turn) × ((done + 1 ≡ turn) ⊎ Complete s w)
