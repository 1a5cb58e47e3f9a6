use Rattle.std.proofs.Common.{◌≡◌, ℕ, ◌+◌, ◌-◌, ◌<◌, ⊎_elim, List, [], ◌∷◌, ◌++◌, length, slice_index_or, drop, refl, sym, ap, subst, ◌∙◌, arith}
use Rattle.std.specs.List.{AllByRecursion}
use Rattle.std.proofs.lemmas.List.{append_assoc}
use Rattle.std.proofs.lemmas.Option.{slice_get_within, get_or_from_slice_get}
use Rattle.mig_base.proofs.ListLemmas.{all_at}
use Rattle.nvm_model.specs.declared.command.Command.{Command}
use Rattle.nvm_model.specs.declared.command.Completion.{Completion}
use Rattle.nvm_model.specs.declared.line.Line.{Line}
use Rattle.nvm_model.specs.declared.line.Line.TheVariants as line
use Rattle.nvm_model.specs.declared.script.Script.{Script}
use Rattle.nvm_model.specs.Event.{DoesAct, LaneStep, One, Reaps, lane_number}
use Rattle.nvm_model.specs.History.{Steps}
use Rattle.nvm_model.specs.Piece.{pieces_left}
use Rattle.nvm_model.specs.Turn.{Kind, Reap, Act, Fetch, Piece, Post, IsKind, AreOf, LaneEvents, ReapsAll, ActsOn, FetchesOn, PostsAll, Plans, InLanes, Works, Turn, Turns, pieces_in, events_in}
use Rattle.nvm_model.specs.World.{Lane, World, lane_of, new_lane}
use Rattle.turns.proofs.FrameLemmas.{no_first}
use Rattle.turns.proofs.EventLaws.{some_left, one_lane_step, one_end}

-- Events can be cut into turns in one way only: each part of a turn ends where no further event of its kind may come.

-- Two lists that begin the same list.

-- the longer one goes on where the shorter one ends
record GoesOn {X : Type 0} (xs ys : List X) : Type 0 where
  pub next : X
  pub more : List X
  pub is : ys ≡ xs ++ (next ∷ more)

goes_on : {X : Type 0} (xs ys rest others : List X) → xs ++ rest ≡ ys ++ others → length xs < length ys → GoesOn xs ys
goes_on [] [] rest others same shorter = absurd (omega (arith, shorter))
goes_on [] (y ∷ ys) rest others same shorter = record { next = y; more = ys; is = refl }
goes_on (x ∷ xs) [] rest others same shorter = absurd (omega (arith, shorter))
goes_on (x ∷ xs) (y ∷ ys) rest others same shorter =
    let tail = goes_on xs ys rest others (ap (λ l. drop 1 l) same) (omega (arith, shorter)) in
    let head : x ≡ y = ap (λ l. slice_index_or l 0 x) same in
    record { next = tail.next; more = tail.more; is = ap (λ z. z ∷ ys) (sym head) ∙ ap (λ l. x ∷ l) tail.is }

-- they are the same where neither is longer
record IsSameFront {X : Type 0} (xs ys rest others : List X) : Type 0 where
  pub front : ys ≡ xs
  pub behind : others ≡ rest

same_front : {X : Type 0} (xs ys rest others : List X) → xs ++ rest ≡ ys ++ others → (length xs < length ys → ⊥) → (length ys < length xs → ⊥) → IsSameFront xs ys rest others
same_front [] [] rest others same not_shorter not_longer = record { front = refl; behind = sym same }
same_front [] (y ∷ ys) rest others same not_shorter not_longer = absurd (not_shorter (omega arith))
same_front (x ∷ xs) [] rest others same not_shorter not_longer = absurd (not_longer (omega arith))
same_front (x ∷ xs) (y ∷ ys) rest others same not_shorter not_longer =
    let tail = same_front xs ys rest others (ap (λ l. drop 1 l) same) (λ h. not_shorter (omega (arith, h))) (λ h. not_longer (omega (arith, h))) in
    let head : x ≡ y = ap (λ l. slice_index_or l 0 x) same in
    record { front = ap (λ z. z ∷ ys) (sym head) ∙ ap (λ l. x ∷ l) tail.front; behind = tail.behind }

-- what holds of all holds of those behind
all_behind : {X : Type 0} (P : X → Type 0) (xs ys : List X) → AllByRecursion P (xs ++ ys) → AllByRecursion P ys
all_behind P [] ys all = all
all_behind P (x ∷ xs) ys all = all_behind P xs ys all.1

-- Events of one lane.

record Splits (s : Script) (lane : Lane) (xs ys : List Line) (new : Lane) : Type 0 where
  pub mid : Lane
  pub first : LaneEvents s lane xs mid
  pub onward : LaneEvents s mid ys new

splits : (s : Script) (lane new : Lane) (xs ys : List Line) → LaneEvents s lane (xs ++ ys) new → Splits s lane xs ys new
splits s lane new [] ys steps = record { mid = lane; first = refl; onward = steps }
splits s lane new (x ∷ xs) ys steps =
    let rest = splits s steps.0 new xs ys steps.2 in record { mid = rest.mid; first = (steps.0, steps.1, rest.first); onward = rest.onward }

one_lane_end : (s : Script) (lane : Lane) (events : List Line) (new other : Lane) → LaneEvents s lane events new → LaneEvents s lane events other → other ≡ new
one_lane_end s lane [] new other a b = b ∙ sym a
one_lane_end s lane (e ∷ events) new other a b =
    let mid = one_lane_step s e [] lane [] a.0 [] b.0 (a.1 []) (b.1 []) in
    one_lane_end s a.0 events new other a.2 (subst (λ (m : Lane). LaneEvents s m events other) mid.1 b.2)

-- an event of a kind that is legal next
record HasNext (s : Script) (kind : Kind) (k : ℕ) (lane : Lane) : Type 0 where
  pub e : Line
  pub mid : Lane
  pub is : IsKind kind e
  pub of_lane : lane_number e ≡ k
  pub step : LaneStep s e [] lane [] mid

has_next : (s : Script) (kind : Kind) (k : ℕ) (lane : Lane) (xs ys rest others : List Line) (a b : Lane) →
    LaneEvents s lane xs a → AreOf kind k ys → LaneEvents s lane ys b → xs ++ rest ≡ ys ++ others → length xs < length ys → HasNext s kind k a
has_next s kind k lane xs ys rest others a b to_a are to_b same shorter =
    let on = goes_on xs ys rest others same shorter in
    let split = splits s lane b xs (on.next ∷ on.more) (subst (λ (l : List Line). LaneEvents s lane l b) on.is to_b) in
    let here : split.mid ≡ a = one_lane_end s lane xs a split.mid to_a split.first in
    let behind = all_behind _ xs (on.next ∷ on.more) (subst (λ (l : List Line). AreOf kind k l) on.is are) in
    record {
      e = on.next;
      mid = split.onward.0;
      is = behind.0.0;
      of_lane = behind.0.1;
      step = subst (λ (l : Lane). LaneStep s on.next [] l [] split.onward.0) here (split.onward.1 []);
    }

-- what an event of a kind is to its lane
abbrev KindStep : Script → Kind → Lane → Lane → Type 0
KindStep s Reap lane new = (c : Completion) × Reaps c lane new
KindStep s Act lane new = (k : ℕ) × (n : ℕ) × DoesAct s k n lane new
KindStep s Fetch lane new = Unit {0}
KindStep s Piece lane new = Unit {0}
KindStep s Post lane new = (command : Command) × (others : List Command) × (lane.running ≡ command ∷ others)

kind_step : (s : Script) (kind : Kind) (e : Line) (lane new : Lane) → IsKind kind e → LaneStep s e [] lane [] new → KindStep s kind lane new
kind_step s Reap (line.Reap k cid status head phase) lane new is step = (_, step.1)
kind_step s Act (line.Act k n) lane new is step = (k, n, step.1)
kind_step s Fetch e lane new is step = tt
kind_step s Piece e lane new is step = tt
kind_step s Post (line.Post k cid status) lane new is step = (step.1.command, step.1.others, step.1.oldest)
kind_step s Reap e lane new is step = absurd is
kind_step s Act e lane new is step = absurd is
kind_step s Post e lane new is step = absurd is

-- One way for each part of a turn.

-- two parts from one state that begin the same events
record IsOneWay {N : Type 0} (events others rest behind : List Line) (new other : N) : Type 0 where
  pub events_are : others ≡ events
  pub behind_are : behind ≡ rest
  pub end_is : other ≡ new

-- parts of one kind, of which neither can go on
one_kind : (s : Script) (kind : Kind) (k : ℕ) (lane : Lane) (xs ys rest behind : List Line) (a b : Lane) →
    AreOf kind k xs → LaneEvents s lane xs a → AreOf kind k ys → LaneEvents s lane ys b → xs ++ rest ≡ ys ++ behind →
    (length xs < length ys → HasNext s kind k a → ⊥) → (length ys < length xs → HasNext s kind k b → ⊥) → IsOneWay xs ys rest behind a b
one_kind s kind k lane xs ys rest behind a b are_xs to_a are_ys to_b same not_a not_b =
    let front = same_front xs ys rest behind same
    (λ shorter. not_a shorter (has_next s kind k lane xs ys rest behind a b to_a are_ys to_b same shorter))
    (λ longer. not_b longer (has_next s kind k lane ys xs behind rest b a to_b are_xs to_a (sym same) longer)) in
    record {
      events_are = front.front;
      behind_are = front.behind;
      end_is = one_lane_end s lane xs a b to_a (subst (λ (l : List Line). LaneEvents s lane l b) front.front to_b);
    }

no_reap : (s : Script) (k : ℕ) (lane : Lane) → lane.reaped ≡ length lane.posted → HasNext s Reap k lane → ⊥
no_reap s k lane all next =
    let reaps = kind_step s Reap next.e lane next.mid next.is next.step in
    let within = slice_get_within lane.posted lane.reaped reaps.0 reaps.1.oldest in
    omega (arith, all, within)

one_reaps : (s : Script) (k : ℕ) (lane : Lane) (xs ys rest behind : List Line) (a b : Lane) → ReapsAll s k lane xs a → ReapsAll s k lane ys b → xs ++ rest ≡ ys ++ behind → IsOneWay xs ys rest behind a b
one_reaps s k lane xs ys rest behind a b p q same =
    one_kind s Reap k lane xs ys rest behind a b p.are p.steps q.are q.steps same (λ _ next. no_reap s k a p.all next) (λ _ next. no_reap s k b q.all next)

no_post : (s : Script) (k : ℕ) (lane : Lane) → lane.running ≡ [] → HasNext s Post k lane → ⊥
no_post s k lane none next =
    let posts = kind_step s Post next.e lane next.mid next.is next.step in
    let some : lane.running ≡ posts.0 ∷ posts.1 = posts.2 in
    cc

one_posts : (s : Script) (k : ℕ) (lane : Lane) (xs ys rest behind : List Line) (a b : Lane) → PostsAll s k lane xs a → PostsAll s k lane ys b → xs ++ rest ≡ ys ++ behind → IsOneWay xs ys rest behind a b
one_posts s k lane xs ys rest behind a b p q same =
    one_kind s Post k lane xs ys rest behind a b p.are p.steps q.are q.steps same (λ _ next. no_post s k a p.all next) (λ _ next. no_post s k b q.all next)

-- each act counts
acts_count : (s : Script) (k : ℕ) (events : List Line) (lane new : Lane) → AreOf Act k events → LaneEvents s lane events new → new.acts ≡ lane.acts + length events
acts_count s k [] lane new are steps = let same = ap (λ (l : Lane). l.acts) steps in omega (arith, same)
acts_count s k (e ∷ events) lane new are steps =
    let does = kind_step s Act e lane steps.0 are.0.0 (steps.1 []) in
    let here = ap (λ (l : Lane). l.acts) does.2.after in
    let later = acts_count s k events steps.0 new are.1 steps.2 in
    omega (arith, here, later, does.2.number)

no_act : (s : Script) (k : ℕ) (lane : Lane) (xs ys : List Line) (a b : Lane) → ActsOn s k lane xs a → ActsOn s k lane ys b → length xs < length ys → HasNext s Act k a → ⊥
no_act s k lane xs ys a b p q shorter next =
    let a_acts = acts_count s k xs lane a p.are p.steps in
    let b_acts = acts_count s k ys lane b q.are q.steps in
    ⊎_elim (λ full. omega (arith, full, q.few, shorter))
    (λ rest. ⊎_elim (λ idle. q.none_behind a.acts idle.0 (omega (arith, a_acts, b_acts, shorter)) idle.1) (λ none. none next.e [] [] next.mid next.is next.of_lane next.step) rest) p.stops

one_acts : (s : Script) (k : ℕ) (lane : Lane) (xs ys rest behind : List Line) (a b : Lane) → ActsOn s k lane xs a → ActsOn s k lane ys b → xs ++ rest ≡ ys ++ behind → IsOneWay xs ys rest behind a b
one_acts s k lane xs ys rest behind a b p q same =
    one_kind s Act k lane xs ys rest behind a b p.are p.steps q.are q.steps same (no_act s k lane xs ys a b p q) (no_act s k lane ys xs b a q p)

no_fetch : (s : Script) (k : ℕ) (lane : Lane) (xs ys : List Line) (a b : Lane) → FetchesOn s k lane xs a → FetchesOn s k lane ys b → length xs < length ys → HasNext s Fetch k a → ⊥
no_fetch s k lane xs ys a b p q shorter next =
    ⊎_elim (λ full. omega (arith, full, q.few, shorter)) (λ none. none next.e [] [] next.mid next.is next.of_lane next.step) p.stops

one_fetches : (s : Script) (k : ℕ) (lane : Lane) (xs ys rest behind : List Line) (a b : Lane) → FetchesOn s k lane xs a → FetchesOn s k lane ys b → xs ++ rest ≡ ys ++ behind → IsOneWay xs ys rest behind a b
one_fetches s k lane xs ys rest behind a b p q same =
    one_kind s Fetch k lane xs ys rest behind a b p.are p.steps q.are q.steps same (no_fetch s k lane xs ys a b p q) (no_fetch s k lane ys xs b a q p)

-- events in three pieces
three_behind : (reaps acts fetches rest events : List Line) → events ≡ reaps ++ (acts ++ fetches) → events ++ rest ≡ reaps ++ (acts ++ (fetches ++ rest))
three_behind reaps acts fetches rest events is = ap (λ (l : List Line). l ++ rest) is ∙ append_assoc reaps (acts ++ fetches) rest ∙ ap (λ (l : List Line). reaps ++ l) (append_assoc acts fetches rest)

-- what a lane's part is, in one way
abbrev IsDetermined : (ℕ → Lane → List Line → Lane → Type 0) → Type 0
IsDetermined Part = (k : ℕ) (lane : Lane) (xs ys rest behind : List Line) (a b : Lane) → Part k lane xs a → Part k lane ys b → xs ++ rest ≡ ys ++ behind → IsOneWay xs ys rest behind a b

one_plan : (s : Script) → IsDetermined (Plans s)
one_plan s k lane xs ys rest behind a b p q same =
    let cut = sym (three_behind p.reaps p.acts p.fetches rest xs p.events_are) ∙ same ∙ three_behind q.reaps q.acts q.fetches behind ys q.events_are in
    let reaps = one_reaps s k lane p.reaps q.reaps (p.acts ++ (p.fetches ++ rest)) (q.acts ++ (q.fetches ++ behind)) p.reaped q.reaped p.reaping q.reaping cut in
    let acts = one_acts s k p.reaped p.acts q.acts (p.fetches ++ rest) (q.fetches ++ behind) p.acted q.acted p.acting
    (subst (λ (l : Lane). ActsOn s k l q.acts q.acted) reaps.end_is q.acting) (sym reaps.behind_are) in
    let fetches = one_fetches s k p.acted p.fetches q.fetches rest behind a b p.fetching
    (subst (λ (l : Lane). FetchesOn s k l q.fetches b) acts.end_is q.fetching) (sym acts.behind_are) in
    record {
      events_are = q.events_are ∙ (rw (reaps.events_are, acts.events_are, fetches.events_are) (sym p.events_are));
      behind_are = fetches.behind_are;
      end_is = fetches.end_is;
    }

-- the lanes' parts in their order
one_in_lanes : (Part : ℕ → Lane → List Line → Lane → Type 0) → IsDetermined Part → (k : ℕ) (lanes : List Lane) (xs ys rest behind : List Line) (a b : List Lane) →
    InLanes Part k lanes xs a → InLanes Part k lanes ys b → xs ++ rest ≡ ys ++ behind → IsOneWay xs ys rest behind a b
one_in_lanes Part one k [] xs ys rest behind a b p q same = record {
  events_are = q.0 ∙ sym p.0;
  behind_are = ap (λ (l : List Line). l ++ behind) (sym q.0) ∙ sym same ∙ ap (λ (l : List Line). l ++ rest) p.0;
  end_is = q.1 ∙ sym p.1;
}
one_in_lanes Part one k (lane ∷ lanes) xs ys rest behind a b p q same =
    let cut = sym (append_assoc p.0 p.1 rest) ∙ ap (λ (l : List Line). l ++ rest) (sym p.4) ∙ same ∙ ap (λ (l : List Line). l ++ behind) q.4 ∙ append_assoc q.0 q.1 behind in
    let first = one k lane p.0 q.0 (p.1 ++ rest) (q.1 ++ behind) p.2 q.2 p.6 q.6 cut in
    let others = one_in_lanes Part one (k + 1) lanes p.1 q.1 rest behind p.3 q.3 p.7 q.7 (sym first.behind_are) in
    record {
      events_are = q.4 ∙ (rw (first.events_are, others.events_are) (sym p.4));
      behind_are = others.behind_are;
      end_is = q.5 ∙ (rw (first.end_is, others.end_is) (sym p.5));
    }

-- The pieces.

record SplitsSteps (s : Script) (w : World) (xs ys : List Line) (v : World) : Type 0 where
  pub mid : World
  pub first : Steps s w xs mid
  pub onward : Steps s mid ys v

splits_steps : (s : Script) (w v : World) (xs ys : List Line) → Steps s w (xs ++ ys) v → SplitsSteps s w xs ys v
splits_steps s w v [] ys steps = record { mid = w; first = refl; onward = steps }
splits_steps s w v (x ∷ xs) ys steps =
    let rest = splits_steps s steps.0 v xs ys steps.2 in record { mid = rest.mid; first = (steps.0, steps.1, rest.first); onward = rest.onward }

-- where no piece is left none is legal
no_piece_left : (s : Script) (e : Line) (blocks : List (List ℕ)) (lane : Lane) (new_blocks : List (List ℕ)) (new : Lane) →
    AllByRecursion (λ (c : Command). pieces_left s.head.shelf c ≡ 0) lane.running → IsKind Piece e → LaneStep s e blocks lane new_blocks new → ⊥
no_piece_left s (line.Piece k cid first count outcome digest) blocks lane new_blocks new none is step =
    let there = all_at (λ (c : Command). pieces_left s.head.shelf c ≡ 0) lane.running step.place step.command none (slice_get_within lane.running step.place step.command step.at_place) in
    some_left s.head.shelf step.command step.work step.work_is step.left
    (subst (λ (c : Command). pieces_left s.head.shelf c ≡ 0) (get_or_from_slice_get lane.running step.place step.command step.command step.at_place) there)
no_piece_left s e blocks lane new_blocks new none is step = absurd is

no_piece : (s : Script) (w : World) (xs ys rest others : List Line) (a b : World) → Works s w xs a → Works s w ys b → xs ++ rest ≡ ys ++ others → length xs < length ys → ⊥
no_piece s w xs ys rest others a b p q same shorter =
    let on = goes_on xs ys rest others same shorter in
    let split = splits_steps s w b xs (on.next ∷ on.more) (subst (λ (l : List Line). Steps s w l b) on.is q.steps) in
    let here : split.mid ≡ a = one_end s w xs a split.mid p.steps split.first in
    let one : One s a on.next split.onward.0 = subst (λ (m : World). One s m on.next split.onward.0) here split.onward.1 in
    let behind = all_behind _ xs (on.next ∷ on.more) (subst (λ (l : List Line). AllByRecursion (IsKind Piece) l) on.is q.are) in
    let place : lane_number on.next - 1 < length a.lanes = omega (arith, one.there.0, one.there.1) in
    no_piece_left s on.next a.blocks (lane_of a (lane_number on.next)) one.blocks one.lane (all_at _ a.lanes (lane_number on.next - 1) (new_lane 0) p.all place) behind.0 one.step

one_works : (s : Script) (w : World) (xs ys rest behind : List Line) (a b : World) → Works s w xs a → Works s w ys b → xs ++ rest ≡ ys ++ behind → IsOneWay xs ys rest behind a b
one_works s w xs ys rest behind a b p q same =
    let front = same_front xs ys rest behind same (no_piece s w xs ys rest behind a b p q same) (no_piece s w ys xs behind rest b a q p (sym same)) in
    record {
      events_are = front.front;
      behind_are = front.behind;
      end_is = one_end s w xs a b p.steps (subst (λ (l : List Line). Steps s w l b) front.front q.steps);
    }

-- Turns.

-- two worlds with the same blocks and lanes
same_world : (a b : World) → b.blocks ≡ a.blocks → b.lanes ≡ a.lanes → b ≡ a
same_world a b blocks lanes = ap (λ (bs : List (List ℕ)). record { blocks = bs; lanes = b.lanes }) blocks ∙ ap (λ (ls : List Lane). record { blocks = a.blocks; lanes = ls }) lanes

one_turn : (s : Script) (w : World) (xs ys rest behind : List Line) (a b : World) → Turn s w xs a → Turn s w ys b → xs ++ rest ≡ ys ++ behind → IsOneWay xs ys rest behind a b
one_turn s w xs ys rest behind a b p q same =
    let cut = sym (three_behind p.plan p.pieces p.posts rest xs p.events_are) ∙ same ∙ three_behind q.plan q.pieces q.posts behind ys q.events_are in
    let plan = one_in_lanes (Plans s) (one_plan s) 1 w.lanes p.plan q.plan (p.pieces ++ (p.posts ++ rest)) (q.pieces ++ (q.posts ++ behind)) p.planned q.planned p.planning q.planning cut in
    let pieces = one_works s (record { blocks = w.blocks; lanes = p.planned }) p.pieces q.pieces (p.posts ++ rest) (q.posts ++ behind) p.worked q.worked p.working
    (subst (λ (ls : List Lane). Works s (record { blocks = w.blocks; lanes = ls }) q.pieces q.worked) plan.end_is q.working) (sym plan.behind_are) in
    let posts = one_in_lanes (PostsAll s) (one_posts s) 1 p.worked.lanes p.posts q.posts rest behind a.lanes b.lanes p.posting
    (subst (λ (v : World). InLanes (PostsAll s) 1 v.lanes q.posts b.lanes) pieces.end_is q.posting) (sym pieces.behind_are) in
    let blocks : b.blocks ≡ a.blocks = q.blocks ∙ ap (λ (v : World). v.blocks) pieces.end_is ∙ sym p.blocks in
    record {
      events_are = q.events_are ∙ (rw (plan.events_are, pieces.events_are, posts.events_are) (sym p.events_are));
      behind_are = posts.behind_are;
      end_is = same_world a b blocks posts.end_is;
    }

-- events that stand in turns do so in one way
pub one_cut : (s : Script) (n : ℕ) (w : World) (turns others : List (List Line)) (v u : World) → Turns s n w turns v → Turns s n w others u → events_in turns ≡ events_in others → others ≡ turns
one_cut s n w [] [] v u p q same = refl
one_cut s n w [] (turn ∷ others) v u p q same = absurd (q.1.some (no_first turn (events_in others) (sym same)))
one_cut s n w (turn ∷ turns) [] v u p q same = absurd (p.1.some (no_first turn (events_in turns) same))
one_cut s n w (turn ∷ turns) (other ∷ others) v u p q same =
    let first = one_turn s w turn other (events_in turns) (events_in others) p.0 q.0 p.1.turn q.1.turn same in
    let onward : Turns s (n + pieces_in turn) p.0 others u = rw (sym first.events_are, sym first.end_is) q.2 in
    let later = one_cut s (n + pieces_in turn) p.0 turns others v u p.2 onward (sym first.behind_are) in
    ap (λ t. t ∷ others) first.events_are ∙ ap (λ ts. turn ∷ ts) later
