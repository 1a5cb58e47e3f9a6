use Rattle.std.proofs.Common.{◌≡◌, ℕ, ◌+◌, cond, List, [], ◌∷◌, ◌++◌, refl, sym, subst, arith}
use Rattle.std.proofs.lemmas.List.Sums.{sum_by-append}
use Rattle.nvm_model.specs.declared.line.Line.{Line}
use Rattle.nvm_model.specs.declared.line.Line.TheVariants as line
use Rattle.nvm_model.specs.declared.script.Script.{Script}
use Rattle.nvm_model.specs.History.{faults_shown, shows_fault}
use Rattle.nvm_model.specs.Turn.{AreOf, InLanes, IsKind, Kind, Plans, PostsAll, pieces_in}
use Rattle.nvm_model.specs.Turn.Kind.{Reap, Act, Fetch, Piece, Post}
use Rattle.nvm_model.specs.World.{Lane}
use Rattle.turns.proofs.FrameLemmas.{pieces_in_more}

-- An event that isn't a piece shows no fault.

pub faults_more : (a b : List Line) → faults_shown (a ++ b) ≡ faults_shown a + faults_shown b
faults_more a b = sum_by-append (λ (l : Line). cond (shows_fault l) 1 0) a b

-- these show no fault, and none is a piece
pub record AreCalm (events : List Line) : Type 0 where
  pub faults : faults_shown events ≡ 0
  pub pieces : pieces_in events ≡ 0

calm_both : (a b : List Line) → AreCalm a → AreCalm b → AreCalm (a ++ b)
calm_both a b x y = record { faults = omega (arith, faults_more a b, x.faults, y.faults); pieces = omega (arith, pieces_in_more a b, x.pieces, y.pieces) }

-- the kinds but the pieces
abbrev IsOther : Kind → Type 0
IsOther Piece = ⊥
IsOther Reap = Unit {0}
IsOther Act = Unit {0}
IsOther Fetch = Unit {0}
IsOther Post = Unit {0}

one_calm : (kind : Kind) (e : Line) → IsOther kind → IsKind kind e → AreCalm (e ∷ [])
one_calm Piece e other is = absurd other
one_calm Reap (line.Reap k cid status head phase) other is = record { faults = refl; pieces = refl }
one_calm Act (line.Act k n) other is = record { faults = refl; pieces = refl }
one_calm Fetch (line.Fetch k cid status pieces) other is = record { faults = refl; pieces = refl }
one_calm Post (line.Post k cid status) other is = record { faults = refl; pieces = refl }
one_calm Reap _ other is = absurd is
one_calm Act _ other is = absurd is
one_calm Fetch _ other is = absurd is
one_calm Post _ other is = absurd is

kind_calm : (kind : Kind) (k : ℕ) (events : List Line) → IsOther kind → AreOf kind k events → AreCalm events
kind_calm kind k [] other are = record { faults = refl; pieces = refl }
kind_calm kind k (e ∷ events) other are = calm_both (e ∷ []) events (one_calm kind e other are.0.0) (kind_calm kind k events other are.1)

lanes_calm : (Part : ℕ → Lane → List Line → Lane → Type 0) → ((k : ℕ) (lane : Lane) (events : List Line) (new : Lane) → Part k lane events new → AreCalm events) →
    (k : ℕ) (lanes : List Lane) (events : List Line) (new : List Lane) → InLanes Part k lanes events new → AreCalm events
lanes_calm Part each k [] events new parts = subst AreCalm (sym parts.0) (record { faults = refl; pieces = refl })
lanes_calm Part each k (lane ∷ lanes) events new parts =
    subst AreCalm (sym parts.4) (calm_both parts.0 parts.1 (each k lane parts.0 parts.2 parts.6) (lanes_calm Part each (k + 1) lanes parts.1 parts.3 parts.7))

plan_calm : (s : Script) (k : ℕ) (lane : Lane) (events : List Line) (new : Lane) → Plans s k lane events new → AreCalm events
plan_calm s k lane events new plan = subst AreCalm (sym plan.events_are)
    (calm_both plan.reaps (plan.acts ++ plan.fetches) (kind_calm Reap k plan.reaps tt plan.reaping.are) (calm_both plan.acts plan.fetches (kind_calm Act k plan.acts tt plan.acting.are) (kind_calm Fetch k plan.fetches tt plan.fetching.are)))

-- the plans of lanes
pub plans_calm : (s : Script) (k : ℕ) (lanes : List Lane) (events : List Line) (new : List Lane) → InLanes (Plans s) k lanes events new → AreCalm events
plans_calm s = lanes_calm (Plans s) (plan_calm s)

-- their posts
pub posts_calm : (s : Script) (k : ℕ) (lanes : List Lane) (events : List Line) (new : List Lane) → InLanes (PostsAll s) k lanes events new → AreCalm events
posts_calm s = lanes_calm (PostsAll s) (λ k lane events new posts. kind_calm Post k events tt posts.are)
