use Rattle.std.proofs.Common.{◌≡◌, ℕ, zero, suc, ◌<◌, Bool, cond, List, [], ◌∷◌, ◌++◌, Option, Some, None, All, map, take, refl, sym, ap, subst, ◌∙◌, arith}
use Rattle.std.specs.Prelude.{slice_get}
use Rattle.std.proofs.lemmas.Bool.{eq-eqb, ne_eqb}
use Rattle.std.proofs.lemmas.List.Elements.{All-head, All-tail}
use Rattle.nvm_model.specs.declared.command.Command.{Command}
use Rattle.nvm_model.specs.declared.command.Work.{Work}
use Rattle.nvm_model.specs.declared.line.Line.{Line}
use Rattle.nvm_model.specs.declared.line.Line.TheVariants as line
use Rattle.nvm_model.specs.declared.script.Script.{Script}
use Rattle.nvm_model.specs.History.{Steps}
use Rattle.nvm_model.specs.Owed.{Written, written_by}
use Rattle.nvm_model.specs.Piece.{piece_count, pieces_left}
use Rattle.nvm_model.specs.Rounds.{Wrote, next_work, work_at}
use Rattle.nvm_model.specs.Run.{PieceCalled, PieceOnLane}
use Rattle.nvm_model.specs.Turn.{pieces_in}
use Rattle.nvm_model.specs.World.{Lane, World}
use Rattle.turns.proofs.FrameLemmas.{pieces_in_more}

-- What events wrote, by the lines alone.

pub wrote_more : (s : Script) (w u v : World) (a b : List Line) (x y : List Written) → Wrote s w a x u → Wrote s u b y v → Wrote s w (a ++ b) (x ++ y) v
wrote_more s w u v [] b x y p q = subst (λ (z : World). Wrote s z b (x ++ y) v) p.0 (subst (λ (l : List Written). Wrote s u b (l ++ y) v) (sym p.1) q)
wrote_more s w u v (e ∷ a) b x y p q =
    (p.0, p.1 ++ y, p.2, ap (λ (l : List Written). l ++ y) p.3, wrote_more s p.0 u v a b p.1 y p.4 q)

-- an event that is no piece wrote the same whatever work its lane has
other_same : (s : Script) (work : Option Work) (e : Line) → pieces_in (e ∷ []) ≡ 0 → written_by s work e ≡ written_by s None e
other_same s work (line.Piece k cid first count outcome digest) none = absurd (omega (arith, none))
other_same s None _ none = refl
other_same s (Some work) _ none = refl

pub others_wrote : (s : Script) (w : World) (es : List Line) (v : World) → Steps s w es v → pieces_in es ≡ 0 → Wrote s w es (map (written_by s None) es) v
others_wrote s w [] v steps none = (steps, refl)
others_wrote s w (e ∷ es) v steps none =
    let both = pieces_in_more (e ∷ []) es in (
      steps.0,
      map (written_by s None) es,
      steps.1,
      ap (λ (x : Written). x ∷ map (written_by s None) es) (sym (other_same s (work_at s w e) e (omega (arith, none, both)))),
      others_wrote s steps.0 es v steps.2 (omega (arith, none, both)),
    )

-- The work of a lane's next piece.

left_of : (shelf : ℕ) (command : Command) (work : Work) (w : Option Work) → w ≡ Some work → work.done < piece_count shelf work.span → pieces_left shelf (record command { work = w }) ≡ 0 → ⊥
left_of shelf command work w is left none =
    let count = subst (λ (o : Option Work). pieces_left shelf (record command { work = o }) ≡ 0) is none in
    omega (arith, count, left)

next_is : (shelf : ℕ) (commands : List Command) (place : ℕ) (command : Command) (work : Work) → slice_get commands place ≡ Some command → All (λ (c : Command). pieces_left shelf c ≡ 0) (take place commands) → command.work ≡ Some work → work.done < piece_count shelf work.span →
    next_work shelf commands ≡ Some work
next_is shelf [] zero command work at earlier is left = absurd cc
next_is shelf [] (suc place) command work at earlier is left = absurd cc
next_is shelf (c ∷ commands) zero command work at earlier is left =
    let first : c ≡ command = cc in
    let some : pieces_left shelf c ≡ 0 → ⊥ = λ none. left_of shelf command work command.work is left (ap (pieces_left shelf) (sym first) ∙ none) in
    ap (λ (b : Bool). cond b (next_work shelf commands) c.work) (ne_eqb (pieces_left shelf c) 0 some) ∙ ap (λ (d : Command). d.work) first ∙ is
next_is shelf (c ∷ commands) (suc place) command work at earlier is left =
    let none = All-head (λ (d : Command). pieces_left shelf d ≡ 0) c (take place commands) earlier in
    ap (λ (b : Bool). cond b (next_work shelf commands) c.work) (eq-eqb (pieces_left shelf c) 0 none)
    ∙ next_is shelf commands place command work at (All-tail (λ (d : Command). pieces_left shelf d ≡ 0) c (take place commands) earlier) is left

-- a piece of a lane is one of that work
pub piece_work : (s : Script) (p : PieceCalled) (lane new : Lane) → PieceOnLane s p lane new → next_work s.head.shelf lane.running ≡ Some p.work
piece_work s p lane new d = next_is s.head.shelf lane.running d.place d.command p.work d.at_place d.earlier d.work_is d.left
