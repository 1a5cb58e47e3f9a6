use Rattle.std.proofs.Common.{◌≡◌, ℕ, zero, suc, ◌+◌, ◌-◌, ◌*◌, ◌/◌, ◌%◌, Bool, List, [], ◌∷◌, ◌++◌, Option, Some, None, length, map, slice_index_or, refl, sym, ap, subst, ◌∙◌, arith}
use Rattle.std.proofs.Math.Nat.{div-mul-le_self, mod-eq-sub-div-mul}
use Rattle.std.specs.List.{AllByRecursion}
use Rattle.std.specs.Option.{IfSome}
use Rattle.std.proofs.lemmas.List.{length-append, length-map}
use Rattle.std.proofs.lemmas.List.Elements.{All-map}
use Rattle.std.proofs.lemmas.List.Sums.{sum_by-cons}
use Rattle.nvm_values.specs.declared.op.Op.{Op}
use Rattle.nvm_values.specs.declared.op.Op.TheVariants.{Flush, Write, Read, Compare, WriteZeroes, Verify}
use Rattle.nvm_model.specs.declared.piece.PieceResult.{PieceResult}
use Rattle.nvm_model.specs.declared.script.Head.{Head}
use Rattle.nvm_model.specs.declared.script.Script.{Script}
use Rattle.nvm_model.specs.declared.line.Line.{Line}
use Rattle.nvm_model.specs.declared.trace.Step.{Step}
use Rattle.nvm_model.specs.Chain.{Chain}
use Rattle.nvm_model.specs.Event.{One}
use Rattle.nvm_model.specs.History.{Steps}
use Rattle.nvm_model.specs.Medium.{At, Effect, IsAt, MediumState, StayTold, flat_call, told_in}
use Rattle.nvm_model.specs.Piece.{digest_after, done_blocks}
use Rattle.nvm_model.specs.Shelf.{HasEffect, digest_bytes, joined}
use Rattle.nvm_model.specs.Turn.{InOrder, IsKind, Turn, left_in, next_lane, piece_number, pieces_in, pick_at, with_some}
use Rattle.nvm_model.specs.Turn.Kind.{Piece}
use Rattle.nvm_model.specs.World.{Lane, World, lane_of}
use Rattle.nvm_model.proofs.MediaLemmas.{flat_calls, length_joined, piece_told}
use Rattle.nvm_model.specs.Run.{AllCopied, Copy, CopyEnd, Here, IsItem, IsPiece, IsTurn, Item, PieceCalled, TurnDone, among, copies_of, due_after, gets_of, part_of, piece_line, pieces_of, turn_lines, written_in}
use Rattle.nvm_model.specs.Run.CopyEnd.{Copied, NotRead, NotWritten}
use Rattle.nvm_model.specs.Run.Item.{Served, Crossed}
use Rattle.nvm_model.specs.Rounds.{InMixedOrder, Wrote, picked_pieces}
use Rattle.nvm_model.specs.Owed.{Written, written_by}
use Rattle.nvm_model.specs.declared.command.Work.{Work}
use Rattle.nvm_model.specs.Told.{Tell, serial}
use Rattle.turns.proofs.CalmLaws.{plans_calm, posts_calm}
use Rattle.turns.proofs.FrameLemmas.{pieces_in_more, turn_parts}
use Rattle.turns.proofs.MediaLaws.{after_failed, sizes_stay}
use Rattle.turns.proofs.WroteLaws.{others_wrote, piece_work, wrote_more}

-- Pieces over media that tell their blocks are events of the world, and a turn on one thread is one of the model.

abbrev pub Blocks : Type 0
Blocks = List (List ℕ)

-- a call of media as one of all their blocks
abbrev pub Flat : ℕ → Blocks → At → Blocks → Type 0
Flat size x a y = Effect x (flat_call size a) y

-- the block with this number is this one of its shelf
pub place_is : (size b : ℕ) → b / size * size + b % size ≡ b
place_is size b = omega (arith, mod-eq-sub-div-mul b size, div-mul-le_self b size)

told_goes : (R : Blocks → Blocks → Type 0) (x : Blocks) (o : Option Blocks) → StayTold R (Some x) o → (y : Blocks) × (o ≡ Some y) × R x y
told_goes R x None h = absurd h
told_goes R x (Some y) h = (y, refl, h)

-- media that tell blocks tell them after calls
tell_on : {M I : Type 0} (state : M → MediumState I) (moves : I → Step → Bool → I → Type 0) (h : Head) (old : List M) (calls : List At) (new : List M) (R : Blocks → Blocks → Type 0) (x : Blocks) → Chain (IsAt state moves) old calls new →
    Tell state h old x → StayTold R (joined (told_in state old)) (joined (told_in state new)) → (y : Blocks) × Tell state h new y × R x y
tell_on {M} state moves h old calls new R x c t told =
    let goes = told_goes R x (joined (told_in state new)) (subst (λ (o : Option Blocks). StayTold R o (joined (told_in state new))) t.told told) in
    let stay = sizes_stay state moves h.shelf old calls new c t.sizes in
    (goes.0, record { sizes = stay.0; count = ap (λ (n : ℕ). n * h.shelf) stay.1 ∙ t.count; told = goes.1 }, goes.2)

pub calls_told : {M I : Type 0} (state : M → MediumState I) (moves : I → Step → Bool → I → Type 0) (h : Head) (old : List M) (calls : List At) (new : List M) (x : Blocks) → Chain (IsAt state moves) old calls new → Tell state h old x →
    (y : Blocks) × Tell state h new y × Chain (Flat h.shelf) x calls y
calls_told state moves h old calls new x c t = tell_on state moves h old calls new (λ a b. Chain (Flat h.shelf) a calls b) x c t (flat_calls state moves h.shelf old calls new c t.sizes)

-- how many blocks are told
pub told_length : {M I : Type 0} (state : M → MediumState I) (h : Head) (media : List M) (blocks : Blocks) → Tell state h media blocks → length blocks ≡ h.blocks
told_length {M} state h media blocks t =
    let told : M → Option Blocks = λ m. (state m).blocks in
    let all = length_joined h.shelf (told_in state media) (All-map (λ (o : Option Blocks). IfSome o (λ (bs : Blocks). length bs ≡ h.shelf)) told media (λ k d l. (t.sizes k d l).told)) in
    subst (λ (o : Option Blocks). IfSome o (λ (bs : Blocks). length bs ≡ length (told_in state media) * h.shelf)) t.told all
    ∙ ap (λ (n : ℕ). n * h.shelf) (length-map media told) ∙ t.count

-- a digest, by its bytes
digest_same : (op : Op) (first n : ℕ) (moved blocks : Blocks) → digest_bytes (digest_after op 0 n moved) ≡ digest_bytes (digest_after op first n blocks) → digest_after op 0 n moved ≡ digest_after op first n blocks
digest_same Read first n moved blocks same = ap (λ (d : List ℕ). Some d) same
digest_same Write first n moved blocks same = refl
digest_same Compare first n moved blocks same = refl
digest_same WriteZeroes first n moved blocks same = refl
digest_same Verify first n moved blocks same = refl
digest_same Flush first n moved blocks same = refl

-- the world of lanes over told blocks
abbrev pub world_of : Blocks → List Lane → World
world_of blocks lanes = record { blocks = blocks; lanes = lanes }

-- a piece
piece_one : {M I : Type 0} (state : M → MediumState I) (moves : I → Step → Bool → I → Type 0) (s : Script) (old : Here M) (p : PieceCalled) (new : Here M) (blocks : Blocks) → IsPiece state moves (serial s) old p new → Tell state s.head old.media blocks →
    (after : Blocks) × Tell state s.head new.media after × One s (world_of blocks old.lanes) (piece_line p) (world_of after new.lanes)
piece_one {M} state moves s old p new blocks r t =
    let d = r.does in
    let pages = (lane_of (among old.lanes) p.lane).pages in
    let size = s.head.shelf in
    let piece = part_of p in
    let result : PieceResult = record { outcome = p.outcome; digest = digest_bytes p.digest } in
    let calls = subst (λ (cs : List At). Chain (IsAt state moves) old.media cs new.media) d.calls_are r.called in
    let goes = tell_on state moves s.head old.media p.calls new.media (λ x y. HasEffect piece (p.first / size * size + p.first % size) result x pages y d.memory) blocks r.called t
    (piece_told state moves size (p.first / size) (p.first % size) piece d.moved result old.media pages new.media d.memory d.done calls t.sizes) in
    let effect = subst (λ (n : ℕ). HasEffect piece n result blocks pages goes.0 d.memory) (place_is size p.first) goes.2 in (
      goes.0,
      goes.1,
      record {
        there = r.there;
        blocks = goes.0;
        lane = r.lane;
        step = record {
          place = d.place;
          command = d.command;
          work = p.work;
          memory = d.memory;
          at_place = d.at_place;
          earlier = d.earlier;
          work_is = d.work_is;
          left = d.left;
          cid_is = d.cid_is;
          does = record {
            first_is = d.first_is;
            count_is = d.count_is;
            fits = effect.fits;
            digest_is = d.digest_is ∙ digest_same p.work.op p.first (done_blocks p.count p.outcome) d.moved blocks (ap digest_bytes (sym d.digest_is) ∙ effect.digest_is);
            blocks_is = effect.blocks_is;
            memory_is = effect.memory_is;
          };
          after = d.after;
        };
        after = ap (λ (h : Here M). world_of goes.0 h.lanes) r.after;
      },
    )

-- a get leaves the blocks
get_stays : (size : ℕ) (c : Copy) (ended : CopyEnd) (x y : Blocks) → c.ended ≡ ended → Chain (Flat size) x (gets_of size c) y → y ≡ x
get_stays size c Copied x y is g = let h = subst (λ (e : CopyEnd). Chain (Flat size) x (gets_of size (record c { ended = e })) y) is g in h.2 ∙ h.1.new_is
get_stays size c NotRead x y is g = let h = subst (λ (e : CopyEnd). Chain (Flat size) x (gets_of size (record c { ended = e })) y) is g in h.2 ∙ h.1.new_is
get_stays size c NotWritten x y is g = let h = subst (λ (e : CopyEnd). Chain (Flat size) x (gets_of size (record c { ended = e })) y) is g in h.2 ∙ h.1.new_is

-- the side that is left tells what it told
pub copy_here : {M I : Type 0} (state : M → MediumState I) (moves : I → Step → Bool → I → Type 0) (s : Script) (c : Copy) (old new : List M) (blocks : Blocks) → Chain (IsAt state moves) old (gets_of s.head.shelf c) new → Tell state s.head old blocks →
    Tell state s.head new blocks
copy_here state moves s c old new blocks g t =
    let told = calls_told state moves s.head old (gets_of s.head.shelf c) new blocks g t in
    subst (λ (b : Blocks). Tell state s.head new b) (get_stays s.head.shelf c c.ended blocks told.0 refl told.2) told.1

-- Whose turn it is.

abbrev pub picks_of : List Item → List (Option Line)
picks_of [] = []
picks_of (Served p ∷ items) = Some (piece_line p) ∷ picks_of items
picks_of (Crossed c ∷ items) = None ∷ picks_of items

pub picked : (items : List Item) → picked_pieces (picks_of items) ≡ map piece_line (pieces_of items)
picked [] = refl
picked (Served p ∷ items) = ap (λ (es : List Line). piece_line p ∷ es) (picked items)
picked (Crossed c ∷ items) = picked items

-- copies that are none don't count
none_behind : (k : ℕ) (left : List ℕ) → with_some k (left ++ 0 ∷ []) ≡ with_some k left
none_behind k [] = refl
none_behind k (zero ∷ others) = none_behind (k + 1) others
none_behind k (suc m ∷ others) = ap (λ (ks : List ℕ). k ∷ ks) (none_behind (k + 1) others)

pub next_alone : (mix n : ℕ) (left : List ℕ) → next_lane mix n (left ++ 0 ∷ []) ≡ next_lane mix n left
next_alone mix n left = ap (λ (some : List ℕ). slice_index_or some (pick_at mix n (length some)) 0) (none_behind 1 left)

alone : (s : Script) (n : ℕ) (w : World) (items : List Item) → copies_of items ≡ [] → InMixedOrder s n 0 w (picks_of items) → InOrder s n w (map piece_line (pieces_of items))
alone s n w [] none order = tt
alone s n w (Served p ∷ items) none order = (order.0, order.1, order.2 ∙ next_alone s.head.mix n (map (left_in s.head.shelf) w.lanes), alone s (n + 1) order.0 items none order.3)
alone s n w (Crossed c ∷ items) none order = absurd cc

-- Items, one after another.

-- what a piece wrote
abbrev wrote_by : Script → PieceCalled → Written
wrote_by s p = written_by s (Some p.work) (piece_line p)

record Worked {M I : Type 0} (state : M → MediumState I) (s : Script) (old : Here M) (items : List Item) (new : Here M) (blocks : Blocks) : Type 0 where
  after : Blocks
  tells : Tell state s.head new.media after
  steps : Steps s (world_of blocks old.lanes) (map piece_line (pieces_of items)) (world_of after new.lanes)
  wrote : Wrote s (world_of blocks old.lanes) (map piece_line (pieces_of items)) (map (wrote_by s) (pieces_of items)) (world_of after new.lanes)
  order : AllCopied (copies_of items) → new.due ≡ [] → InMixedOrder s old.drawn (length old.due) (world_of blocks old.lanes) (picks_of items)
  drawn : new.drawn ≡ old.drawn + length items

due_less : (ended : CopyEnd) (b : ℕ) (due front others new : List ℕ) → ended ≡ Copied → due ≡ front ++ b ∷ others → new ≡ due_after ended (front ++ others) → length new ≡ length due - 1
due_less NotRead b due front others new is was now = absurd cc
due_less NotWritten b due front others new is was now = absurd cc
due_less Copied b due front others new is was now = omega (arith, ap length was, ap length now, length-append front (b ∷ others), length-append front others)

items_told : {M I : Type 0} (state : M → MediumState I) (moves : I → Step → Bool → I → Type 0) (s : Script) (old : Here M) (items : List Item) (new : Here M) (blocks : Blocks) → Chain (IsItem state moves (serial s)) old items new →
    Tell state s.head old.media blocks → Worked state s old items new blocks
items_told {M} state moves s old [] new blocks c t = record {
  after = blocks;
  tells = subst (λ (h : Here M). Tell state s.head h.media blocks) (sym c) t;
  steps = ap (λ (h : Here M). world_of blocks h.lanes) c;
  wrote = (ap (λ (h : Here M). world_of blocks h.lanes) c, refl);
  order = λ all none. ap (λ (h : Here M). length h.due) (sym c) ∙ ap length none;
  drawn = omega (arith, ap (λ (h : Here M). h.drawn) c);
}
items_told {M} state moves s old (Served p ∷ items) new blocks c t =
    let one = piece_one state moves s old p c.0 blocks c.1 t in
    let rest = items_told state moves s c.0 items new one.0 c.2 one.1 in
    let mid = world_of one.0 c.0.lanes in
    let drawn : c.0.drawn ≡ old.drawn + 1 = ap (λ (h : Here M). h.drawn) c.1.after in
    let due : c.0.due ≡ old.due = ap (λ (h : Here M). h.due) c.1.after in
    record {
      after = rest.after;
      tells = rest.tells;
      steps = (mid, one.2, rest.steps);
      wrote = (mid, map (wrote_by s) (pieces_of items), one.2, ap (λ (work : Option Work). written_by s work (piece_line p) ∷ map (wrote_by s) (pieces_of items)) (sym (piece_work s p (lane_of (among old.lanes) p.lane) c.1.lane c.1.does)), rest.wrote);
      order = λ all none. (mid, one.2, c.1.next, subst (λ (n : ℕ). InMixedOrder s n (length old.due) mid (picks_of items)) drawn (subst (λ (ds : List ℕ). InMixedOrder s c.0.drawn (length ds) mid (picks_of items)) due (rest.order all none)));
      drawn = omega (arith, rest.drawn, drawn);
    }
items_told {M} state moves s old (Crossed k ∷ items) new blocks c t =
    let first = copy_here state moves s k old.media c.0.media blocks c.1.gets t in
    let rest = items_told state moves s c.0 items new blocks c.2 first in
    let lanes : c.0.lanes ≡ old.lanes = ap (λ (h : Here M). h.lanes) c.1.after in
    let drawn : c.0.drawn ≡ old.drawn + 1 = ap (λ (h : Here M). h.drawn) c.1.after in
    let w : List Lane → World = λ ls. world_of blocks ls in
    record {
      after = rest.after;
      tells = rest.tells;
      steps = subst (λ (ls : List Lane). Steps s (w ls) (map piece_line (pieces_of items)) (world_of rest.after new.lanes)) lanes rest.steps;
      wrote = subst (λ (ls : List Lane). Wrote s (w ls) (map piece_line (pieces_of items)) (map (wrote_by s) (pieces_of items)) (world_of rest.after new.lanes)) lanes rest.wrote;
      order = λ all none.
          let less = due_less k.ended k.block old.due c.1.front c.1.others c.0.due all.0 c.1.due (ap (λ (h : Here M). h.due) c.1.after) in (
            c.1.next,
            subst (λ (n : ℕ). InMixedOrder s n (length old.due - 1) (w old.lanes) (picks_of items)) drawn
                (subst (λ (n : ℕ). InMixedOrder s c.0.drawn n (w old.lanes) (picks_of items)) less
                (subst (λ (ls : List Lane). InMixedOrder s c.0.drawn (length c.0.due) (w ls) (picks_of items)) lanes (rest.order all.1 none))),
          );
      drawn = omega (arith, rest.drawn, drawn);
    }

are_pieces : (pieces : List PieceCalled) → AllByRecursion (IsKind Piece) (map piece_line pieces)
are_pieces [] = tt
are_pieces (p ∷ pieces) = (tt, are_pieces pieces)

count_pieces : (pieces : List PieceCalled) → pieces_in (map piece_line pieces) ≡ length pieces
count_pieces [] = refl
count_pieces (p ∷ pieces) = omega (arith, count_pieces pieces, sum_by-cons (λ (n : ℕ). n) 1 (map piece_number (map piece_line pieces)))

count_items : (items : List Item) → length items ≡ length (pieces_of items) + length (copies_of items)
count_items [] = refl
count_items (Served p ∷ items) = omega (arith, count_items items)
count_items (Crossed c ∷ items) = omega (arith, count_items items)

-- a turn
pub record TurnTold {M I : Type 0} (state : M → MediumState I) (s : Script) (due : List ℕ) (old : Here M) (t : TurnDone) (new : Here M) (blocks : Blocks) : Type 0 where
  pub after : Blocks
  pub tells : Tell state s.head new.media after
  pub turn : Turn s (world_of blocks old.lanes) (turn_lines t) (world_of after new.lanes)
  pub pieces : picked_pieces (picks_of t.items) ≡ turn.pieces
  pub wrote : Wrote s (world_of blocks old.lanes) (turn_lines t) (written_in s t) (world_of after new.lanes)
  pub order : AllCopied (copies_of t.items) → InMixedOrder s old.drawn (length due) (record { blocks = blocks; lanes = turn.planned }) (picks_of t.items)
  pub alone : due ≡ [] → InOrder s old.drawn (record { blocks = blocks; lanes = turn.planned }) turn.pieces
  pub drawn : new.drawn ≡ old.drawn + pieces_in (turn_lines t) + length (copies_of t.items)

no_copies : (items : List Item) → copies_of items ≡ [] → AllCopied (copies_of items)
no_copies items none = subst AllCopied (sym none) tt

pub turn_told : {M I : Type 0} (state : M → MediumState I) (moves : I → Step → Bool → I → Type 0) (s : Script) (due : List ℕ) (old : Here M) (t : TurnDone) (new : Here M) (blocks : Blocks) → IsTurn state moves (serial s) due old t new → Tell state s.head old.media blocks →
    TurnTold state s due old t new blocks
turn_told {M} state moves s due old t new blocks r tell =
    let pieces = map piece_line (pieces_of t.items) in
    let w = items_told state moves s (record old { lanes = r.planned; due = due }) t.items (record new { lanes = r.worked; due = [] }) blocks r.working tell in
    let plan = plans_calm s 1 old.lanes t.plan r.planned r.planning in
    let posts = posts_calm s 1 r.worked t.posts new.lanes r.posting in
    let planned = world_of blocks r.planned in
    let worked = world_of w.after r.worked in
    let turn : Turn s (world_of blocks old.lanes) (turn_lines t) (world_of w.after new.lanes) = record {
      plan = t.plan;
      pieces = pieces;
      posts = t.posts;
      events_are = refl;
      planned = r.planned;
      worked = worked;
      planning = r.planning;
      working = record { are = are_pieces (pieces_of t.items); steps = w.steps; all = r.all };
      posting = r.posting;
      blocks = refl;
    } in
    let parts = turn_parts turn in
    record {
      after = w.after;
      tells = w.tells;
      turn = turn;
      pieces = picked t.items;
      wrote = wrote_more s (world_of blocks old.lanes) planned (world_of w.after new.lanes) t.plan (pieces ++ t.posts) (map (written_by s None) t.plan) (map (wrote_by s) (pieces_of t.items) ++ map (written_by s None) t.posts)
          (others_wrote s (world_of blocks old.lanes) t.plan planned parts.0 plan.pieces)
          (wrote_more s planned worked (world_of w.after new.lanes) pieces t.posts (map (wrote_by s) (pieces_of t.items)) (map (written_by s None) t.posts) w.wrote (others_wrote s worked t.posts (world_of w.after new.lanes) parts.1 posts.pieces));
      order = λ all. w.order all refl;
      alone = λ none.
          let no = after_failed state moves (serial s) _ t.items _ r.working none in
          alone s old.drawn planned t.items no (subst (λ (n : ℕ). InMixedOrder s old.drawn n planned (picks_of t.items)) (ap length none) (w.order (no_copies t.items no) refl));
      drawn = omega (arith, w.drawn, count_items t.items, count_pieces (pieces_of t.items), pieces_in_more t.plan (pieces ++ t.posts), pieces_in_more pieces t.posts, plan.pieces, posts.pieces);
    }
