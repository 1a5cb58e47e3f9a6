use Rattle.std.proofs.Common.{◌≡◌, ℕ, ◌+◌, ◌*◌, ◌/◌, ◌%◌, Bool, true, false, List, [], ◌∷◌, ◌++◌, Some, None, length, map, set, take, drop, refl, sym, ap, subst, ◌∙◌, append_assoc, append-nil, arith}
use Rattle.std.specs.List.{flat_map, range_with_len}
use Rattle.std.proofs.lemmas.Grind.{flat_map-append}
use Rattle.std.proofs.lemmas.List.{take-append-drop}
use Rattle.nvm_values.specs.declared.op.Op.{Op}
use Rattle.nvm_values.specs.declared.op.Op.TheVariants.{Flush, Write, Read, Compare, WriteZeroes, Verify}
use Rattle.nvm_model.specs.declared.command.Outcome.{Outcome}
use Rattle.nvm_model.specs.declared.command.Outcome.TheVariants.{Done, Faulted, Differs}
use Rattle.nvm_model.specs.declared.line.Line.{Line}
use Rattle.nvm_model.specs.declared.line.Line.TheVariants as line
use Rattle.nvm_model.specs.declared.piece.Piece.{Piece}
use Rattle.nvm_model.specs.declared.script.Script.{Script}
use Rattle.nvm_model.specs.declared.trace.Call.{Call}
use Rattle.nvm_model.specs.declared.trace.Step.{Step}
use Rattle.nvm_model.specs.declared.trace.Step.TheVariants.{Get, Put}
use Rattle.nvm_model.specs.Chain.{Chain}
use Rattle.nvm_model.specs.Medium.{At, IsAt, flat_call, MediumState, all_at, marked, marks_at}
use Rattle.nvm_model.specs.Owed.{DifferIn, Written, blocks_of, blocks_written, changed_by, either_of, written_by}
use Rattle.nvm_model.specs.Piece.{OutcomeFits, block_at, done_blocks}
use Rattle.nvm_model.specs.Run.{AllCopied, CopiesAll, Copy, CopyEnd, Here, IsItem, IsTurn, Item, PieceCalled, TakesMoving, Task, TurnDone, copies_of, due_after, gets_of, here, owed_then, part_of, piece_line, pieces_of, puts_of, resume_mark, suspend_mark, turn_mark, written_in, Snapshot, media_count}
use Rattle.nvm_model.specs.Run.CopyEnd.{Copied, NotRead, NotWritten}
use Rattle.nvm_model.specs.Run.Item.{Served, Crossed}
use Rattle.nvm_model.specs.Told.{Tell, serial}
use Rattle.nvm_model.specs.Trace.{data_sent, good_calls, moved_count, piece_calls, step_of}
use Rattle.turns.proofs.CoverLaws.{ChangeIn, all_differ, calls_change, differ_changed, differ_copied, differ_either, none_differs, put_at, puts_in}
use Rattle.turns.proofs.PieceLaws.{Blocks, Flat, calls_told, copy_here, place_is}

-- What may differ between two sides whose media tell their blocks, while pieces are served and blocks are copied.

-- What a piece puts.

puts_more : (size : ℕ) (xs ys : List At) → puts_in size (xs ++ ys) ≡ puts_in size xs ++ puts_in size ys
puts_more size [] ys = refl
puts_more size (x ∷ xs) ys =
    let first = put_at (flat_call size x).step x.call.failed in
    ap (λ (ps : List ℕ). first ++ ps) (puts_more size xs ys) ∙ sym (append_assoc first (puts_in size xs) (puts_in size ys))

at_more : (i : ℕ) (xs ys : List Call) → all_at i (xs ++ ys) ≡ all_at i xs ++ all_at i ys
at_more i [] ys = refl
at_more i (x ∷ xs) ys = ap (λ (others : List At). record { shelf = i; call = x } ∷ others) (at_more i xs ys)

good_puts : (size i f : ℕ) (moved : Blocks) → puts_in size (all_at i (good_calls (λ b. Put b) f moved)) ≡ range_with_len (i * size + f) (length moved)
good_puts size i f [] = refl
good_puts size i f (bytes ∷ moved) =
    ap (λ (ps : List ℕ). (i * size + f) ∷ ps) (good_puts size i (f + 1) moved ∙ ap (λ (n : ℕ). range_with_len n (length moved)) (omega arith))

good_gets : (size i f : ℕ) (moved : Blocks) → puts_in size (all_at i (good_calls (λ b. Get b) f moved)) ≡ []
good_gets size i f [] = refl
good_gets size i f (bytes ∷ moved) = good_gets size i (f + 1) moved

-- the good calls of an operation
op_puts : (op : Op) (size i f : ℕ) (moved : Blocks) → puts_in size (all_at i (good_calls (step_of op) f moved)) ≡ blocks_written op (i * size + f) (length moved)
op_puts Write size i f moved = good_puts size i f moved
op_puts WriteZeroes size i f moved = good_puts size i f moved
op_puts Read size i f moved = good_gets size i f moved
op_puts Compare size i f moved = good_gets size i f moved
op_puts Verify size i f moved = good_gets size i f moved
op_puts Flush size i f moved = good_gets size i f moved

-- a call that failed puts nothing
failed_puts : (op : Op) (size i b : ℕ) (bytes : List ℕ) → puts_in size (record { shelf = i; call = record { step = step_of op b; bytes = bytes; failed = true } } ∷ []) ≡ []
failed_puts Write size i b bytes = refl
failed_puts WriteZeroes size i b bytes = refl
failed_puts Read size i b bytes = refl
failed_puts Compare size i b bytes = refl
failed_puts Verify size i b bytes = refl
failed_puts Flush size i b bytes = refl

calls_put : (size i f : ℕ) (piece : Piece) (memory moved : Blocks) (outcome : Outcome) → puts_in size (all_at i (piece_calls piece f memory moved outcome)) ≡ blocks_written piece.op (i * size + f) (length moved)
calls_put size i f piece memory moved Done =
    ap (λ (cs : List Call). puts_in size (all_at i cs)) (append-nil (good_calls (step_of piece.op) f moved)) ∙ op_puts piece.op size i f moved
calls_put size i f piece memory moved (Differs at) =
    ap (λ (cs : List Call). puts_in size (all_at i cs)) (append-nil (good_calls (step_of piece.op) f moved)) ∙ op_puts piece.op size i f moved
calls_put size i f piece memory moved (Faulted at) =
    let good = good_calls (step_of piece.op) f moved in
    let bytes = data_sent piece.op piece.pages memory (piece.at + at) in
    let last : List Call = record { step = step_of piece.op (f + at); bytes = bytes; failed = true } ∷ [] in
    ap (puts_in size) (at_more i good last) ∙ puts_more size (all_at i good) (all_at i last)
    ∙ ap (λ (ps : List ℕ). puts_in size (all_at i good) ++ ps) (failed_puts piece.op size i (f + at) bytes) ∙ append-nil (puts_in size (all_at i good)) ∙ op_puts piece.op size i f moved

-- as many as were done
as_done : (op : Op) (same : ℕ → Type 0) (first n count : ℕ) (outcome : Outcome) → n ≡ moved_count count outcome → OutcomeFits op same count outcome → blocks_written op first n ≡ blocks_written op first (done_blocks count outcome)
as_done Read same first n count outcome is fits = refl
as_done Compare same first n count outcome is fits = refl
as_done Verify same first n count outcome is fits = refl
as_done Flush same first n count outcome is fits = refl
as_done Write same first n count Done is fits = ap (range_with_len first) is
as_done Write same first n count (Faulted at) is fits = ap (range_with_len first) is
as_done Write same first n count (Differs at) is fits = absurd fits
as_done WriteZeroes same first n count Done is fits = ap (range_with_len first) is
as_done WriteZeroes same first n count (Faulted at) is fits = ap (range_with_len first) is
as_done WriteZeroes same first n count (Differs at) is fits = absurd fits

abbrev pub changed_of : List Item → List ℕ
changed_of items = flat_map (λ (p : PieceCalled). changed_by (Some p.work) (piece_line p)) (pieces_of items)

changed_none : (e : Line) → changed_by None e ≡ []
changed_none (line.Piece k cid first count outcome digest) = refl
changed_none _ = refl

lines_change : (s : Script) (es : List Line) → blocks_of (map (written_by s None) es) ≡ []
lines_change s [] = refl
lines_change s (e ∷ es) = ap (λ (bs : List ℕ). bs ++ blocks_of (map (written_by s None) es)) (changed_none e) ∙ lines_change s es

pieces_change : (s : Script) (pieces : List PieceCalled) → blocks_of (map (λ (p : PieceCalled). written_by s (Some p.work) (piece_line p)) pieces) ≡ flat_map (λ (p : PieceCalled). changed_by (Some p.work) (piece_line p)) pieces
pieces_change s [] = refl
pieces_change s (p ∷ pieces) = ap (λ (bs : List ℕ). changed_by (Some p.work) (piece_line p) ++ bs) (pieces_change s pieces)

-- the blocks that a turn wrote are those that its pieces did
pub turn_changes : (s : Script) (t : TurnDone) → blocks_of (written_in s t) ≡ changed_of t.items
turn_changes s t =
    let plan = map (written_by s None) t.plan in
    let pieces = map (λ (p : PieceCalled). written_by s (Some p.work) (piece_line p)) (pieces_of t.items) in
    let posts = map (written_by s None) t.posts in
    flat_map-append (λ (w : Written). w.blocks) plan (pieces ++ posts) ∙ ap (λ (bs : List ℕ). bs ++ blocks_of (pieces ++ posts)) (lines_change s t.plan)
    ∙ flat_map-append (λ (w : Written). w.blocks) pieces posts ∙ ap (λ (bs : List ℕ). blocks_of pieces ++ bs) (lines_change s t.posts) ∙ append-nil (blocks_of pieces) ∙ pieces_change s (pieces_of t.items)

-- Items.

pub record Crossing {M I : Type 0} (state : M → MediumState I) (s : Script) (old : Here M) (items : List Item) (new : Here M) (x z : Blocks) : Type 0 where
  pub from : Blocks
  pub to : Blocks
  pub from_tells : Tell state s.head new.media from
  pub to_tells : Tell state s.head new.other to
  pub differ : AllCopied (copies_of items) → (n : ℕ) (rest : List ℕ) → DifferIn n (old.due ++ rest) x z → DifferIn n (new.due ++ (rest ++ changed_of items)) from to

-- a piece
serves : {M I : Type 0} (state : M → MediumState I) (moves : I → Step → Bool → I → Type 0) (s : Script) (old : Here M) (p : PieceCalled) (new : Here M) (x z : Blocks) → IsItem state moves (serial s) old (Served p) new →
    Tell state s.head old.media x → Tell state s.head old.other z → Crossing state s old (Served p ∷ []) new x z
serves {M} state moves s old p new x z r t u =
    let size = s.head.shelf in
    let told = calls_told state moves s.head old.media p.calls new.media x r.called t in
    let d = r.does in
    let are : puts_in size p.calls ≡ changed_by (Some p.work) (piece_line p) =
    ap (puts_in size) d.calls_are ∙ calls_put size (p.first / size) (p.first % size) (part_of p) _ d.moved p.outcome
    ∙ ap (λ (f : ℕ). blocks_written p.work.op f (length d.moved)) (place_is size p.first) ∙ as_done p.work.op _ p.first (length d.moved) p.count p.outcome d.done.count d.done.fits in
    let change = subst (λ (ps : List ℕ). ChangeIn ps x told.0) are (calls_change size p.calls x told.0 told.2) in
    record {
      from = told.0;
      to = z;
      from_tells = told.1;
      to_tells = subst (λ (ms : List M). Tell state s.head ms z) (sym (ap (λ (h : Here M). h.other) r.after)) u;
      differ = λ all n rest differ.
          let changed = changed_by (Some p.work) (piece_line p) in
          subst (λ (ps : List ℕ). DifferIn n ps told.0 z)
          (append_assoc old.due rest changed ∙ ap (λ (cs : List ℕ). old.due ++ (rest ++ cs)) (sym (append-nil changed)) ∙ ap (λ (ds : List ℕ). ds ++ (rest ++ (changed ++ []))) (sym (ap (λ (h : Here M). h.due) r.after)))
          (differ_changed n (old.due ++ rest) changed x told.0 z change differ);
    }

-- the block that came over
comes_over : (size n : ℕ) (c : Copy) (ended : CopyEnd) (front others : List ℕ) (x y z u : Blocks) → c.ended ≡ ended → ended ≡ Copied → Chain (Flat size) x (gets_of size c) y → Chain (Flat size) z (puts_of size c) u →
    DifferIn n (front ++ c.block ∷ others) x z → DifferIn n (due_after c.ended (front ++ others)) x u
comes_over size n c NotRead front others x y z u is all g p d = absurd cc
comes_over size n c NotWritten front others x y z u is all g p d = absurd cc
comes_over size n c Copied front others x y z u is all g p d =
    let get = subst (λ (e : CopyEnd). Chain (Flat size) x (gets_of size (record c { ended = e })) y) is g in
    let put = subst (λ (e : CopyEnd). Chain (Flat size) z (puts_of size (record c { ended = e })) u) is p in
    let place = place_is size c.block in
    let gives : c.bytes ≡ block_at x c.block = get.1.gives ∙ ap (block_at x) place in
    let new : u ≡ set z c.block (block_at x c.block) = put.2 ∙ put.1.new_is ∙ ap (λ (k : ℕ). set z k c.bytes) place ∙ ap (set z c.block) gives in
    subst (λ (e : CopyEnd). DifferIn n (due_after e (front ++ others)) x u) (sym is)
    (subst (λ (b : Blocks). DifferIn n (front ++ others) x b) (sym new) (differ_copied n c.block front others x z (omega (arith, put.1.there, place, d.to_long)) d))

pub after_copied : (ended : CopyEnd) (ds : List ℕ) → ended ≡ Copied → due_after ended ds ≡ ds
after_copied Copied ds is = refl
after_copied NotRead ds is = absurd cc
after_copied NotWritten ds is = absurd cc

crosses : {M I : Type 0} (state : M → MediumState I) (moves : I → Step → Bool → I → Type 0) (s : Script) (old : Here M) (c : Copy) (new : Here M) (x z : Blocks) → IsItem state moves (serial s) old (Crossed c) new →
    Tell state s.head old.media x → Tell state s.head old.other z → Crossing state s old (Crossed c ∷ []) new x z
crosses {M} state moves s old c new x z r t u =
    let size = s.head.shelf in
    let get = calls_told state moves s.head old.media (gets_of size c) new.media x r.gets t in
    let put = calls_told state moves s.head old.other (puts_of size c) new.other z r.puts u in
    let due : new.due ≡ due_after c.ended (r.front ++ r.others) = ap (λ (h : Here M). h.due) r.after in
    record {
      from = x;
      to = put.0;
      from_tells = copy_here state moves s c old.media new.media x r.gets t;
      to_tells = put.1;
      differ = λ all n rest differ.
          let was : DifferIn n (r.front ++ c.block ∷ (r.others ++ rest)) x z =
          subst (λ (ps : List ℕ). DifferIn n ps x z) (append_assoc r.front (c.block ∷ r.others) rest) (subst (λ (ds : List ℕ). DifferIn n (ds ++ rest) x z) r.due differ) in
          let over = comes_over size n c c.ended r.front (r.others ++ rest) x get.0 z put.0 refl all.0 get.2 put.2 was in
          let first = after_copied c.ended (r.front ++ (r.others ++ rest)) all.0 in
          let now : new.due ≡ r.front ++ r.others = due ∙ after_copied c.ended (r.front ++ r.others) all.0 in
          subst (λ (ps : List ℕ). DifferIn n ps x put.0)
          (first ∙ sym (append_assoc r.front r.others rest) ∙ ap (λ (ds : List ℕ). ds ++ rest) (sym now) ∙ ap (λ (cs : List ℕ). new.due ++ cs) (sym (append-nil rest))) over;
    }

one_item : {M I : Type 0} (state : M → MediumState I) (moves : I → Step → Bool → I → Type 0) (s : Script) (old : Here M) (item : Item) (new : Here M) (x z : Blocks) → IsItem state moves (serial s) old item new →
    Tell state s.head old.media x → Tell state s.head old.other z → Crossing state s old (item ∷ []) new x z
one_item state moves s old (Served p) new x z r t u = serves state moves s old p new x z r t u
one_item state moves s old (Crossed c) new x z r t u = crosses state moves s old c new x z r t u

copied_both : (item : Item) (items : List Item) → AllCopied (copies_of (item ∷ items)) → AllCopied (copies_of (item ∷ [])) × AllCopied (copies_of items)
copied_both (Served p) items all = (tt, all)
copied_both (Crossed c) items all = ((all.0, tt), all.1)

changed_both : (item : Item) (items : List Item) → changed_of (item ∷ []) ++ changed_of items ≡ changed_of (item ∷ items)
changed_both (Served p) items = append_assoc _ [] (changed_of items)
changed_both (Crossed c) items = refl

pub all_items : {M I : Type 0} (state : M → MediumState I) (moves : I → Step → Bool → I → Type 0) (s : Script) (old : Here M) (items : List Item) (new : Here M) (x z : Blocks) → Chain (IsItem state moves (serial s)) old items new →
    Tell state s.head old.media x → Tell state s.head old.other z → Crossing state s old items new x z
all_items {M} state moves s old [] new x z c t u =
    subst (λ (h : Here M). Crossing state s old [] h x z) (sym c)
    (record { from = x; to = z; from_tells = t; to_tells = u; differ = λ all n rest d. subst (λ (ps : List ℕ). DifferIn n (old.due ++ ps) x z) (sym (append-nil rest)) d })
all_items state moves s old (item ∷ items) new x z c t u =
    let one = one_item state moves s old item c.0 x z c.1 t u in
    let rest = all_items state moves s c.0 items new one.from one.to c.2 one.from_tells one.to_tells in
    record {
      from = rest.from;
      to = rest.to;
      from_tells = rest.from_tells;
      to_tells = rest.to_tells;
      differ = λ all n others d.
          let both = copied_both item items all in
          subst (λ (ps : List ℕ). DifferIn n (new.due ++ ps) rest.from rest.to)
          (append_assoc others (changed_of (item ∷ [])) (changed_of items) ∙ ap (λ (cs : List ℕ). others ++ cs) (changed_both item items))
          (rest.differ both.1 n (others ++ changed_of (item ∷ [])) (one.differ both.0 n others d));
    }

-- Marks leave blocks.

marks_stay : (size n : ℕ) (shelves : List ℕ) (x y : Blocks) → Chain (Flat size) x (map (λ (i : ℕ). record { shelf = i; call = marked n }) shelves) y → y ≡ x
marks_stay size n [] x y c = c
marks_stay size n (i ∷ shelves) x y c = marks_stay size n shelves c.0 y c.2 ∙ c.1.new_is

pub marks_tell : {M I : Type 0} (state : M → MediumState I) (moves : I → Step → Bool → I → Type 0) (s : Script) (n : ℕ) (old new : List M) (x : Blocks) → Chain (IsAt state moves) old (marks_at (media_count s) n) new → Tell state s.head old x → Tell state s.head new x
marks_tell state moves s n old new x c t =
    let told = calls_told state moves s.head old (marks_at (media_count s) n) new x c t in
    subst (λ (b : Blocks). Tell state s.head new b) (marks_stay s.head.shelf n (range_with_len 0 (media_count s)) x told.0 told.2) told.1

-- A turn of a migration.

-- where the sides differed in what was owed alone, they differ in what is owed then
pub record Crossed2 {M I : Type 0} (state : M → MediumState I) (s : Script) (x : Snapshot M) (t : TurnDone) (y : Snapshot M) (from to : Blocks) : Type 0 where
  pub new_from : Blocks
  pub new_to : Blocks
  pub from_tells : Tell state s.head y.at new_from
  pub to_tells : Tell state s.head y.other new_to
  pub differ : AllCopied (copies_of t.items) → (lost : Bool) → DifferIn s.head.blocks x.owed.blocks from to → DifferIn s.head.blocks (owed_then s t lost x.owed).blocks new_from new_to

same_length : (count : ℕ) (places : List ℕ) (from to : Blocks) → DifferIn count places from to → DifferIn count (range_with_len 0 count) from to
same_length count places from to d = all_differ count from to d.from_long d.to_long

pub moving_differs : {M I : Type 0} (state : M → MediumState I) (moves : I → Step → Bool → I → Type 0) (s : Script) (x : Snapshot M) (side : _) (n : ℕ) (t : TurnDone) (y : Snapshot M) (from to : Blocks) → x.task ≡ serial s → TakesMoving state moves x side n t y →
    Tell state s.head x.at from → Tell state s.head x.other to → Crossed2 state s x t y from to
moving_differs {M} state moves s x side n t y from to task r a b =
    let h = s.head in
    let here_marked = subst (λ (k : Task). Chain (IsAt state moves) x.at (turn_mark k.script n) r.at) task r.here_marked in
    let there_marked = subst (λ (k : Task). Chain (IsAt state moves) x.other (turn_mark k.script n) r.other) task r.there_marked in
    let turn : IsTurn state moves (serial s) (take h.slice x.owed.blocks) (here (record x { at = r.at; other = r.other })) t (here y) =
    subst (λ (k : Task). IsTurn state moves k (take k.script.head.slice x.owed.blocks) (here (record x { at = r.at; other = r.other })) t (here y)) task r.turn in
    let all = all_items state moves s _ t.items _ from to turn.working (marks_tell state moves s (3 * n) x.at r.at from here_marked a) (marks_tell state moves s (3 * n) x.other r.other to there_marked b) in
    record {
      new_from = all.from;
      new_to = all.to;
      from_tells = all.from_tells;
      to_tells = all.to_tells;
      differ = λ copied lost d.
          let owed = take-append-drop h.slice x.owed.blocks in
          let now = all.differ copied h.blocks (drop h.slice x.owed.blocks) (subst (λ (ps : List ℕ). DifferIn h.blocks ps from to) (sym owed) d) in
          then lost (subst (λ (bs : List ℕ). DifferIn h.blocks (either_of h.blocks (drop h.slice x.owed.blocks) bs) all.from all.to) (sym (turn_changes s t)) (differ_either h.blocks (drop h.slice x.owed.blocks) (changed_of t.items) all.from all.to now));
    }
  where
    then : {f g : Blocks} (lost : Bool) → DifferIn s.head.blocks (either_of s.head.blocks (drop s.head.slice x.owed.blocks) (blocks_of (written_in s t))) f g → DifferIn s.head.blocks (owed_then s t lost x.owed).blocks f g
    then true d = same_length s.head.blocks _ _ _ d
    then false d = d

-- The resumption.

-- a chain over two lists of labels is one after another
pub chain_split : {S A : Type 0} (R : S → A → S → Type 0) (front back : List A) (x z : S) → Chain R x (front ++ back) z → (y : S) × Chain R x front y × Chain R y back z
chain_split R [] back x z c = (x, refl, c)
chain_split R (a ∷ front) back x z c =
    let rest = chain_split R front back c.0 z c.2 in
    (rest.0, (c.0, c.1, rest.1), rest.2)

copies_bring : {M I : Type 0} (state : M → MediumState I) (moves : I → Step → Bool → I → Type 0) (s : Script) (copies : List Copy) (n : ℕ) (from to left new : List M) (x z : Blocks) → AllCopied copies →
    Chain (IsAt state moves) from (flat_map (gets_of s.head.shelf) copies) left → Chain (IsAt state moves) to (flat_map (puts_of s.head.shelf) copies) new → Tell state s.head from x → Tell state s.head to z →
    DifferIn n (map (λ (c : Copy). c.block) copies) x z → Tell state s.head left x × Tell state s.head new x
copies_bring {M} state moves s [] n from to left new x z all g p t u d = (
  subst (λ (ms : List M). Tell state s.head ms x) (sym g) t,
  subst (λ (ms : List M). Tell state s.head ms x) (sym p) (subst (λ (b : Blocks). Tell state s.head to b) (none_differs n x z d) u),
)
copies_bring {M} state moves s (c ∷ copies) n from to left new x z all g p t u d =
    let size = s.head.shelf in
    let gets = chain_split (IsAt state moves) (gets_of size c) (flat_map (gets_of size) copies) from left g in
    let puts = chain_split (IsAt state moves) (puts_of size c) (flat_map (puts_of size) copies) to new p in
    let get = calls_told state moves s.head from (gets_of size c) gets.0 x gets.1 t in
    let put = calls_told state moves s.head to (puts_of size c) puts.0 z puts.1 u in
    let others = map (λ (k : Copy). k.block) copies in
    let over = comes_over size n c c.ended [] others x get.0 z put.0 refl all.0 get.2 put.2 d in
    copies_bring state moves s copies n gets.0 puts.0 left new x put.0 all.1 gets.2 puts.2 (copy_here state moves s c from gets.0 x gets.1 t) put.1
    (subst (λ (ds : List ℕ). DifferIn n ds x put.0) (after_copied c.ended others all.0) over)

-- calls between marks, all of which tell
pub between : {M I : Type 0} (state : M → MediumState I) (moves : I → Step → Bool → I → Type 0) (s : Script) (m n : ℕ) (calls : List At) (old new : List M) (x : Blocks) → Chain (IsAt state moves) old (marks_at (media_count s) m ++ (calls ++ marks_at (media_count s) n)) new →
    Tell state s.head old x → (a : List M) × (b : List M) × Tell state s.head a x × Chain (IsAt state moves) a calls b × ((y : Blocks) → Tell state s.head b y → Tell state s.head new y)
between state moves s m n calls old new x c t =
    let first = chain_split (IsAt state moves) (marks_at (media_count s) m) (calls ++ marks_at (media_count s) n) old new c in
    let last = chain_split (IsAt state moves) calls (marks_at (media_count s) n) first.0 new first.2 in
    (first.0, last.0, marks_tell state moves s m old first.0 x first.1 t, last.1, λ y u. marks_tell state moves s n last.0 new y last.2 u)

-- where the sides differ in what is copied alone, both tell the same then
pub resume_same : {M I : Type 0} (state : M → MediumState I) (moves : I → Step → Bool → I → Type 0) (s : Script) (n count : ℕ) (blocks : List ℕ) (copies : List Copy) (from to left new : List M) (x z : Blocks) → CopiesAll blocks copies →
    Chain (IsAt state moves) from (suspend_mark s n ++ (flat_map (gets_of s.head.shelf) copies ++ resume_mark s n)) left → Chain (IsAt state moves) to (suspend_mark s n ++ (flat_map (puts_of s.head.shelf) copies ++ resume_mark s n)) new →
    Tell state s.head from x → Tell state s.head to z → DifferIn count blocks x z → Tell state s.head left x × Tell state s.head new x
resume_same state moves s n count blocks copies from to left new x z all g p t u d =
    let gets = between state moves s (3 * n + 1) (3 * n + 2) (flat_map (gets_of s.head.shelf) copies) from left x g t in
    let puts = between state moves s (3 * n + 1) (3 * n + 2) (flat_map (puts_of s.head.shelf) copies) to new z p u in
    let both = copies_bring state moves s copies count gets.0 puts.0 gets.1 puts.1 x z all.copied gets.3 puts.3 gets.2 puts.2 (subst (λ (bs : List ℕ). DifferIn count bs x z) (sym all.each) d) in
    (gets.4 x both.0, puts.4 x both.1)
