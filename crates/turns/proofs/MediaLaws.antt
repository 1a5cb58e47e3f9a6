use Rattle.std.proofs.Common.{◌≡◌, ℕ, ◌+◌, ◌*◌, ◌≤◌, ◌%◌, ◌/◌, Bool, true, false, cond, List, [], ◌∷◌, ◌++◌, length, map, get_or, refl, sym, ap, subst, ◌∙◌, arith}
use Rattle.std.specs.List.{flat_map, range_with_len}
use Rattle.std.proofs.lemmas.List.{length-set}
use Rattle.std.proofs.lemmas.List.Elements.{All-set}
use Rattle.mig_base.specs.Count.{NeverFall, RiseBy}
use Rattle.mig_base.proofs.CountLemmas.{never_both, never_more, never_stay, rise_left, rise_more, rise_none, rise_right}
use Rattle.nvm_model.specs.declared.script.Script.{Script}
use Rattle.nvm_model.specs.declared.trace.Step.{Step}
use Rattle.nvm_model.specs.declared.line.Line.TheVariants as line
use Rattle.nvm_model.specs.Chain.{Chain}
use Rattle.nvm_model.specs.History.{faults_shown, is_faulted}
use Rattle.nvm_model.specs.Medium.{At, HasSize, HaveSize, IsAt, MediumState, all_at, failures_in, faults_in, marked, marks_at}
use Rattle.nvm_model.specs.declared.trace.Call.{Call}
use Rattle.nvm_model.proofs.ChainLemmas.{chain_keeps, chain_more, chain_one}
use Rattle.nvm_model.proofs.MediaLemmas.{call_size, counts_rise, failures_of}
use Rattle.nvm_model.specs.Run.{AllCopied, CopiesUpTo, Copy, CopyEnd, Here, IsItem, IsStage, IsTurn, Item, PieceCalled, Snapshot, Stage, TakesMoving, Task, TurnDone, by_side, calls_at, copies_of, copy_calls, due_after, gets_of, here, here_of, lines_in, lines_of, media_at, media_count, opposite, part_of, piece_line, pieces_of, puts_of, restart_line, resume_mark, suspend_mark, there_of, turn_calls, turn_lines, turn_mark}
use Rattle.nvm_model.specs.Run.Item.{Served, Crossed}
use Rattle.nvm_model.specs.Run.CopyEnd.{Copied, NotRead, NotWritten}
use Rattle.nvm_model.specs.declared.run.RunPhase.{RunPhase}
use Rattle.nvm_model.specs.declared.run.RunPhase.TheVariants.{New, Running, Moving, Suspended, Stopped, Over}
use Rattle.nvm_model.specs.declared.run.Side.{Side}
use Rattle.nvm_model.specs.declared.run.Side.TheVariants.{Source, Destination}
use Rattle.nvm_model.specs.Run.Stage.{Title, Turn, Begin, Round, Broken, Suspend, Resume, Stop, GiveUp, End}
use Rattle.nvm_model.specs.Told.{faults_of}
use Rattle.turns.proofs.CalmLaws.{faults_more, plans_calm, posts_calm}
use Rattle.turns.proofs.RunLaws.{stage_task}

-- What a run does to the media of each side: they get the calls of its stages there, in order, and no others.

-- a chain of steps, each of which is a chain elsewhere
pub chain_flat : {S A T B : Type 0} (R : S → A → S → Type 0) (Q : T → B → T → Type 0) (f : S → T) (g : A → List B) → ((x : S) (a : A) (y : S) → R x a y → Chain Q (f x) (g a) (f y)) →
    (x : S) (labels : List A) (y : S) → Chain R x labels y → Chain Q (f x) (flat_map g labels) (f y)
chain_flat R Q f g step x [] y c = ap f c
chain_flat R Q f g step x (a ∷ labels) y c = chain_more Q (f x) (g a) (f c.0) (flat_map g labels) (f y) (step x a c.0 c.1) (chain_flat R Q f g step c.0 labels y c.2)

-- The calls.

-- the calls of one side and of the other, between marks that both get
by_chain : {M I : Type 0} (state : M → MediumState I) (moves : I → Step → Bool → I → Type 0) (who side : Side) (before after : List At) (a b : List M) (xs ys : List At) (c d : List M) →
    Chain (IsAt state moves) a (before ++ (xs ++ after)) c → Chain (IsAt state moves) b (before ++ (ys ++ after)) d →
    Chain (IsAt state moves) (by_side who side a b) (before ++ (by_side who side xs ys ++ after)) (by_side who side c d)
by_chain state moves Source Source before after a b xs ys c d p q = p
by_chain state moves Source Destination before after a b xs ys c d p q = q
by_chain state moves Destination Source before after a b xs ys c d p q = q
by_chain state moves Destination Destination before after a b xs ys c d p q = p

-- with none after them
by_front : {M I : Type 0} (state : M → MediumState I) (moves : I → Step → Bool → I → Type 0) (who side : Side) (before : List At) (a b : List M) (xs ys : List At) (c d : List M) →
    Chain (IsAt state moves) a (before ++ xs) c → Chain (IsAt state moves) b (before ++ ys) d → Chain (IsAt state moves) (by_side who side a b) (before ++ by_side who side xs ys) (by_side who side c d)
by_front state moves Source Source before a b xs ys c d p q = p
by_front state moves Source Destination before a b xs ys c d p q = q
by_front state moves Destination Source before a b xs ys c d p q = q
by_front state moves Destination Destination before a b xs ys c d p q = p

by_marks : {M I : Type 0} (state : M → MediumState I) (moves : I → Step → Bool → I → Type 0) (who side : Side) (marks : List At) (a b c d : List M) → Chain (IsAt state moves) a marks c → Chain (IsAt state moves) b marks d →
    Chain (IsAt state moves) (by_side who side a b) marks (by_side who side c d)
by_marks state moves Source Source marks a b c d p q = p
by_marks state moves Source Destination marks a b c d p q = q
by_marks state moves Destination Source marks a b c d p q = q
by_marks state moves Destination Destination marks a b c d p q = p

pub by_opposite : {X : Type 0} (who side : Side) (a b : X) → by_side who (opposite side) a b ≡ by_side who side b a
by_opposite Source Source a b = refl
by_opposite Source Destination a b = refl
by_opposite Destination Source a b = refl
by_opposite Destination Destination a b = refl

-- the media of a side by what a stage left
side_after : {M I : Type 0} (state : M → MediumState I) (moves : I → Step → Bool → I → Type 0) (who : Side) (old : List M) (calls : List At) (y z : Snapshot M) → y ≡ z → Chain (IsAt state moves) old calls (media_at who z) → Chain (IsAt state moves) old calls (media_at who y)
side_after {M} state moves who old calls y z is c = subst (λ (t : Snapshot M). Chain (IsAt state moves) old calls (media_at who t)) (sym is) c

-- an item's calls at both sides
item_here : {M I : Type 0} (state : M → MediumState I) (moves : I → Step → Bool → I → Type 0) (task : Task) (x : Here M) (item : Item) (y : Here M) → IsItem state moves task x item y → Chain (IsAt state moves) x.media (here_of task.script.head.shelf item) y.media
item_here state moves task x (Served p) y is = is.called
item_here state moves task x (Crossed c) y is = is.gets

item_there : {M I : Type 0} (state : M → MediumState I) (moves : I → Step → Bool → I → Type 0) (task : Task) (x : Here M) (item : Item) (y : Here M) → IsItem state moves task x item y → Chain (IsAt state moves) x.other (there_of task.script.head.shelf item) y.other
item_there {M} state moves task x (Served p) y is = ap (λ (h : Here M). h.other) is.after
item_there state moves task x (Crossed c) y is = is.puts

-- a turn's
pub turn_media : {M I : Type 0} (state : M → MediumState I) (moves : I → Step → Bool → I → Type 0) (task : Task) (due : List ℕ) (old : Here M) (t : TurnDone) (new : Here M) → IsTurn state moves task due old t new →
    Chain (IsAt state moves) old.media (turn_calls task.script t) new.media × Chain (IsAt state moves) old.other (copy_calls task.script t) new.other
turn_media {M} state moves task due old t new r = (
  chain_flat (IsItem state moves task) (IsAt state moves) (λ (h : Here M). h.media) (here_of task.script.head.shelf) (item_here state moves task) (record old { lanes = r.planned; due = due }) t.items (record new { lanes = r.worked; due = [] }) r.working,
  chain_flat (IsItem state moves task) (IsAt state moves) (λ (h : Here M). h.other) (there_of task.script.head.shelf) (item_there state moves task) (record old { lanes = r.planned; due = due }) t.items (record new { lanes = r.worked; due = [] }) r.working,
)

-- those of a migration's, behind its marks
moving_media : {M I : Type 0} (state : M → MediumState I) (moves : I → Step → Bool → I → Type 0) (who : Side) (x : Snapshot M) (side : Side) (n : ℕ) (t : TurnDone) (y : Snapshot M) → TakesMoving state moves x side n t y →
    Chain (IsAt state moves) (media_at who x) (turn_mark x.task.script n ++ by_side who side (turn_calls x.task.script t) (copy_calls x.task.script t)) (by_side who x.side y.at y.other)
moving_media {M} state moves who x side n t y r =
    let s = x.task.script in
    let turn = turn_media state moves x.task _ (here (record x { at = r.at; other = r.other })) t (here y) r.turn in
    subst (λ (k : Side). Chain (IsAt state moves) (media_at who x) (turn_mark s n ++ by_side who k (turn_calls s t) (copy_calls s t)) (by_side who x.side y.at y.other)) (sym r.stands)
    (by_front state moves who x.side (turn_mark s n) x.at x.other (turn_calls s t) (copy_calls s t) y.at y.other
    (chain_more (IsAt state moves) x.at (turn_mark s n) r.at (turn_calls s t) y.at r.here_marked turn.0)
    (chain_more (IsAt state moves) x.other (turn_mark s n) r.other (copy_calls s t) y.other r.there_marked turn.1))

-- a stage's calls
pub stage_media : {M I : Type 0} (state : M → MediumState I) (moves : I → Step → Bool → I → Type 0) (who : Side) (x : Snapshot M) (stage : Stage) (y : Snapshot M) → IsStage state moves x stage y →
    Chain (IsAt state moves) (media_at who x) (calls_at x.task.script who stage) (media_at who y)
stage_media state moves who x Title y r = side_after state moves who (media_at who x) [] y _ r.after refl
stage_media state moves who x Begin y r = side_after state moves who (media_at who x) [] y _ r.after refl
stage_media state moves who x Suspend y r = side_after state moves who (media_at who x) [] y _ r.after refl
stage_media state moves who x End y r = side_after state moves who (media_at who x) [] y _ r.after refl
stage_media {M} state moves who x (Turn side t) y r =
    let s = x.task.script in
    let turn = turn_media state moves x.task [] (here x) t (here y) r.turn in
    let same : y.other ≡ x.other = ap (λ (z : Snapshot M). z.other) r.after in
    let both = by_front state moves who x.side [] x.at x.other (turn_calls s t) (copy_calls s t) y.at x.other turn.0 (subst (λ (media : List M). Chain (IsAt state moves) x.other (copy_calls s t) media) same turn.1) in
    subst (λ (k : Side). Chain (IsAt state moves) (media_at who x) (by_side who k (turn_calls s t) (copy_calls s t)) (media_at who y)) (sym r.stands)
    (side_after state moves who (media_at who x) (by_side who x.side (turn_calls s t) (copy_calls s t)) y _ r.after both)
stage_media state moves who x (Round side n t lost blocks pages) y r =
    side_after state moves who (media_at who x) (calls_at x.task.script who (Round side n t lost blocks pages)) y _ r.after (moving_media state moves who x side n t y r.moving)
stage_media state moves who x (Broken side n t) y r =
    side_after state moves who (media_at who x) (calls_at x.task.script who (Broken side n t)) y _ r.after (moving_media state moves who x side n t y r.moving)
stage_media {M} state moves who x (Resume side n copies pages) y r =
    let s = x.task.script in
    let gets = flat_map (gets_of s.head.shelf) copies in
    let puts = flat_map (puts_of s.head.shelf) copies in
    let all : Side → List At = λ k. suspend_mark s n ++ (by_side who k gets puts ++ resume_mark s n) in
    let both = by_chain state moves who x.side (suspend_mark s n) (resume_mark s n) x.at x.other gets puts y.other y.at r.gets r.puts in
    subst (λ (k : Side). Chain (IsAt state moves) (media_at who x) (all k) (media_at who y)) (sym r.stood)
    (side_after state moves who (media_at who x) (all x.side) y _ r.after
    (subst (λ (media : List M). Chain (IsAt state moves) (media_at who x) (all x.side) media) (sym (by_opposite who x.side y.at y.other)) both))
stage_media {M} state moves who x (Stop side n copies) y r =
    let s = x.task.script in
    let gets = flat_map (gets_of s.head.shelf) copies in
    let puts = flat_map (puts_of s.head.shelf) copies in
    let both = by_front state moves who x.side (suspend_mark s n) x.at x.other gets puts y.at y.other r.gets r.puts in
    subst (λ (k : Side). Chain (IsAt state moves) (media_at who x) (suspend_mark s n ++ by_side who k gets puts) (media_at who y)) (sym r.stood)
    (side_after state moves who (media_at who x) (suspend_mark s n ++ by_side who x.side gets puts) y _ r.after both)
stage_media state moves who x (GiveUp n) y r =
    side_after state moves who (media_at who x) (resume_mark x.task.script n) y _ r.after (by_marks state moves who x.side (resume_mark x.task.script n) x.at x.other y.at y.other r.here_marked r.there_marked)

-- a run's calls; a side that got none is as it was
pub run_media : {M I : Type 0} (state : M → MediumState I) (moves : I → Step → Bool → I → Type 0) (who : Side) (s : Script) (old : Snapshot M) (stages : List Stage) (new : Snapshot M) → old.task.script ≡ s → Chain (IsStage state moves) old stages new →
    Chain (IsAt state moves) (media_at who old) (flat_map (calls_at s who) stages) (media_at who new)
run_media {M} state moves who s old [] new is c = ap (λ (t : Snapshot M). media_at who t) c
run_media {M} state moves who s old (stage ∷ stages) new is c =
    let first : Chain (IsAt state moves) (media_at who old) (calls_at s who stage) (media_at who c.0) =
    subst (λ (k : Script). Chain (IsAt state moves) (media_at who old) (calls_at k who stage) (media_at who c.0)) is (stage_media state moves who old stage c.0 c.1) in
    chain_more (IsAt state moves) (media_at who old) (calls_at s who stage) (media_at who c.0) (flat_map (calls_at s who) stages) (media_at who new) first
    (run_media state moves who s c.0 stages new (ap (λ (t : Task). t.script) (stage_task state moves old stage c.0 c.1) ∙ is) c.2)

-- Sizes.

-- media of so many blocks each, as many as before
abbrev Keep : {M I : Type 0} → (M → MediumState I) → ℕ → ℕ → List M → Type 0
Keep {M} state size count media = HaveSize state size media × (length media ≡ count)

keep_at : {M I : Type 0} (state : M → MediumState I) (moves : I → Step → Bool → I → Type 0) (size count : ℕ) (d : M) (old : List M) (a : At) (new : List M) → IsAt state moves old a new → Keep state size count old → Keep state size count new
keep_at {M} state moves size count d old a new r h = (
  subst (HaveSize state size) (sym (r.others d)) (All-set (λ (m : M). HasSize size (state m)) old a.shelf (get_or new a.shelf d) (call_size size (r.call d) (h.0 a.shelf d r.there)) h.0),
  ap length (r.others d) ∙ length-set old a.shelf (get_or new a.shelf d) ∙ h.1,
)

keep_one : {M I : Type 0} (state : M → MediumState I) (moves : I → Step → Bool → I → Type 0) (size count : ℕ) (old : List M) (a : At) (new : List M) → IsAt state moves old a new → Keep state size count old → Keep state size count new
keep_one state moves size count [] a new r h = absurd (omega (arith, r.there))
keep_one state moves size count (m ∷ old) a new r h = keep_at state moves size count m (m ∷ old) a new r h

pub sizes_stay : {M I : Type 0} (state : M → MediumState I) (moves : I → Step → Bool → I → Type 0) (size : ℕ) (old : List M) (calls : List At) (new : List M) → Chain (IsAt state moves) old calls new → HaveSize state size old →
    HaveSize state size new × (length new ≡ length old)
sizes_stay state moves size old calls new c h = chain_keeps (IsAt state moves) (Keep state size (length old)) (keep_one state moves size (length old)) old calls new c (h, refl)

-- Counts of failed calls.

-- how many of these failed
abbrev pub failed_in : List At → ℕ
failed_in [] = 0
failed_in (a ∷ calls) = cond a.call.failed 1 0 + failed_in calls

failed_more : (xs ys : List At) → failed_in (xs ++ ys) ≡ failed_in xs + failed_in ys
failed_more [] ys = omega arith
failed_more (x ∷ xs) ys = omega (arith, failed_more xs ys)

pub calls_rise : {M I : Type 0} (state : M → MediumState I) (moves : I → Step → Bool → I → Type 0) (old : List M) (calls : List At) (new : List M) → Chain (IsAt state moves) old calls new →
    NeverFall (faults_in state old) (faults_in state new) × RiseBy (failed_in calls) (faults_in state old) (faults_in state new)
calls_rise {M} state moves old [] new c =
    let same : NeverFall (faults_in state old) (faults_in state new) = subst (λ (l : List M). NeverFall (faults_in state old) (faults_in state l)) (sym c) (never_stay (faults_in state old)) in
    (same, rise_none (faults_in state old) (faults_in state new) same)
calls_rise {M} state moves old (a ∷ calls) new c =
    let one = counts_rise state moves old a.shelf (a.call ∷ []) c.0 (chain_one (IsAt state moves) old a c.0 c.1) in
    let rest = calls_rise state moves c.0 calls new c.2 in
    let all = rise_more (cond a.call.failed 1 0 + 0) (failed_in calls) (faults_in state old) (faults_in state c.0) (faults_in state new) one.1 rest.0 rest.1 in
    (never_more (faults_in state old) (faults_in state c.0) (faults_in state new) one.0 rest.0, λ below. omega (arith, all below))

-- The lines show a fault for each call that failed, but for one that `give up` is still to show.

all_failed : (i : ℕ) (calls : List Call) → failed_in (all_at i calls) ≡ failures_in calls
all_failed i [] = refl
all_failed i (c ∷ calls) = omega (arith, all_failed i calls)

piece_shown : (p : PieceCalled) → faults_shown (piece_line p ∷ []) ≡ cond (is_faulted p.outcome) 1 0
piece_shown p = omega arith

-- the calls of a copy: none failed, or one did
abbrev pub the_copy : ℕ → List ℕ → CopyEnd → Copy
the_copy b bytes ended = record { block = b; bytes = bytes; ended = ended }

-- how many of these copies failed
abbrev pub failed_end : CopyEnd → ℕ
failed_end Copied = 0
failed_end NotRead = 1
failed_end NotWritten = 1

abbrev pub failed_copies : List Copy → ℕ
failed_copies [] = 0
failed_copies (c ∷ copies) = failed_end c.ended + failed_copies copies

copy_failed : (shelf b : ℕ) (bytes : List ℕ) (ended : CopyEnd) → failed_in (gets_of shelf (the_copy b bytes ended)) + failed_in (puts_of shelf (the_copy b bytes ended)) ≡ failed_end ended
copy_failed shelf b bytes Copied = refl
copy_failed shelf b bytes NotRead = refl
copy_failed shelf b bytes NotWritten = refl

copies_failed : (shelf : ℕ) (copies : List Copy) → failed_in (flat_map (gets_of shelf) copies) + failed_in (flat_map (puts_of shelf) copies) ≡ failed_copies copies
copies_failed shelf [] = refl
copies_failed shelf (c ∷ copies) =
    omega (arith, copy_failed shelf c.block c.bytes c.ended, copies_failed shelf copies, failed_more (gets_of shelf c) (flat_map (gets_of shelf) copies), failed_more (puts_of shelf c) (flat_map (puts_of shelf) copies))

none_failed : (ended : CopyEnd) → ended ≡ Copied → failed_end ended ≡ 0
none_failed Copied is = refl
none_failed NotRead is = absurd cc
none_failed NotWritten is = absurd cc

some_failed : (ended : CopyEnd) → (ended ≡ Copied → ⊥) → failed_end ended ≡ 1
some_failed Copied not = absurd (not refl)
some_failed NotRead not = refl
some_failed NotWritten not = refl

all_copied : (copies : List Copy) → AllCopied copies → failed_copies copies ≡ 0
all_copied [] all = refl
all_copied (c ∷ copies) all = omega (arith, none_failed c.ended all.0, all_copied copies all.1)

copies_more : (a b : List Copy) → failed_copies (a ++ b) ≡ failed_copies a + failed_copies b
copies_more [] b = omega arith
copies_more (c ∷ a) b = omega (arith, copies_more a b)

one_failed : (blocks : List ℕ) (copies : List Copy) → CopiesUpTo blocks copies → failed_copies copies ≡ 1
one_failed blocks copies h = omega (arith, ap failed_copies h.copies_are, copies_more h.good (h.last ∷ []), all_copied h.good h.copied, some_failed h.last.ended h.failed)

-- Items: after a copy that failed there is no other.

no_due : (front others : List ℕ) (b : ℕ) → front ++ b ∷ others ≡ [] → ⊥
no_due [] others b is = absurd cc
no_due (f ∷ front) others b is = absurd cc

pub after_failed : {M I : Type 0} (state : M → MediumState I) (moves : I → Step → Bool → I → Type 0) (task : Task) (x : Here M) (items : List Item) (y : Here M) → Chain (IsItem state moves task) x items y → x.due ≡ [] → copies_of items ≡ []
after_failed state moves task x [] y c none = refl
after_failed {M} state moves task x (Served p ∷ items) y c none = after_failed state moves task c.0 items y c.2 (ap (λ (h : Here M). h.due) c.1.after ∙ none)
after_failed state moves task x (Crossed k ∷ items) y c none = absurd (no_due c.1.front c.1.others k.block (sym c.1.due ∙ none))

few_more : (ended : CopyEnd) (others : List ℕ) (copies : List Copy) → failed_copies copies ≤ 1 → (due_after ended others ≡ [] → copies ≡ []) → failed_end ended + failed_copies copies ≤ 1
few_more Copied others copies few none = omega (arith, few)
few_more NotRead others copies few none = omega (arith, ap failed_copies (none refl))
few_more NotWritten others copies few none = omega (arith, ap failed_copies (none refl))

few_failed : {M I : Type 0} (state : M → MediumState I) (moves : I → Step → Bool → I → Type 0) (task : Task) (x : Here M) (items : List Item) (y : Here M) → Chain (IsItem state moves task) x items y → failed_copies (copies_of items) ≤ 1
few_failed state moves task x [] y c = omega arith
few_failed state moves task x (Served p ∷ items) y c = few_failed state moves task c.0 items y c.2
few_failed {M} state moves task x (Crossed k ∷ items) y c =
    few_more k.ended (c.1.front ++ c.1.others) (copies_of items) (few_failed state moves task c.0 items y c.2)
    (λ is. after_failed state moves task c.0 items y c.2 (ap (λ (h : Here M). h.due) c.1.after ∙ is))

-- where not all were copied, one failed
copied_all : (copies : List Copy) → failed_copies copies ≡ 0 → AllCopied copies
copied_all [] none = tt
copied_all (c ∷ copies) none = (copied c.ended (omega (arith, none)), copied_all copies (omega (arith, none)))
  where
    copied : (ended : CopyEnd) → failed_end ended ≡ 0 → ended ≡ Copied
    copied Copied is = refl
    copied NotRead is = absurd (omega (arith, is))
    copied NotWritten is = absurd (omega (arith, is))

pub items_failed : {M I : Type 0} (state : M → MediumState I) (moves : I → Step → Bool → I → Type 0) (task : Task) (x : Here M) (items : List Item) (y : Here M) → Chain (IsItem state moves task) x items y →
    faults_shown (map piece_line (pieces_of items)) + failed_copies (copies_of items) ≡ failed_in (flat_map (here_of task.script.head.shelf) items) + failed_in (flat_map (there_of task.script.head.shelf) items)
items_failed state moves task x [] y c = refl
items_failed state moves task x (Served p ∷ items) y c =
    let d = c.1.does in
    let size = task.script.head.shelf in
    let one : failed_in p.calls ≡ cond (is_faulted p.outcome) 1 0 =
    ap failed_in d.calls_are ∙ all_failed (p.first / size) _ ∙ failures_of (part_of p) (p.first % size) _ d.moved p.outcome in
    omega (arith, faults_more (piece_line p ∷ []) (map piece_line (pieces_of items)), piece_shown p, one, failed_more p.calls (flat_map (here_of size) items), items_failed state moves task c.0 items y c.2)
items_failed state moves task x (Crossed k ∷ items) y c =
    let size = task.script.head.shelf in
    omega (arith, copy_failed size k.block k.bytes k.ended, failed_more (gets_of size k) (flat_map (here_of size) items), failed_more (puts_of size k) (flat_map (there_of size) items), items_failed state moves task c.0 items y c.2)

pub turn_failed : {M I : Type 0} (state : M → MediumState I) (moves : I → Step → Bool → I → Type 0) (task : Task) (due : List ℕ) (old : Here M) (t : TurnDone) (new : Here M) → IsTurn state moves task due old t new →
    faults_shown (turn_lines t) + failed_copies (copies_of t.items) ≡ failed_in (turn_calls task.script t) + failed_in (copy_calls task.script t)
turn_failed state moves task due old t new r =
    let pieces = map piece_line (pieces_of t.items) in
    let plan = plans_calm task.script 1 old.lanes t.plan r.planned r.planning in
    let posts = posts_calm task.script 1 r.worked t.posts new.lanes r.posting in
    omega (arith, faults_more t.plan (pieces ++ t.posts), faults_more pieces t.posts, plan.faults, posts.faults, items_failed state moves task (record old { lanes = r.planned; due = due }) t.items (record new { lanes = r.worked; due = [] }) r.working)

-- nor does a mark
marks_failed : (n : ℕ) (shelves : List ℕ) → failed_in (map (λ (i : ℕ). record { shelf = i; call = marked n }) shelves) ≡ 0
marks_failed n [] = refl
marks_failed n (i ∷ shelves) = omega (arith, marks_failed n shelves)

none_marked : (count n : ℕ) → failed_in (marks_at count n) ≡ 0
none_marked count n = marks_failed n (range_with_len 0 count)

both_sides : (side : Side) (xs ys : List At) → failed_in (by_side Source side xs ys) + failed_in (by_side Destination side xs ys) ≡ failed_in xs + failed_in ys
both_sides Source xs ys = refl
both_sides Destination xs ys = omega arith

-- a fault that is still to be shown
abbrev pub owed_fault : RunPhase → ℕ
owed_fault Stopped = 1
owed_fault New = 0
owed_fault Running = 0
owed_fault Moving = 0
owed_fault Suspended = 0
owed_fault Over = 0

restart_calm : (lost : Bool) (blocks pages : ℕ) → faults_shown (restart_line lost ++ line.Round blocks pages ∷ []) ≡ 0
restart_calm true blocks pages = refl
restart_calm false blocks pages = refl

at_phase : {x y : RunPhase} → x ≡ y → owed_fault x ≡ owed_fault y
at_phase is = ap owed_fault is

pub stage_failed : {M I : Type 0} (state : M → MediumState I) (moves : I → Step → Bool → I → Type 0) (x : Snapshot M) (stage : Stage) (y : Snapshot M) → IsStage state moves x stage y →
    faults_shown (lines_of stage) + owed_fault y.phase ≡ failed_in (calls_at x.task.script Source stage) + failed_in (calls_at x.task.script Destination stage) + owed_fault x.phase
stage_failed {M} state moves x Title y r = omega (arith, at_phase r.was, ap (λ (z : Snapshot M). owed_fault z.phase) r.after)
stage_failed {M} state moves x Begin y r = omega (arith, at_phase r.was, ap (λ (z : Snapshot M). owed_fault z.phase) r.after)
stage_failed {M} state moves x Suspend y r = omega (arith, at_phase r.was, ap (λ (z : Snapshot M). owed_fault z.phase) r.after)
stage_failed {M} state moves x End y r = omega (arith, at_phase r.was, ap (λ (z : Snapshot M). owed_fault z.phase) r.after)
stage_failed {M} state moves x (Turn side t) y r =
    let s = x.task.script in
    let none = ap failed_copies (after_failed state moves x.task _ t.items _ r.turn.working refl) in
    omega (arith, turn_failed state moves x.task [] (here x) t (here y) r.turn, none, both_sides side (turn_calls s t) (copy_calls s t), at_phase r.was, ap (λ (z : Snapshot M). owed_fault z.phase) r.after)
stage_failed {M} state moves x (Round side n t lost blocks pages) y r =
    let s = x.task.script in
    let turn = turn_failed state moves x.task _ _ t (here y) r.moving.turn in
    let calls : Side → List At = λ who. by_side who side (turn_calls s t) (copy_calls s t) in
    omega (
      arith,
      turn,
      all_copied (copies_of t.items) r.copied,
      both_sides side (turn_calls s t) (copy_calls s t),
      none_marked (media_count s) (3 * n),
      failed_more (turn_mark s n) (calls Source),
      failed_more (turn_mark s n) (calls Destination),
      faults_more (turn_lines t) (restart_line lost ++ line.Round blocks pages ∷ []),
      restart_calm lost blocks pages,
      at_phase r.moving.was,
      ap (λ (z : Snapshot M). owed_fault z.phase) r.after,
    )
stage_failed {M} state moves x (Broken side n t) y r =
    let s = x.task.script in
    let turn = turn_failed state moves x.task _ _ t (here y) r.moving.turn in
    let calls : Side → List At = λ who. by_side who side (turn_calls s t) (copy_calls s t) in
    let few = few_failed state moves x.task _ t.items _ r.moving.turn.working in
    let some : failed_copies (copies_of t.items) ≡ 0 → ⊥ = λ none. r.failed (copied_all (copies_of t.items) none) in
    omega (
      arith,
      turn,
      few,
      some,
      both_sides side (turn_calls s t) (copy_calls s t),
      none_marked (media_count s) (3 * n),
      failed_more (turn_mark s n) (calls Source),
      failed_more (turn_mark s n) (calls Destination),
      at_phase r.moving.was,
      ap (λ (z : Snapshot M). owed_fault z.phase) r.after,
    )
stage_failed {M} state moves x (Resume side n copies pages) y r =
    let s = x.task.script in
    let gets = flat_map (gets_of s.head.shelf) copies in
    let puts = flat_map (puts_of s.head.shelf) copies in
    let calls : Side → List At = λ who. by_side who side gets puts in
    let all = all_copied copies r.copies_all.copied in
    omega (
      arith,
      copies_failed s.head.shelf copies,
      all,
      both_sides side gets puts,
      none_marked (media_count s) (3 * n + 1),
      none_marked (media_count s) (3 * n + 2),
      failed_more (suspend_mark s n) (calls Source ++ resume_mark s n),
      failed_more (suspend_mark s n) (calls Destination ++ resume_mark s n),
      failed_more (calls Source) (resume_mark s n),
      failed_more (calls Destination) (resume_mark s n),
      at_phase r.was,
      ap (λ (z : Snapshot M). owed_fault z.phase) r.after,
    )
stage_failed {M} state moves x (Stop side n copies) y r =
    let s = x.task.script in
    let gets = flat_map (gets_of s.head.shelf) copies in
    let puts = flat_map (puts_of s.head.shelf) copies in
    let calls : Side → List At = λ who. by_side who side gets puts in
    omega (
      arith,
      copies_failed s.head.shelf copies,
      one_failed x.owed.blocks copies r.copies_stop,
      both_sides side gets puts,
      none_marked (media_count s) (3 * n + 1),
      failed_more (suspend_mark s n) (calls Source),
      failed_more (suspend_mark s n) (calls Destination),
      at_phase r.was,
      ap (λ (z : Snapshot M). owed_fault z.phase) r.after,
    )
stage_failed {M} state moves x (GiveUp n) y r =
    omega (arith, none_marked (media_count x.task.script) (3 * n + 2), at_phase r.was, ap (λ (z : Snapshot M). owed_fault z.phase) r.after)

run_failed : {M I : Type 0} (state : M → MediumState I) (moves : I → Step → Bool → I → Type 0) (s : Script) (old : Snapshot M) (stages : List Stage) (new : Snapshot M) → old.task.script ≡ s → Chain (IsStage state moves) old stages new →
    faults_shown (lines_in stages) + owed_fault new.phase ≡ failed_in (flat_map (calls_at s Source) stages) + failed_in (flat_map (calls_at s Destination) stages) + owed_fault old.phase
run_failed {M} state moves s old [] new is c = omega (arith, ap (λ (z : Snapshot M). owed_fault z.phase) c)
run_failed state moves s old (stage ∷ stages) new is c =
    let one = subst (λ (k : Script). faults_shown (lines_of stage) + owed_fault c.0.phase ≡ failed_in (calls_at k Source stage) + failed_in (calls_at k Destination stage) + owed_fault old.phase) is (stage_failed state moves old stage c.0 c.1) in
    let rest = run_failed state moves s c.0 stages new (ap (λ (t : Task). t.script) (stage_task state moves old stage c.0 c.1) ∙ is) c.2 in
    omega (arith, one, rest, faults_more (lines_of stage) (lines_in stages), failed_more (calls_at s Source stage) (flat_map (calls_at s Source) stages), failed_more (calls_at s Destination stage) (flat_map (calls_at s Destination) stages))

-- counts never fall, and rise by the faults that a run's lines show, and by one that is still to be shown
pub run_rises : {M I : Type 0} (state : M → MediumState I) (moves : I → Step → Bool → I → Type 0) (s : Script) (old : Snapshot M) (stages : List Stage) (new : Snapshot M) → old.task.script ≡ s → old.phase ≡ New → Chain (IsStage state moves) old stages new →
    NeverFall (faults_of state old) (faults_of state new) × RiseBy (faults_shown (lines_in stages) + owed_fault new.phase) (faults_of state old) (faults_of state new)
run_rises state moves s old stages new is start c =
    let from = calls_rise state moves (media_at Source old) (flat_map (calls_at s Source) stages) (media_at Source new) (run_media state moves Source s old stages new is c) in
    let to = calls_rise state moves (media_at Destination old) (flat_map (calls_at s Destination) stages) (media_at Destination new) (run_media state moves Destination s old stages new is c) in
    let f = faults_in state (media_at Source old) in
    let g = faults_in state (media_at Source new) in
    let t = faults_in state (media_at Destination old) in
    let u = faults_in state (media_at Destination new) in
    let m = failed_in (flat_map (calls_at s Source) stages) in
    let n = failed_in (flat_map (calls_at s Destination) stages) in
    let rises = rise_more m n (f ++ t) (g ++ t) (g ++ u) (rise_left m f g t from.1) (never_both g g t u (never_stay g) to.0) (rise_right n t u g to.1) in
    (never_both f g t u from.0 to.0, λ below. omega (arith, rises below, run_failed state moves s old stages new is c, at_phase start))
