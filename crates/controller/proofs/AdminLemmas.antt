-- The state of a controller as an image, and back.
use Rattle.std.proofs.Common.{not, ◌&&◌, ◌==◌, true, false, Option, Some, None, Bool, Result, Ok, Err, ◌≡◌, ◌≤◌, ◌<◌, ◌+◌, ◌-◌, ◌*◌, ℕ, zero, suc, All, List, [], ◌∷◌, ◌++◌, append_assoc, length, map, min, take, drop, replicate, slice_index_or, slice_set, refl, sym, ap, ◌∙◌, subst, arith}
use Rattle.std.proofs.Math.Seq.{set-append_seam}
use Rattle.std.proofs.lemmas.List.{drop-append-le, length-drop, length-map, length-take-le, map-append, take_at, take_more}
use Rattle.std.proofs.lemmas.Bool.{le-leb}
use Rattle.std.proofs.lemmas.List.Elements.{All-push}
use Rattle.std.specs.Bool.{MatchBool}
use Rattle.adm_values.specs.declared.command.What.{What}
use Rattle.adm_values.specs.declared.command.What.TheVariants as what
use Rattle.ctl_state.specs.declared.parts.PartRefusal.{PartRefusal}
use Rattle.ctl_state.specs.declared.image.Image.{Image}
use Rattle.ctl_state.specs.declared.image.PairState.{PairState as PairImage}
use Rattle.ctl_state.specs.Image.{IsImage, IsPair, header, image_bytes, none, pairs_bytes, pairs_of}
use Rattle.ctl_state.specs.Parts.{image_size}
use Rattle.ctl_state.proofs.AdminLemmas.{length-with_images}
use Rattle.ctl_state.proofs.ImageLemmas.{whole_size}
use Rattle.ctl_state.specs.declared.phase.Phase.{Phase}
use Rattle.ctl_state.specs.declared.phase.Phase.TheVariants.{Running, Suspended, Loading}
use Rattle.ctl_state.specs.declared.refusal.Refusal.{Refusal}
use Rattle.ctl_state.specs.declared.refusal.Refusal.TheVariants.{IsSuspended, NotSuspended, BadDataQueue, DataQueueFull, BadSequence, InvalidField, InvalidOpcode}
use Rattle.ctl_state.specs.Admin.{Becomes, Does, Gets, GoesOnWith, IsCreated, IsKept, Logs, Refuses, Resumes, Sets, Suspends, TakesPart, given, image_of, is_queue, state_bytes, with_images, with_rings}
use Rattle.ctl_state.specs.Controller.{ControllerState, PairState}

-- A pair more goes on with the rings of an image.

pub load_step : (images : List PairImage) (pairs : List PairState) (place : ℕ) (d : PairImage) (e : PairState) → place < length images → place < length pairs
    → slice_set (with_images (take place images) pairs) place (with_rings (slice_index_or images place d) (slice_index_or (with_images (take place images) pairs) place e)) ≡ with_images (take (suc place) images) pairs
load_step [] pairs place d e there here = absurd (omega arith)
load_step (image ∷ images) [] place d e there here = absurd (omega arith)
load_step (image ∷ images) (pair ∷ pairs) zero d e there here = refl
load_step (image ∷ images) (pair ∷ pairs) (suc n) d e there here = ap (λ (ps : List PairState). with_rings image pair ∷ ps) (load_step images pairs n d e (omega arith) (omega arith))

-- and what each pair keeps beside its rings
pub room_kept : (images : List PairImage) (pairs : List PairState) (burst : ℕ) → All (λ p. p.room ≡ burst) pairs → All (λ p. p.room ≡ burst) (with_images images pairs)
room_kept [] pairs burst all k d there = all k d there
room_kept (image ∷ images) [] burst all k d there = all k d there
room_kept (image ∷ images) (pair ∷ pairs) burst all zero d there = all 0 pair (omega arith)
room_kept (image ∷ images) (pair ∷ pairs) burst all (suc k) d there = room_kept images pairs burst (λ i e below. all (suc i) e (omega arith)) k d (omega arith)

-- A pair more stands in an image.
pub image_step : (pairs : List PairState) (images : List PairImage) (image : PairImage) (place : ℕ) (d : PairState) → place < length pairs → place < 8
    → images ≡ map image_of (take place pairs) ++ replicate (8 - place) none → image ≡ image_of (slice_index_or pairs place d)
    → slice_set images place image ≡ map image_of (take (place + 1) pairs) ++ replicate (8 - (place + 1)) none
image_step pairs images image place d there few was is =
    let front : List PairImage = map image_of (take place pairs) in
    let rest : List PairImage = replicate (8 - (place + 1)) none in
    let left : 8 - place ≡ suc (8 - (place + 1)) = omega arith in
    let room : images ≡ front ++ none ∷ rest = was ∙ ap (λ n. front ++ replicate n none) left in
    let count : length front ≡ place = length-map (take place pairs) image_of ∙ length-take-le place pairs (omega arith) in
    let more : map image_of (take (place + 1) pairs) ≡ front ++ image ∷ []
    = ap (map image_of) (take_more pairs place d there) ∙ map-append image_of (take place pairs) (slice_index_or pairs place d ∷ []) ∙ ap (λ (i : PairImage). front ++ i ∷ []) (sym is) in
    (λ k. slice_set (room k) (sym count k) image) ∙ set-append_seam front none rest image ∙ sym (append_assoc front (image ∷ []) rest) ∙ ap (λ (all : List PairImage). all ++ rest) (sym more)

-- A part of an image that stands at the front of a buffer.
pub part_given : (offset size n : ℕ) (state rest out bytes new : List ℕ) → out ≡ state ++ rest → length state ≡ size → offset ≤ size
    → n ≡ min (length bytes) (length (take (size - offset) (drop offset out))) → new ≡ take n (take (size - offset) (drop offset out)) ++ drop n bytes
    → (n ≡ min (length bytes) (size - offset)) × (new ≡ take n (drop offset state) ++ drop n bytes)
part_given offset size n state rest out bytes new made long fits count is =
    let start : drop offset out ≡ drop offset state ++ rest = ap (drop offset) made ∙ drop-append-le offset state rest (omega (arith, long, fits)) in
    let left : length (drop offset state) ≡ size - offset = length-drop offset state ∙ ap (λ m. m - offset) long in
    let part : take (size - offset) (drop offset out) ≡ drop offset state = ap (take (size - offset)) start ∙ take_at (drop offset state) rest (size - offset) left in
    (count ∙ ap (λ (x : List ℕ). min (length bytes) (length x)) part ∙ ap (min (length bytes)) left, is ∙ ap (λ (x : List ℕ). take n x ++ drop n bytes) part)

-- What holds of all pairs of an image holds of one pair more.
pub image_sound : (pairs : List PairState) (place : ℕ) (d : PairState) → place < length pairs → All IsPair (map image_of (take place pairs)) → IsPair (image_of (slice_index_or pairs place d)) → All IsPair (map image_of (take (place + 1) pairs))
image_sound pairs place d there all is =
    let more : map image_of (take (place + 1) pairs) ≡ map image_of (take place pairs) ++ image_of (slice_index_or pairs place d) ∷ []
    = ap (map image_of) (take_more pairs place d there) ∙ map-append image_of (take place pairs) (slice_index_or pairs place d ∷ []) in
    subst (λ (xs : List PairImage). All IsPair xs) (sym more) (All-push IsPair (map image_of (take place pairs)) (image_of (slice_index_or pairs place d)) all is)

-- So Get Controller State gives that part of the state's bytes.
pub gets_part : (c : ControllerState) (offset n size : ℕ) (image : Image) (rest out bytes new : List ℕ) → IsImage (length c.pairs) image → pairs_of image ≡ map image_of c.pairs
    → out ≡ image_bytes image ++ rest → size ≡ 8 + 32 * image.used → offset ≤ size
    → n ≡ min (length bytes) (length (take (size - offset) (drop offset out))) → new ≡ take n (take (size - offset) (drop offset out)) ++ drop n bytes
    → Gets Suspended offset c bytes (Ok n) new
gets_part c offset n size image rest out bytes new is rings made long fits count written =
    let used = is.used in
    let state : image_bytes image ≡ state_bytes c = (λ k. header (used k) ++ pairs_bytes 1 (rings k)) in
    let size_is : size ≡ image_size (length c.pairs) = omega (arith, long, used) in
    let whole : length (state_bytes c) ≡ size = ap length (sym state) ∙ whole_size (length c.pairs) (image_bytes image) image (is, refl) ∙ sym size_is in
    let part = part_given offset size n (state_bytes c) rest out bytes new (made ∙ ap (λ (x : List ℕ). x ++ rest) state) whole fits count written in
    let n_is : n ≡ given offset (length bytes) c = part.0 ∙ ap (λ m. min (length bytes) (m - offset)) size_is in
    let answered : Result ℕ Refusal = Ok n in
    let wanted : Result ℕ Refusal = Ok (given offset (length bytes) c) in
    let refused : Result ℕ Refusal = Err InvalidField in
    let same : answered ≡ wanted = λ k. Ok (n_is k) in
    subst (λ (b : Bool). MatchBool b ((answered ≡ wanted) × (new ≡ take (given offset (length bytes) c) (drop offset (state_bytes c)) ++ drop (given offset (length bytes) c) bytes)) ((answered ≡ refused) × (new ≡ bytes)))
    (sym (le-leb offset (image_size (length c.pairs)) (omega (arith, fits, size_is))))
    (same, part.1 ∙ ap (λ m. take m (drop offset (state_bytes c)) ++ drop m bytes) n_is)

-- What every command keeps.

pub between_kept : (images : List PairImage) (pairs : List PairState) → All (λ p. p.commands ≡ []) pairs → All (λ p. p.commands ≡ []) (with_images images pairs)
between_kept [] pairs all k d there = all k d there
between_kept (image ∷ images) [] all k d there = all k d there
between_kept (image ∷ images) (pair ∷ pairs) all zero d there = all 0 pair (omega arith)
between_kept (image ∷ images) (pair ∷ pairs) all (suc k) d there = between_kept images pairs (λ i e below. all (suc i) e (omega arith)) k d (omega arith)

-- the pairs are the same, or others with as many
same_pairs : (old new : ControllerState) → All (λ p. p.commands ≡ []) old.pairs → new.pairs ≡ old.pairs → new.burst ≡ old.burst → IsKept old new
same_pairs old new between pairs burst = record { count = ap length pairs; burst_is = burst; between = subst (λ (ps : List PairState). All (λ p. p.commands ≡ []) ps) (sym pairs) between }

becomes : (old after new : ControllerState) (result : Result ℕ Refusal) → All (λ p. p.commands ≡ []) old.pairs → after.pairs ≡ old.pairs → after.burst ≡ old.burst → Becomes after result new → IsKept old new
becomes old after new result between pairs burst is = same_pairs old new between (ap (λ (c : ControllerState). c.pairs) is.1 ∙ pairs) (ap (λ (c : ControllerState). c.burst) is.1 ∙ burst)

refused : (old new : ControllerState) (refusal : Refusal) (result : Result ℕ Refusal) → All (λ p. p.commands ≡ []) old.pairs → Refuses refusal old result new → IsKept old new
refused old new refusal result between is = same_pairs old new between (ap (λ (c : ControllerState). c.pairs) is.1) (ap (λ (c : ControllerState). c.burst) is.1)

suspended : (phase : Phase) (old new : ControllerState) (result : Result ℕ Refusal) → All (λ p. p.commands ≡ []) old.pairs → Suspends phase old result new → IsKept old new
suspended Running old new result between is = becomes old _ new result between refl refl is
suspended Suspended old new result between is = refused old new IsSuspended result between is
suspended Loading old new result between is = refused old new IsSuspended result between is

went_on : (image : Option Image) (old new : ControllerState) (result : Result ℕ Refusal) → All (λ p. p.commands ≡ []) old.pairs → GoesOnWith old image result new → IsKept old new
went_on None old new result between is = refused old new BadSequence result between is.1
went_on (Some image) old new result between is =
    let pairs : new.pairs ≡ with_images (pairs_of image) old.pairs = ap (λ (c : ControllerState). c.pairs) is.1.1 in
    record {
      count = ap length pairs ∙ length-with_images (pairs_of image) old.pairs;
      burst_is = ap (λ (c : ControllerState). c.burst) is.1.1;
      between = subst (λ (ps : List PairState). All (λ p. p.commands ≡ []) ps) (sym pairs) (between_kept (pairs_of image) old.pairs between);
    }

resumed : (phase : Phase) (old new : ControllerState) (result : Result ℕ Refusal) → All (λ p. p.commands ≡ []) old.pairs → Resumes phase old result new → IsKept old new
resumed Running old new result between is = refused old new NotSuspended result between is
resumed Suspended old new result between is = becomes old _ new result between refl refl is
resumed Loading old new result between is = went_on is.0 old new result between is.1

fed_part : (fed : Result (Unit {0}) PartRefusal) (old new : ControllerState) (result : Result ℕ Refusal) → All (λ p. p.commands ≡ []) old.pairs → TakesPart fed old result new → IsKept old new
fed_part (Ok x) old new result between is = becomes old _ new result between refl refl is
fed_part (Err refusal) old new result between is = same_pairs old new between (ap (λ (c : ControllerState). c.pairs) is.1) (ap (λ (c : ControllerState). c.burst) is.1)

state_set : (phase : Phase) (offset : ℕ) (bytes : List ℕ) (old new : ControllerState) (result : Result ℕ Refusal) → All (λ p. p.commands ≡ []) old.pairs → Sets phase offset bytes old result new → IsKept old new
state_set Running offset bytes old new result between is = refused old new NotSuspended result between is
state_set Suspended offset bytes old new result between is = fed_part is.0 old new result between is.2
state_set Loading offset bytes old new result between is = fed_part is.0 old new result between is.2

either : (b : Bool) (P Q R : Type 0) → (P → R) → (Q → R) → MatchBool b P Q → R
either true P Q R first second is = first is
either false P Q R first second is = second is

logged : (start : Bool) (number : ℕ) (old new : ControllerState) (result : Result ℕ Refusal) → All (λ p. p.commands ≡ []) old.pairs → Logs start number old result new → IsKept old new
logged false number old new result between is = becomes old _ new result between refl refl is
logged true number old new result between is =
    either (is_queue number old) _ _ (IsKept old new)
    (either old.queue.marked _ _ (IsKept old new) (refused old new DataQueueFull result between) (becomes old (record old { logging = true }) new result between refl refl))
    (refused old new BadDataQueue result between) is

pub did : (w : What) (old new : ControllerState) (result : Result ℕ Refusal) (bytes new_bytes : List ℕ) → All (λ p. p.commands ≡ []) old.pairs → Does w old bytes result new new_bytes → IsKept old new
did (what.LogUserData start queue) old new result bytes new_bytes between is = logged start queue old new result between is.0
did (what.TrackMemory start) old new result bytes new_bytes between is = refused old new InvalidOpcode result between is.0
did (what.MemoryChanges max) old new result bytes new_bytes between is = refused old new InvalidOpcode result between is.0
did what.Suspend old new result bytes new_bytes between is = suspended old.phase old new result between is.0
did what.Resume old new result bytes new_bytes between is = resumed old.phase old new result between is.0
did (what.SetState offset size) old new result bytes new_bytes between is = state_set old.phase offset bytes old new result between is.0
did (what.GetState offset size) old new result bytes new_bytes between is = same_pairs old new between (ap (λ (c : ControllerState). c.pairs) is.1) (ap (λ (c : ControllerState). c.burst) is.1)
did (what.CreateQueue cells) old new result bytes new_bytes between is =
    either (not old.queue.live && (cells == length old.queue.cells)) _ _ (IsKept old new)
    (λ (made : (result ≡ Ok 0) × IsCreated old new). same_pairs old new between (ap (λ (c : ControllerState). c.pairs) made.1.others) (ap (λ (c : ControllerState). c.burst) made.1.others))
    (refused old new BadDataQueue result between) is.0
did (what.DeleteQueue queue) old new result bytes new_bytes between is =
    either (is_queue queue old) _ _ (IsKept old new) (becomes old (record old { queue = record old.queue { live = false }; logging = false }) new result between refl refl) (refused old new BadDataQueue result between) is.0
