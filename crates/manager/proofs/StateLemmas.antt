use Rattle.std.proofs.Common.{◌≡◌, ◌≢◌, ℕ, zero, suc, ◌+◌, ◌<◌, List, [], ◌∷◌, ◌++◌, Option, Some, None, length, map, take, refl, sym, ap, ◌∙◌, arith}
use Rattle.ctl_state.specs.declared.image.Image.{Image}
use Rattle.ctl_state.specs.declared.image.PairState.{PairState as PairImage}
use Rattle.ctl_state.specs.Image.{header, image_bytes, pairs_bytes, pairs_of}
use Rattle.ctl_state.specs.Parts.{IsWhole, PartsState, kept}
use Rattle.ctl_state.proofs.ImageLemmas.{image_taken, whole_same, whole_size}
use Rattle.ctl_state.specs.declared.phase.Phase.{Phase}
use Rattle.ctl_state.specs.declared.phase.Phase.TheVariants.{Running, Suspended, Loading}
use Rattle.ctl_state.specs.Admin.{AdminResult, FeedsPart, GoesOnWith, Sets, image_of, state_bytes, with_images, with_rings}
use Rattle.ctl_state.specs.Controller.{ControllerState, PairState}
use Rattle.manager.specs.Move.{HasImage, gone_on_with}
use Rattle.manager.specs.Parts.{size_of}
use Rattle.std.specs.Prelude.{slice_index_or}

-- A controller's state as the parts of an image.

pub state_is : (c : ControllerState) (i : HasImage c) → image_bytes i.image ≡ state_bytes c
state_is c i = λ k. header (i.is.used k) ++ pairs_bytes 1 (i.rings k)

pub state_size : (c : ControllerState) → HasImage c → length (state_bytes c) ≡ size_of c
state_size c i = ap length (sym (state_is c i)) ∙ whole_size (length c.pairs) (image_bytes i.image) i.image (i.is, refl)

-- The next part of a state is taken.
module _ (source old new : ControllerState) (i : HasImage source) (offset : ℕ) (part : List ℕ) (result : AdminResult) (lanes : old.fed.lanes ≡ length source.pairs) (follows : length (kept offset old.fed.bytes) ≡ offset)
    (front : kept offset old.fed.bytes ++ part ≡ take (offset + length part) (state_bytes source)) where
  abbrev taken : ControllerState
  taken = record old { phase = Loading; fed = record old.fed { bytes = take (offset + length part) (state_bytes source) } }

  was_fed : FeedsPart offset part old result new → new ≡ taken
  was_fed feeds =
      let is = image_taken (length source.pairs) offset i.image part feeds.0 old.fed new.fed i.is lanes follows (ap (take (offset + length part)) (state_is source i) ∙ sym front) feeds.1 in
      (rw is.0 at feeds.2).1 ∙ ap (λ (fed : PartsState). record old { phase = Loading; fed = fed }) (rw front at is.1)

  pub part_taken : (phase : Phase) → phase ≢ Running → Sets phase offset part old result new → new ≡ taken
  part_taken Running not sets = absurd (not refl)
  part_taken Suspended not sets = was_fed sets
  part_taken Loading not sets = was_fed sets

-- A whole state is.
pub gone_on : (source old new : ControllerState) (i : HasImage source) (result : AdminResult) (image : Option Image) → IsWhole old.fed.lanes old.fed.bytes i.image → GoesOnWith old image result new → new ≡ gone_on_with (map image_of source.pairs) old
gone_on source old new i result None whole goes = absurd (goes.0 i.image whole)
gone_on source old new i result (Some image) whole goes =
    let same : image ≡ i.image = sym (whole_same old.fed.lanes old.fed.bytes image goes.0) ∙ whole_same old.fed.lanes old.fed.bytes i.image whole in
    goes.1.1 ∙ ap (λ (rings : List PairImage). gone_on_with rings old) (ap pairs_of same ∙ i.rings)

pub rings_taken : (images : List PairImage) (pairs : List PairState) → length images ≡ length pairs → map image_of (with_images images pairs) ≡ images
rings_taken [] [] long = refl
rings_taken (image ∷ images) (pair ∷ pairs) long = ap (λ (is : List PairImage). image ∷ is) (rings_taken images pairs (omega (arith, long)))
rings_taken _ _ long = absurd (omega (arith, long))

-- a pair that took an image
pub rings_at : (images : List PairImage) (pairs : List PairState) (i : ℕ) (e : PairImage) (d : PairState) → i < length images → i < length pairs →
    slice_index_or (with_images images pairs) i d ≡ with_rings (slice_index_or images i e) (slice_index_or pairs i d)
rings_at (image ∷ images) (pair ∷ pairs) zero e d there here = refl
rings_at (image ∷ images) (pair ∷ pairs) (suc i) e d there here = rings_at images pairs i e d (omega (arith, there)) (omega (arith, here))
rings_at _ _ i e d there here = absurd (omega (arith, there, here))
