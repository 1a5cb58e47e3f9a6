use Rattle.std.specs.Prelude.{◌≡◌, ◌≢◌, ℕ, ◌+◌, ◌*◌, ◌<◌, ◌≤◌, ◌==◌, cond, List, [], ◌++◌, Result, Ok, Err, length, take}
use Rattle.ctl_state.specs.declared.image.Image.{Image}
use Rattle.ctl_state.specs.declared.parts.PartRefusal.{PartRefusal}
use Rattle.ctl_state.specs.declared.parts.PartRefusal.TheVariants.{BadSequence, TooLong, BadImage}
use Rattle.ctl_state.specs.Image.{IsImage, image_bytes}

-- What was fed: for how many queue pairs, and the bytes.
pub record PartsState : Type 0 where
  pub lanes : ℕ
  pub bytes : List ℕ

-- how many bytes the image of so many pairs has
abbrev pub image_size : ℕ → ℕ
image_size lanes = 8 + 32 * lanes

-- bytes with which the image of a state of so many pairs begins
pub record Begins (lanes : ℕ) (bytes : List ℕ) : Type 0 where
  pub image : Image
  pub is : IsImage lanes image
  pub front : take (length bytes) (image_bytes image) ≡ bytes

-- the first byte with which no image goes on
pub record IsFirstBad (lanes : ℕ) (bytes : List ℕ) (place : ℕ) : Type 0 where
  pub there : place < length bytes
  pub before : Begins lanes (take place bytes)
  pub no_more : Begins lanes (take (place + 1) bytes) → ⊥

-- a part from byte 0 on begins anew
abbrev pub kept : ℕ → List ℕ → List ℕ
kept offset bytes = cond (offset == 0) [] bytes

-- What a part does: it goes behind the bytes that were fed where it follows on these or begins anew, isn't too long, and an
-- image goes on so. A part that is refused leaves what was fed, but that one which begins anew leaves nothing.
abbrev pub Feeds : ℕ → List ℕ → Result (Unit {0}) PartRefusal → PartsState → PartsState → Type 0
Feeds offset part (Ok _) old new =
    (length (kept offset old.bytes) ≡ offset) × (new ≡ record old { bytes = kept offset old.bytes ++ part }) × Begins old.lanes new.bytes
Feeds offset part (Err BadSequence) old new = (length (kept offset old.bytes) ≢ offset) × (new ≡ old)
Feeds offset part (Err TooLong) old new =
    (length (kept offset old.bytes) ≡ offset) × (image_size old.lanes < offset + length part) × (new ≡ record old { bytes = kept offset old.bytes })
Feeds offset part (Err (BadImage place)) old new =
    (length (kept offset old.bytes) ≡ offset) × (offset + length part ≤ image_size old.lanes) × IsFirstBad old.lanes (kept offset old.bytes ++ part) place
    × (new ≡ record old { bytes = kept offset old.bytes })

-- the bytes of a state of that many pairs
abbrev pub IsWhole : ℕ → List ℕ → Image → Type 0
IsWhole lanes bytes image = IsImage lanes image × (image_bytes image ≡ bytes)

-- A part of a state's image that follows on the parts of it that were fed, or begins anew, is taken.
abbrev pub ImageIsTaken : Type 0
ImageIsTaken = (lanes offset : ℕ) (image : Image) (part : List ℕ) (result : Result (Unit {0}) PartRefusal) (old new : PartsState) → IsImage lanes image → old.lanes ≡ lanes →
    length (kept offset old.bytes) ≡ offset → take (offset + length part) (image_bytes image) ≡ kept offset old.bytes ++ part → Feeds offset part result old new → (result ≡ Ok tt) × (new ≡ record old { bytes = kept offset old.bytes ++ part })
