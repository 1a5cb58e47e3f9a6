use Rattle.std.proofs.Common.{◌≡◌, ℕ, suc, List, [], ◌∷◌, length, refl, sym, ap, subst}
use Rattle.adm_values.specs.declared.command.AdminCmd.{AdminCmd}
use Rattle.adm_values.specs.Command.{IsCommand, command_bytes}
use Rattle.adm_values.proofs.CommandLemmas.{same_command}
use Rattle.ctl_state.specs.declared.image.PairState.{PairState as PairImage}
use Rattle.ctl_state.specs.Admin.{FitsBuffer, HasLength, with_images}
use Rattle.ctl_state.specs.Controller.{PairState}

-- As many pairs go on with the rings of an image.
pub length-with_images : (images : List PairImage) (pairs : List PairState) → length (with_images images pairs) ≡ length pairs
length-with_images [] pairs = refl
length-with_images (image ∷ images) [] = refl
length-with_images (image ∷ images) (pair ∷ pairs) = ap suc (length-with_images images pairs)

-- A command's own bytes need the buffer that the command names.
pub fits_buffer : (c : AdminCmd) (n : ℕ) → IsCommand c → HasLength c.what n → FitsBuffer (command_bytes c) n
fits_buffer c n is has = λ other other_is bytes. subst (λ (x : AdminCmd). HasLength x.what n) (sym (same_command other c other_is is bytes)) has
