use Rattle.std.proofs.Common.{◌∙◌}
use Rattle.guest_ram.proofs.Copied.{page-read}
use Rattle.guest_ram.proofs.ram.Ram.page.Goals as goal

pub returns : goal.returns
returns c =
    c.page.ensures.value
    ∙ page-read c.args.self.now c.args.page c.place_of-place.result.window c.place_of-place.result.page c.index-windows-place.result
    (rw c.as_slice-windows.ensures.value at c.place_of-place.ensures) (rw c.as_slice-windows.ensures.value at c.index-windows-place.is)
