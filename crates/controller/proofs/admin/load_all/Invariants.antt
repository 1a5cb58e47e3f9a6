use Rattle.std.proofs.Common.{◌≡◌, All, [], length, take}
use Rattle.ctl_state.specs.Image.{pairs_of}
use Rattle.ctl_state.specs.Admin.{with_images}
use Rattle.controller.proofs.admin.load_all.Given as goal

abbrev pub invariant-pairs : goal.invariant-pairs
invariant-pairs l = record {
  loaded : l.pairs.items ≡ with_images (take l.place (pairs_of l.image)) l.fn.pairs.items;
  count : length l.pairs.items ≡ length l.fn.pairs.items;
  between : All (λ p. p.commands ≡ []) l.pairs.items;
}
