use Rattle.std.proofs.Common.{◌≡◌, ◌*◌, length, take}
use Rattle.std.specs.List.{flat_map}
use Rattle.std.specs.Int.{w64, to_le_bytes}
use Rattle.nvm_model.specs.Memory.{page_address}
use Rattle.lanes.proofs.act.prp_list.Given as goal

abbrev pub invariant-loop-page : goal.invariant-loop-page
invariant-loop-page l = record {
  entries : l.list.items ≡ flat_map (λ p. to_le_bytes w64 (page_address l.lane p)) (take l.page-index l.pages);
  bytes : length l.list.items ≡ 8 * l.page-index;
}
