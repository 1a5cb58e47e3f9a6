use Rattle.std.proofs.Common.{subst, take}
use Rattle.ctl_state.specs.Parts.{IsWhole, PartsState}
use Rattle.nvmigrate_c.proofs.PairLemmas.{rings_are}
use Rattle.nvmigrate_c.proofs.parts.nvmigrate_parts_whole.Goals as goal

pub returns-clause-sound : goal.returns-clause-sound
returns-clause-sound c = λ _.
    let parts = c.args.parts.now in
    let whole = subst (λ (s : PartsState). IsWhole s.lanes s.bytes c.in-Some-whole.image) c.in-Some.ensures.1 c.in-Some-whole.ensures.found in
    rings_are parts.lanes (take parts.fed parts.bytes) c.put_pairs.new.out c.in-Some-whole.image whole c.put_pairs.ensures.value c.put_pairs.ensures.flags
