use Rattle.std.proofs.Common.{◌≡◌, ◌+◌, ◌-◌, ◌*◌, ap, ◌∙◌, arith, drop, take}
use Rattle.ctl_state.specs.Bounds.{pair_of}
use Rattle.ctl_state.proofs.ImageLemmas.{pair_read}
use Rattle.ctl_state.proofs.parts.pairs_in.Goals as goal

pub pairs-preserved : goal.pairs-preserved
pairs-preserved c =
    let count : 8 + 32 * c.pairs.place + 32 - (8 + 32 * c.pairs.place) ≡ 32 = omega arith in
    pair_read c.pairs.place c.args.bytes.now c.pairs.pairs c.from_bytes.result (omega arith) c.pairs.invariant
    (c.from_bytes.ensures ∙ ap (λ n. pair_of (take n (drop (8 + 32 * c.pairs.place) c.args.bytes.now))) count)
