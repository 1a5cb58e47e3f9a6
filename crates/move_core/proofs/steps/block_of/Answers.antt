use Rattle.std.proofs.Common.{◌≡◌, ◌+◌, ◌-◌, ◌*◌, ap, arith, drop, take}
use Rattle.move_core.proofs.steps.block_of.Goals as goal

pub returns-clause-value : goal.returns-clause-value
returns-clause-value c =
    let at = 512 * c.args.i in
    let long : at + 512 - at ≡ 512 = omega arith in
    ap (λ n. take n (drop at c.args.bytes.now)) long
