use Rattle.std.proofs.Common.{rules, ℕ, List}
use Rattle.ctl_state.specs.Image.{none}
use Rattle.ctl_state.proofs.ImageLemmas.{pair_written}
use Rattle.ctl_state.proofs.image.Image.encode.Goals as goal

pub pairs-preserved : goal.pairs-preserved
pairs-preserved c =
    let bytes : List ℕ = c.to_bytes-bytes.result in
    let used = c.requires.used in
    let room = c.requires.room in
    pair_written c.args.self.now.used c.pairs.place c.args.self.now.pairs none bytes c.args.out.now c.pairs.out c.put_pair.new.out (search rules) (search rules) c.pairs.invariant c.put_pair.ensures
