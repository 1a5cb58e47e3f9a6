use Rattle.std.proofs.Common.{All, List, ◌∙◌, ap, arith, map, subst, sym}
use Rattle.std.proofs.lemmas.List.{length-set, take_all}
use Rattle.nvmigrate_c.specs.declared.parts.Pair.{Pair}
use Rattle.nvmigrate_c.specs.Parts.{HasFlag, pair_in}
use Rattle.nvmigrate_c.proofs.PairLemmas.{flags_more, put_more}
use Rattle.nvmigrate_c.proofs.parts.put_pairs.Goals as goal

pub pairs-preserved : goal.pairs-preserved
pairs-preserved c =
    let room = c.pairs.invariant.room in
    record {
      room = length-set c.pairs.out c.pairs.place c.of.result ∙ room;
      pairs_are = put_more c.pairs.out c.args.pairs.now c.pairs.place c.of.result _ (omega arith) (omega arith) c.pairs.invariant.pairs_are c.of.ensures.value;
      flags = flags_more c.pairs.out c.pairs.place c.of.result (omega arith) c.pairs.invariant.flags c.of.ensures.flag;
    }

pub returns-clause-value : goal.returns-clause-value
returns-clause-value c =
    let room = c.pairs.invariant.room in
    ap (map pair_in) (sym (take_all c.pairs.place c.pairs.out (omega arith))) ∙ c.pairs.invariant.pairs_are ∙ take_all c.pairs.place c.args.pairs.now (omega arith)

pub returns-clause-flags : goal.returns-clause-flags
returns-clause-flags c =
    let room = c.pairs.invariant.room in
    subst (λ (xs : List Pair). All HasFlag xs) (take_all c.pairs.place c.pairs.out (omega arith)) c.pairs.invariant.flags
