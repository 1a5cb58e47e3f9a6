use Rattle.std.proofs.Common.{Ok, Err, false, sym, ◌∙◌, arith}
use Rattle.std.proofs.lemmas.List.{drop_all, drop_more}
use Rattle.std.proofs.lemmas.Result.{err_from_is_err_and}
use Rattle.manager.proofs.CopyLemmas.{copies_more, none_copied, stops_here}
use Rattle.manager.proofs.steps.copy_blocks.Goals as goal
use Rattle.manager.proofs.steps.copy_blocks.Goals.{then-contains+in_ok-copy_block, else-contains}

pub returns-in_err-copy_block : goal.returns-in_err-copy_block
returns-in_err-copy_block g c =
    let fault = err_from_is_err_and c.from_residual.result c.from_residual.ensures.1 in
    rw (fault.1, fault.2) (c.loop-b.invariant.all _ (Err c.in_err-copy_block.field-0.0) (rw (drop_more c.args.owed.now c.loop-b.b false (omega arith), sym c.contains.ensures ∙ c.if-contains.true) (stops_here _ c.in_err-copy_block.ensures)))

pub loop-b-preserved : goal.loop-b-preserved
loop-b-preserved g c =
    let here = drop_more c.args.owed.now c.loop-b.b false (omega arith) in
    let was = c.loop-b.invariant in
    elim c.if-contains.branch [
      | then-contains+in_ok-copy_block w ↦
          let one = w.in_ok-copy_block.ensures.asked in
          rw w.port-is (record {
            count = one.count ∙ was.count;
            left = omega (arith, one.left, was.left);
            all = λ new result rest. was.all new result (rw (here, sym c.contains.ensures ∙ w.if-contains.true) (copies_more _ new result w.in_ok-copy_block.ensures rest));
          })
      | else-contains w ↦ rw w.port-is (record {
        count = was.count;
        left = omega (arith, was.left);
        all = λ new result rest. was.all new result (rw (here, sym c.contains.ensures ∙ w.if-contains.false) rest);
      })
    ]

pub returns : goal.returns
returns g c = c.loop-b.invariant.all _ (Ok tt) (rw (drop_all c.loop-b.b c.args.owed.now (omega arith)) (none_copied _ _))
