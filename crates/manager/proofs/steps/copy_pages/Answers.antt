use Rattle.std.proofs.Common.{false, length, refl, sym, ap, ◌∙◌, arith}
use Rattle.std.proofs.lemmas.List.{drop_all, drop_more, length-set}
use Rattle.manager.specs.Port.{SideState}
use Rattle.manager.proofs.AskLemmas.{asked_none}
use Rattle.manager.proofs.CopyLemmas.{pages_more}
use Rattle.manager.proofs.steps.copy_pages.Goals as goal
use Rattle.manager.proofs.steps.copy_pages.Goals.{then-contains, else-contains}

pub loop-page-preserved : goal.loop-page-preserved
loop-page-preserved g c =
    let page = c.loop-page.page in
    let here = drop_more c.args.owed.now page false (omega arith) in
    let was = c.loop-page.invariant in
    elim c.if-contains.branch [
      | then-contains w ↦
          let one = w.copy_page.ensures in
          rw w.port-is (record {
            from = ap (λ (s : SideState). length s.pages) one.does.from_is ∙ was.from;
            to = ap (λ (s : SideState). length s.pages) one.does.to_is ∙ length-set _ page _ ∙ was.to;
            left = omega (arith, one.left, was.left);
            all = λ new rest. was.all new (rw (here, sym c.contains.ensures ∙ w.if-contains.true) (pages_more (omega arith) one rest));
          })
      | else-contains w ↦ rw w.port-is (record {
        from = was.from;
        to = was.to;
        left = omega (arith, was.left);
        all = λ new rest. was.all new (rw (here, sym c.contains.ensures ∙ w.if-contains.false) rest);
      })
    ]

pub returns : goal.returns
returns g c = c.loop-page.invariant.all _ (rw (drop_all c.loop-page.page c.args.owed.now (omega arith)) (record { asked = asked_none _ _; from_is = refl; to_is = refl; long = refl; fewer = λ count rest d. d }))
