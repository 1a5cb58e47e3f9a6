use Rattle.std.proofs.Common.{arith}
use Rattle.std.proofs.lemmas.Result.{err_from_is_err_and}
use Rattle.manager.proofs.AskLemmas.{asked_more}
use Rattle.manager.proofs.MoveLemmas.{all_parts, cut_asked, few_asked, sides_after, stop_left}
use Rattle.manager.proofs.manager.Manager.cut_over.Goals as goal

pub returns-in_err-copy_owed-clause-asked : goal.returns-in_err-copy_owed-clause-asked
returns-in_err-copy_owed-clause-asked g c =
    let fault = err_from_is_err_and c.from_residual.result c.from_residual.ensures.1 in
    let stop = c.in_err-copy_owed.ensures in
    rw (fault.1, fault.2, ← c.self.view_is) (stop.front, stop.last, stop.others, stop.all_is, asked_more c.suspend.ensures.asked stop.copy.asked)

pub copy_pages-requires-clause-left : goal.copy_pages-requires-clause-left
copy_pages-requires-clause-left g c =
    omega (arith, few_asked, c.requires.fits.calls, c.suspend.ensures.asked.left, c.in_ok-copy_owed.ensures.asked.left)

pub hand_over-requires-clause-left : goal.hand_over-requires-clause-left
hand_over-requires-clause-left g c =
    omega (arith, few_asked, c.requires.fits.calls, c.suspend.ensures.asked.left, c.in_ok-copy_owed.ensures.asked.left, c.copy_pages.ensures.asked.left)

pub resume-requires-clause-left : goal.resume-requires-clause-left
resume-requires-clause-left g c =
    let parts = all_parts c.requires.sides c.suspend.ensures c.in_ok-copy_owed.ensures c.copy_pages.ensures in
    omega (arith, few_asked, c.requires.fits.calls, c.suspend.ensures.asked.left, c.in_ok-copy_owed.ensures.asked.left, c.copy_pages.ensures.asked.left, c.hand_over.ensures.asked.left, parts)

pub returns-clause-asked : goal.returns-clause-asked
returns-clause-asked g c =
    rw (← c.self.view_is) (cut_asked _ (rw (← c.self.view_is) at c.requires.fits) c.requires.sides c.suspend.ensures c.in_ok-copy_owed.ensures c.copy_pages.ensures c.hand_over.ensures c.resume.ensures)

pub returns-clause-sides : goal.returns-clause-sides
returns-clause-sides g c =
    rw (← c.self.view_is) (sides_after _ (rw (← c.self.view_is) at c.requires.fits) c.requires.sides c.suspend.ensures c.in_ok-copy_owed.ensures c.copy_pages.ensures c.hand_over.ensures c.resume.ensures)

pub returns-in_err-copy_owed-clause-left : goal.returns-in_err-copy_owed-clause-left
returns-in_err-copy_owed-clause-left g c = omega (arith, c.suspend.ensures.asked.left, stop_left c.self.inside.work.owed c.in_err-copy_owed.ensures)

pub returns-clause-left : goal.returns-clause-left
returns-clause-left g c =
    let parts = all_parts c.requires.sides c.suspend.ensures c.in_ok-copy_owed.ensures c.copy_pages.ensures in
    omega (arith, few_asked, c.suspend.ensures.asked.left, c.in_ok-copy_owed.ensures.asked.left, c.copy_pages.ensures.asked.left, c.hand_over.ensures.asked.left, parts, c.resume.ensures.asked.left)
