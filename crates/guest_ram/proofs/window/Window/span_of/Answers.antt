use Rattle.std.proofs.Common.{◌≡◌, ◌∙◌, ap, [], arith}
use Rattle.guest_ram.specs.Window.{data_pages}
use Rattle.guest_ram.specs.Span.{named_in, gathered}
use Rattle.guest_ram.proofs.Gathered.{answer_after, gathered-named_in, named_in-below, answer_after-exact, answer_after-bad, answer_after-pages, answer_after-within}
use Rattle.guest_ram.proofs.window.Window.span_of.Goals as goal

answered : (c : goal.After-pages_of) → c.pages_of.result ≡ answer_after [] (named_in c.args.self.now c.args.prp1 c.args.prp2 c.args.count)
answered c =
    c.pages_of.ensures.value
    ∙ ap (gathered c.args.self.now.lane (data_pages c.args.self.now) c.args.prp1 c.args.prp2) c.div_ceil.ensures
    ∙ gathered-named_in c.args.self.now c.args.prp1 c.args.prp2 c.args.count (omega arith) (omega arith)

pub returns-clause-exact : goal.returns-clause-exact
returns-clause-exact c = rw (answered c) (answer_after-exact _)

pub returns-clause-bad : goal.returns-clause-bad
returns-clause-bad c = rw (answered c) (answer_after-bad _)

pub returns-clause-pages : goal.returns-clause-pages
returns-clause-pages c = rw (answered c) (answer_after-pages _)

pub returns-clause-in_window : goal.returns-clause-in_window
returns-clause-in_window c =
    let below = named_in-below c.args.self.now c.args.prp1 c.args.prp2 c.args.count (omega arith) in
    rw (answered c) (answer_after-within _ _ _ below)
