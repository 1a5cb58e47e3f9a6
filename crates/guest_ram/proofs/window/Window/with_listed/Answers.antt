use Rattle.std.proofs.Common.{◌∙◌, ◌≡◌, Ok, arith, ap, length}
use Rattle.nvm_model.specs.Check.{page_named, list_entry}
use Rattle.guest_ram.specs.Window.{data_pages}
use Rattle.guest_ram.specs.Span.{with_named}
use Rattle.guest_ram.proofs.Gathered.{with_all_more, used-with_named}
use Rattle.guest_ram.proofs.window.Window.with_listed.Goals as goal

pub loop-i-preserved : goal.loop-i-preserved
loop-i-preserved c =
    let lane = c.args.self.now.lane in
    let count = length (data_pages c.args.self.now) in
    let page = c.page-list.result.now in
    let step : Ok c.in_ok-pages.pages ≡ with_named c.loop-i.pages (page_named lane count (list_entry page c.loop-i.i)) =
    c.in_ok-pages.ensures.value ∙ ap (λ p. with_named c.loop-i.pages (page_named lane count p)) c.entry.ensures in
    let more = with_all_more lane count page c.loop-i.i c.args.n c.loop-i.pages c.in_ok-pages.pages (omega arith) step in
    let one_more = used-with_named c.loop-i.pages c.in_ok-pages.pages _ step in
    record { used = omega arith; same = more ∙ c.loop-i.invariant.same }
