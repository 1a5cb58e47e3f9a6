use Rattle.std.proofs.Common.{◌≡◌, ◌+◌, ◌-◌, length}
use Rattle.nvm_model.specs.Check.{list_entries}
use Rattle.guest_ram.specs.Window.{data_pages}
use Rattle.guest_ram.specs.Span.{with_all}
use Rattle.guest_ram.proofs.window.Window.with_listed.Given as goal

abbrev pub invariant-loop-i : goal.invariant-loop-i
invariant-loop-i l = record {
  used : l.pages.used ≡ l.initial.pages.used + l.i;
  same : with_all l.self.lane (length (data_pages l.self)) (list_entries l.list l.i (l.n - l.i)) l.pages
      ≡ with_all l.self.lane (length (data_pages l.self)) (list_entries l.list 0 l.n) l.initial.pages;
}
