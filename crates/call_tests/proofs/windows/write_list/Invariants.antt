use Rattle.std.proofs.Common.{◌≡◌, length}
use Rattle.call_tests.proofs.windows.write_list.Given as goal

abbrev pub invariant-loop-i : goal.invariant-loop-i
invariant-loop-i l = length l.window.pages ≡ length l.initial.window.pages
