use Rattle.std.proofs.Common.{◌≡◌, ◌≤◌, ◌+◌, drop, length}
use Rattle.page_journal.specs.inner.Entering.{unhomed_after}
use Rattle.page_journal.proofs.unhomed.enter_all.Given as goal

abbrev pub invariant-loop-j : goal.invariant-loop-j
invariant-loop-j l = record {
  entered : unhomed_after l.slot l.j (drop l.j l.images) l.unhomed.items ≡ unhomed_after l.slot 0 l.images l.fn.unhomed.items;
  long : length l.unhomed.items ≤ length l.fn.unhomed.items + l.j;
}
