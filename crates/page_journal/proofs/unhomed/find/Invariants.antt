use Rattle.std.proofs.Common.{◌≡◌, ◌++◌, take, drop}
use Rattle.page_journal.specs.inner.Entering.{with_entry}
use Rattle.page_journal.proofs.unhomed.find.Given as goal

abbrev pub invariant-loop-k : goal.invariant-loop-k
invariant-loop-k l = take l.k l.unhomed ++ with_entry l.entry (drop l.k l.unhomed) ≡ with_entry l.entry l.unhomed
