use Rattle.page_journal.proofs.Entries.{entry_found}
use Rattle.page_journal.proofs.unhomed.find.Goals as goal

pub returns-then-older-entry-clause-here : goal.returns-then-older-entry-clause-here
returns-then-older-entry-clause-here c = entry_found c.args.entry c.loop-k.k c.args.unhomed.now _ c.loop-k-test.true c.if-older-entry.true c.loop-k.invariant
