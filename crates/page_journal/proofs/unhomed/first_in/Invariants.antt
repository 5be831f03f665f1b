use Rattle.std.proofs.Common.{◌≡◌, drop}
use Rattle.std.specs.List.{slice_get}
use Rattle.page_journal.specs.Bookkeeping.{waiting_in}
use Rattle.page_journal.proofs.unhomed.first_in.Given as goal

abbrev pub invariant-loop-entry : goal.invariant-loop-entry
invariant-loop-entry l = slice_get (waiting_in l.slot l.unhomed) 0 ≡ slice_get (waiting_in l.slot (drop l.entry-index l.unhomed)) 0
