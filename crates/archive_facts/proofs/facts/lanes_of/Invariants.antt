use Rattle.std.proofs.Common.{◌≡◌, ◌++◌, drop}
use Rattle.archive_facts.specs.Facts.{shown_from}
use Rattle.archive_facts.proofs.facts.lanes_of.Given as goal

abbrev pub invariant-loop-place : goal.invariant-loop-place
invariant-loop-place l = l.shown.items ++ shown_from l.ring l.place (drop l.place l.lanes) ≡ shown_from l.ring 0 l.lanes
