use Rattle.std.proofs.Common.{◌≡◌}
use Rattle.tsb_node.specs.inner.Scanning.{IsLast}
use Rattle.tsb_node.specs.inner.Reading.{versions_in, after}
use Rattle.tsb_node.proofs.leaf.last_of.Given as goal

abbrev pub invariant-loop : goal.invariant-loop
invariant-loop l = (l.rest ≡ after l.counter l.area) × IsLast (versions_in l.count l.area) l.area l.key l.stamp l.counter l.best
