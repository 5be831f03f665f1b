use Rattle.std.proofs.Common.{◌≡◌, ◌++◌, drop}
use Rattle.tsb_check.specs.Counted.{places_of}
use Rattle.tsb_check.proofs.places.list_places.Given as goal

abbrev pub invariant-loop-i : goal.invariant-loop-i
invariant-loop-i l = l.places.items ++ places_of l.bounds (drop l.i l.parts) ≡ places_of l.bounds l.parts
