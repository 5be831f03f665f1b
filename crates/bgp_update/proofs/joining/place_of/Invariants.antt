use Rattle.std.proofs.Common.{◌≡◌, ◌++◌, drop, take}
use Rattle.bgp_update.specs.Joining.{leading}
use Rattle.bgp_update.proofs.joining.place_of.Given as goal

abbrev pub invariant-loop-i : goal.invariant-loop-i
invariant-loop-i l = leading l.path l.needed ≡ take l.i l.path ++ leading (drop l.i l.path) l.left
