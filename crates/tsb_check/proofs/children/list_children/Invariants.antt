use Rattle.std.proofs.Common.{◌≡◌, ◌-◌, ◌++◌, drop}
use Rattle.tsb_check.specs.Pages.{children_of}
use Rattle.tsb_check.proofs.children.list_children.Given as goal

abbrev pub invariant-loop-i : goal.invariant-loop-i
invariant-loop-i l = l.places.items ++ children_of (l.place.level - 1) l.place.high (drop l.i l.children) ≡ children_of (l.place.level - 1) l.place.high l.children
