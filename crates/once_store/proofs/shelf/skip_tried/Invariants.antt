use Rattle.std.proofs.Common.{◌≡◌, ◌≤◌, ◌↔◌, ◌-◌, max}
use Rattle.once_store.specs.Shelves.{AllTried}
use Rattle.once_store.proofs.shelf.skip_tried.Given as goal

abbrev pub invariant-blocks-2 : goal.invariant-blocks-2
invariant-blocks-2 g l =
    (g.O.OnceDisk.pen_fault_count l.pen ≡ g.O.OnceDisk.pen_fault_count l.fn.pen)
    × (g.O.OnceDisk.honest l.disk l.fn.pen ↔ g.O.OnceDisk.honest l.disk l.pen)
    × (g.O.OnceDisk.honest l.disk l.fn.pen → g.O.OnceDisk.model l.pen ≡ g.O.OnceDisk.model l.fn.pen)
    × (l.fn.next ≤ l.next)
    × (l.next ≤ max l.fn.next (g.O.OnceDisk.block_count l.disk))
    × (g.O.OnceDisk.honest l.disk l.fn.pen → AllTried (g.O.OnceDisk.model l.fn.pen) l.fn.next l.next)

abbrev pub decreases-blocks-2 : goal.decreases-blocks-2
decreases-blocks-2 g l = g.O.OnceDisk.block_count l.disk - l.next
