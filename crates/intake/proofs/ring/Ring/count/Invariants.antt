use Rattle.std.proofs.Common.{◌≤◌, ℕ, ◌+◌, List}
use Rattle.page_tx.specs.Start.{Start}
use Rattle.route_model.specs.Admission.{Admitted}
use Rattle.intake.specs.Ring.{IsRing, RingRepresents}
use Rattle.intake.specs.Calls.{OnlyReads}
use Rattle.intake.proofs.Passing.{Passed}
use Rattle.intake.proofs.ring.Ring.count.Given as goal

abbrev pub invariant-loop-first : goal.invariant-loop-first
invariant-loop-first g l = record {
  ring : IsRing (g.P.Pages.homes l.fn.pages) l.rest;
  few : l.count + l.rest.used ≤ l.self.used;
  passed : (start : Start) (shown : List (List ℕ)) → g.P.Pages.shows l.fn.pages start shown → Passed shown l.self l.rest l.count;
  left : (start : Start) (shown : List (List ℕ)) (waits : List Admitted) → g.P.Pages.shows l.fn.pages start shown → RingRepresents shown l.self waits → (more : List Admitted) × RingRepresents shown l.rest more;
  same : OnlyReads g.P.Pages l.fn.pages l.pages ⊥;
}

abbrev pub decreases-loop-first : goal.decreases-loop-first
decreases-loop-first g l = l.rest.used
