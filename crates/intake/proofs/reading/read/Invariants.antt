use Rattle.std.proofs.Common.{◌≡◌, ◌≤◌, ◌-◌, ℕ, List, length, take, drop}
use Rattle.page_tx.specs.Start.{Start}
use Rattle.intake.specs.Ring.{HasOctets}
use Rattle.intake.specs.Calls.{OnlyReads}
use Rattle.intake.proofs.reading.read.Given as goal

abbrev pub invariant-loop-done : goal.invariant-loop-done
invariant-loop-done g l = record {
  is : length l.out.items ≡ l.done;
  few : l.done ≤ l.len;
  read : (start : Start) (shown : List (List ℕ)) (stood : List ℕ) → g.P.Pages.shows l.fn.pages start shown → length stood ≡ l.ring.used → HasOctets shown l.ring stood → l.out.items ≡ take l.done (drop l.from stood);
  same : OnlyReads g.P.Pages l.fn.pages l.pages ⊥;
}

abbrev pub decreases-loop-done : goal.decreases-loop-done
decreases-loop-done g l = l.len - l.done
