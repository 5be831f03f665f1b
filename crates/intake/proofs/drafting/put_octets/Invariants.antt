use Rattle.std.proofs.Common.{◌≡◌, ◌≤◌, ◌-◌, length, take}
use Rattle.page_journal.specs.Layout.{pages_of}
use Rattle.intake.specs.inner.Drafts.{Writes}
use Rattle.intake.proofs.drafting.put_octets.Given as goal

abbrev pub invariant-loop-done : goal.invariant-loop-done
invariant-loop-done l = record {
  few : l.done ≤ length l.octets;
  numbers : pages_of l.images.items ≡ pages_of l.fn.images.items;
  written : Writes l.ring (take l.done l.octets) l.fn.images.items l.images.items;
}

abbrev pub decreases-loop-done : goal.decreases-loop-done
decreases-loop-done l = length l.octets - l.done
