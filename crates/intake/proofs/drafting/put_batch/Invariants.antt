use Rattle.std.proofs.Common.{◌≡◌, ◌+◌, take}
use Rattle.std.specs.List.{AllByRecursion, flat_map}
use Rattle.route_model.specs.Admission.{IsAdmission}
use Rattle.page_journal.specs.Layout.{pages_of}
use Rattle.intake.specs.Ring.{entry, octets_for}
use Rattle.intake.specs.inner.Drafts.{Writes}
use Rattle.intake.proofs.drafting.put_batch.Given as goal

abbrev pub invariant-loop-admission : goal.invariant-loop-admission
invariant-loop-admission l = record {
  used : l.used ≡ l.ring.used + octets_for (take l.admission-index l.batch);
  numbers : pages_of l.images.items ≡ pages_of l.fn.images.items;
  written : Writes l.ring (flat_map entry (take l.admission-index l.batch)) l.fn.images.items l.images.items;
  valid : AllByRecursion IsAdmission (take l.admission-index l.batch);
}
