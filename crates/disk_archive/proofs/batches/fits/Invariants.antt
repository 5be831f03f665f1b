use Rattle.std.proofs.Common.{◌≡◌, ◌≤◌, take}
use Rattle.std.specs.Prelude.{sum_by}
use Rattle.std.specs.List.{AllByRecursion}
use Rattle.route_model.specs.Admission.{IsAdmission}
use Rattle.intake.specs.Ring.{entry_octets}
use Rattle.disk_archive.proofs.batches.fits.Given as goal

abbrev pub invariant-loop-admission : goal.invariant-loop-admission
invariant-loop-admission l = record {
  octets : l.octets ≡ sum_by entry_octets (take l.admission-index l.batch);
  few : l.octets ≤ 262144;
  valid : AllByRecursion IsAdmission (take l.admission-index l.batch);
}
