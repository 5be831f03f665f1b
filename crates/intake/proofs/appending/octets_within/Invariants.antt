use Rattle.std.proofs.Common.{◌≡◌, ◌≤◌, take}
use Rattle.intake.specs.Ring.{octets_for}
use Rattle.intake.proofs.appending.octets_within.Given as goal

abbrev pub invariant-loop-admission : goal.invariant-loop-admission
invariant-loop-admission l = record {
  octets : l.octets ≡ octets_for (take l.admission-index l.batch);
  few : l.octets ≤ l.free;
}
