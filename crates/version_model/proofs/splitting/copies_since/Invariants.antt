use Rattle.std.proofs.Common.{◌≡◌, ◌≤◌, ◌+◌, ◌++◌, length, drop}
use Rattle.version_model.specs.Entries.{versions_of}
use Rattle.version_model.specs.Sizes.{octets}
use Rattle.version_model.proofs.Kept.{Keeps, MayStay, MustStay}
use Rattle.version_model.proofs.splitting.copies_since.Given as goal

abbrev pub invariant-loop-i : goal.invariant-loop-i
invariant-loop-i l = record {
  keeps : Keeps (MayStay (versions_of l.entries) l.at) (MustStay (versions_of l.entries) l.at) (versions_of l.entries) l.i (versions_of l.kept.items);
  size : octets (versions_of l.kept.items) + octets (drop l.i (versions_of l.entries)) ≤ octets (versions_of l.entries);
  short : length (versions_of l.kept.items) ≤ l.i;
  same : length (versions_of l.kept.items) ≡ l.i → versions_of l.kept.items ++ drop l.i (versions_of l.entries) ≡ versions_of l.entries;
}
