use Rattle.std.proofs.Common.{◌≡◌, ◌+◌, drop}
use Rattle.version_model.specs.Entries.{versions_of}
use Rattle.version_model.specs.Sizes.{octets, octets_below}
use Rattle.version_model.proofs.Kept.{Keeps, OfKeyBelow, OfKeyFrom}
use Rattle.version_model.proofs.splitting.parted.Given as goal

abbrev pub invariant-loop-entry : goal.invariant-loop-entry
invariant-loop-entry l = record {
  left : Keeps (OfKeyBelow l.key) (OfKeyBelow l.key) (versions_of l.entries) l.entry-index (versions_of l.left.items);
  right : Keeps (OfKeyFrom l.key) (OfKeyFrom l.key) (versions_of l.entries) l.entry-index (versions_of l.right.items);
  below : octets (versions_of l.left.items) + octets_below l.key (drop l.entry-index (versions_of l.entries)) ≡ octets_below l.key (versions_of l.entries);
  both : octets (versions_of l.left.items) + octets (versions_of l.right.items) + octets (drop l.entry-index (versions_of l.entries)) ≡ octets (versions_of l.entries);
}
