use Rattle.std.proofs.Common.{◌≡◌, ◌<◌, ℕ, slice_get, Some}
use Rattle.version_model.specs.Versions.{Version}
use Rattle.version_model.specs.Entries.{versions_of}
use Rattle.version_model.proofs.sizing.are_before.Given as goal

abbrev pub invariant-loop-entry : goal.invariant-loop-entry
invariant-loop-entry l = (k : ℕ) (v : Version) → k < l.entry-index → slice_get (versions_of l.entries) k ≡ Some v → v.stamp < l.stamp
