use Rattle.std.proofs.Common.{◌≡◌, ◌<◌, ℕ, suc, slice_get, Some}
use Rattle.version_model.specs.Versions.{Version}
use Rattle.version_model.specs.Entries.{versions_of}
use Rattle.version_model.proofs.sizing.are_rising.Given as goal

abbrev pub invariant-loop-i : goal.invariant-loop-i
invariant-loop-i l = (k : ℕ) (v w : Version) → suc k < l.i → slice_get (versions_of l.entries) k ≡ Some v → slice_get (versions_of l.entries) (suc k) ≡ Some w → v.stamp < w.stamp
