-- What is written to a disk and synced.
use Rattle.std.specs.Prelude.{◌≡◌, ℕ, List, length}
use Rattle.disk_models.specs.Octets.{octets}
use Rattle.disk_models.specs.Erase.{DiskState, MayLeave}

-- The disk reads these octets from this place on, and whatever a crash now leaves of it has them there.
pub record IsKept (at : ℕ) (bytes : List ℕ) (s : DiskState) : Type 0 where
  pub read : octets s.octet at (length bytes) ≡ bytes
  pub left : (c : ℕ → ℕ) → MayLeave s c → octets c at (length bytes) ≡ bytes
