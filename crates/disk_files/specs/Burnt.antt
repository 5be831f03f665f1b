-- Which blocks of a write-once disk over files are tried, burnt and settled, by what its files read as.
use Rattle.std.specs.Prelude.{◌≡◌, ℕ, ◌*◌, ◌/◌, ◌==◌, ◌&&◌, List, Bool, true, false, not, Option, Some, None, if◌then◌else◌}
use Rattle.std.specs.List.{list_any}
use Rattle.disk_models.specs.Octets.{octets}
use Rattle.disk_models.specs.Erase.{DiskState}
use Rattle.disk_models.specs.Once.{OnceState}
use Rattle.disk_files.specs.declared.state.PenState.{PenState}
use Rattle.disk_files.specs.declared.state.PenState.TheVariants.{Usable, Broken, FailedBurn, FailedSettle}

-- each call with such a pen fails
abbrev pub is_broken_state : PenState → Bool
is_broken_state Usable = false
is_broken_state Broken = true
is_broken_state (FailedBurn n) = true
is_broken_state FailedSettle = true

-- a burn of this block was begun, by these octets of the map
abbrev pub is_marked : (ℕ → ℕ) → ℕ → Bool
is_marked map n = not (map n == 0)

-- the block is one of these
abbrev pub is_listed : List ℕ → ℕ → Bool
is_listed numbers n = list_any (λ m. m == n) numbers

-- What stands at this block may not be what was burnt: its burn failed, or it was burnt since the last settle that succeeded and a settle
-- failed.
abbrev pub is_lost : PenState → List ℕ → ℕ → Bool
is_lost Usable waiting n = false
is_lost Broken waiting n = false
is_lost (FailedBurn m) waiting n = m == n
is_lost FailedSettle waiting n = is_listed waiting n

-- what stands at a block
abbrev pub block_at : (ℕ → ℕ) → ℕ → List ℕ
block_at blocks n = octets blocks (16384 * n) 16384

-- a block, where there is one
abbrev pub block_if : Bool → List ℕ → Option (List ℕ)
block_if is_there block = if is_there then Some block else None

-- The state of a disk whose map and blocks have these octets, where these blocks were burnt since the last settle that succeeded.
abbrev pub once_state_of : (ℕ → ℕ) → (ℕ → ℕ) → List ℕ → PenState → OnceState
once_state_of map blocks waiting state = record {
  tried = λ n. is_marked map n;
  burnt = λ n. block_if (is_marked map n && not (is_lost state waiting n)) (block_at blocks n);
  settled = λ n. block_if (is_marked map n && not (is_lost state waiting n) && not (is_listed waiting n)) (block_at blocks n);
}

-- all of it is on the device
abbrev pub IsSynced : DiskState → Type 0
IsSynced s = (i : ℕ) → ¬ s.unsynced i

-- what isn't on the device is of these blocks
abbrev pub AreListed : List ℕ → DiskState → Type 0
AreListed numbers s = (i : ℕ) → s.unsynced i → is_listed numbers (i / 16384) ≡ true
