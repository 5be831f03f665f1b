-- The terms of contracts on an erasable disk in memory.
use Rattle.std.specs.Prelude.{◌≡◌, ℕ, ◌+◌, min, List, Bool, true, false, ◌||◌, not, nat_lt, if◌then◌else◌, Option, None, Some, IsTrue}
use Rattle.std.specs.List.{list_any}
use Rattle.disk_memory.specs.declared.call.Call.{Call}
use Rattle.disk_memory.specs.declared.failure.Failure.{Failure}
use Rattle.disk_memory.specs.declared.torn.Torn.{Torn}
use Rattle.disk_memory.specs.declared.torn.Torn.TheVariants.{Old}
use Rattle.disk_memory.specs.Failure.{cut_failure, is_read_failure, is_sync_failure, write_failure_at}
use Rattle.disk_memory.specs.declared.erase.MemErase.{MemErase}

-- how many octets it has
abbrev pub size_of : MemErase → ℕ
size_of disk = disk.size

-- the writes and the syncs that left something, the oldest first
abbrev pub calls_of : MemErase → List Call
calls_of disk = disk.calls.items

-- how often it has failed
abbrev pub faults_of : MemErase → ℕ
faults_of disk = disk.faults

-- which calls fail
abbrev pub script_of : MemErase → List Failure
script_of disk = disk.script.items

-- the number of the next read, write and sync, by which the script names them
pub record IsAtCall (disk : MemErase) (next_read next_write next_sync : ℕ) : Type 0 where
  pub read : disk.reads ≡ next_read
  pub write : disk.writes ≡ next_write
  pub sync : disk.syncs ≡ next_sync

-- the number after this one; the last one of 64 bits stays
abbrev pub next_number : ℕ → ℕ
next_number n = min (n + 1) 18446744073709551615

-- the number of the write or sync at which it stops, the first one being 1; none if it doesn't
abbrev pub stop_of : MemErase → Option ℕ
stop_of disk = disk.stop

-- a disk with this stop has come to it after this many writes and syncs
abbrev pub stops_within : Option ℕ → ℕ → Bool
stops_within None n = false
stops_within (Some k) n = not (nat_lt n k)

-- how many writes and syncs there were
abbrev pub begun_of : MemErase → ℕ
begun_of disk = min (disk.writes + disk.syncs) 18446744073709551615

-- it has stopped
abbrev pub is_stopped : MemErase → Bool
is_stopped disk = stops_within (stop_of disk) (begun_of disk)

-- it stops at the next write or sync, or has stopped
abbrev pub is_cut : MemErase → Bool
is_cut disk = stops_within (stop_of disk) (next_number (begun_of disk))

-- the next read is to fail: the script says so, or the disk has stopped
abbrev pub IsReadToFail : MemErase → Type 0
IsReadToFail disk = IsTrue (is_stopped disk || list_any (λ failure. is_read_failure disk.reads failure) (script_of disk))

-- the next sync is to fail
abbrev pub IsSyncToFail : MemErase → Type 0
IsSyncToFail disk = IsTrue (is_cut disk || list_any (λ failure. is_sync_failure disk.syncs failure) (script_of disk))

-- What the next write leaves, if it is to fail. At the stop all its octets come to stand, unsynced; later ones leave nothing.
abbrev pub write_to_fail : MemErase → Option Torn
write_to_fail disk = if is_stopped disk then Some Old else cut_failure (is_cut disk) (write_failure_at disk.writes (script_of disk))

-- the script and the stop are the same
pub record KeepsPlan (old new : MemErase) : Type 0 where
  pub script : script_of new ≡ script_of old
  pub stop : stop_of new ≡ stop_of old

-- the script is the same, and one call of a kind more was made: a read, a write, a sync
pub record CalledRead (old new : MemErase) : Type 0 where
  pub plan : KeepsPlan old new
  pub next : IsAtCall new (next_number old.reads) old.writes old.syncs

-- the script is the same, and one write more was made
pub record CalledWrite (old new : MemErase) : Type 0 where
  pub plan : KeepsPlan old new
  pub next : IsAtCall new old.reads (next_number old.writes) old.syncs

-- the same, of a sync
pub record CalledSync (old new : MemErase) : Type 0 where
  pub plan : KeepsPlan old new
  pub next : IsAtCall new old.reads old.writes (next_number old.syncs)
