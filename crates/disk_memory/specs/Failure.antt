-- Which calls a script lets fail.
use Rattle.std.specs.Prelude.{ℕ, ◌==◌, List, [], ◌∷◌, Bool, false, if◌then◌else◌, Option, None, Some}
use Rattle.disk_memory.specs.declared.torn.Torn.{Torn}
use Rattle.disk_memory.specs.declared.torn.Torn.TheVariants.{New}
use Rattle.disk_memory.specs.declared.failure.Failure.{Failure}
use Rattle.disk_memory.specs.declared.failure.Failure.TheVariants.{Read, Write, Sync}

-- it is of this read
abbrev pub is_read_failure : ℕ → Failure → Bool
is_read_failure number (Read n) = n == number
is_read_failure number (Write n torn) = false
is_read_failure number (Sync n) = false

-- it is of this sync
abbrev pub is_sync_failure : ℕ → Failure → Bool
is_sync_failure number (Read n) = false
is_sync_failure number (Write n torn) = false
is_sync_failure number (Sync n) = n == number

-- what this write leaves, if it is to fail: the first that the script says of it
abbrev pub write_failure_at : ℕ → List Failure → Option Torn
write_failure_at number [] = None
write_failure_at number (Read n ∷ script) = write_failure_at number script
write_failure_at number (Write n torn ∷ script) = if n == number then Some torn else write_failure_at number script
write_failure_at number (Sync n ∷ script) = write_failure_at number script

-- what a write or a burn leaves that is cut off, or else what the script has of it
abbrev pub cut_failure : Bool → Option Torn → Option Torn
cut_failure cut scripted = if cut then Some New else scripted
