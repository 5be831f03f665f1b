-- The terms of contracts on the pen of a write-once disk in memory.
use Rattle.std.specs.Prelude.{◌≡◌, ℕ, ◌+◌, min, List, Bool, ◌||◌, if◌then◌else◌, Option, Some, IsTrue}
use Rattle.std.specs.List.{list_any}
use Rattle.disk_models.specs.Once.{OnceState}
use Rattle.disk_memory.specs.Burning.{Burning, once_state_of}
use Rattle.disk_memory.specs.declared.once_failure.OnceFailure.{OnceFailure}
use Rattle.disk_memory.specs.declared.pen.MemPen.{MemPen}
use Rattle.disk_memory.specs.declared.torn.Torn.{Torn}
use Rattle.disk_memory.specs.declared.torn.Torn.TheVariants.{Old}
use Rattle.disk_memory.specs.Failure.{cut_failure}
use Rattle.disk_memory.specs.OnceFailure.{burn_failure_at, is_blank_failure, is_look_failure, is_settle_failure}
use Rattle.disk_memory.specs.Memory.{next_number, stops_within}

-- the burns that a settle has fixed, the oldest first
abbrev pub settled_of : MemPen → List Burning
settled_of pen = pen.settled.items

-- the burns since then
abbrev pub waiting_of : MemPen → List Burning
waiting_of pen = pen.waiting.items

-- how often it has failed
abbrev pub once_faults_of : MemPen → ℕ
once_faults_of pen = pen.faults

-- which calls fail
abbrev pub once_script_of : MemPen → List OnceFailure
once_script_of pen = pen.script.items

-- the disk's state
abbrev pub once_model : MemPen → OnceState
once_model pen = once_state_of (settled_of pen) (waiting_of pen)

-- the number of the next call of each kind, by which the script names them
pub record IsAtOnceCall (pen : MemPen) (next_blank next_burn next_settle next_look : ℕ) : Type 0 where
  pub blank : pen.blanks ≡ next_blank
  pub burn : pen.burns ≡ next_burn
  pub settle : pen.settles ≡ next_settle
  pub look : pen.looks ≡ next_look

-- the same burns are settled and waiting
pub record KeepsBurns (old new : MemPen) : Type 0 where
  pub settled : settled_of new ≡ settled_of old
  pub waiting : waiting_of new ≡ waiting_of old

-- the number of the burn or settle at which the disk stops, the first one being 1; none if it doesn't
abbrev pub once_stop_of : MemPen → Option ℕ
once_stop_of pen = pen.stop

-- how many burns and settles there were
abbrev pub once_begun_of : MemPen → ℕ
once_begun_of pen = min (pen.burns + pen.settles) 18446744073709551615

-- the disk has stopped
abbrev pub has_stopped : MemPen → Bool
has_stopped pen = stops_within (once_stop_of pen) (once_begun_of pen)

-- it stops at the next burn or settle, or has stopped
abbrev pub is_cut_off : MemPen → Bool
is_cut_off pen = stops_within (once_stop_of pen) (next_number (once_begun_of pen))

-- the next look for a blank block is to fail: the script says so, or the disk has stopped
abbrev pub IsBlankToFail : MemPen → Type 0
IsBlankToFail pen = IsTrue (has_stopped pen || list_any (λ failure. is_blank_failure pen.blanks failure) (once_script_of pen))

-- the next settle is to fail
abbrev pub IsSettleToFail : MemPen → Type 0
IsSettleToFail pen = IsTrue (is_cut_off pen || list_any (λ failure. is_settle_failure pen.settles failure) (once_script_of pen))

-- the next look is to fail
abbrev pub IsLookToFail : MemPen → Type 0
IsLookToFail pen = IsTrue (has_stopped pen || list_any (λ failure. is_look_failure pen.looks failure) (once_script_of pen))

-- What the next burn leaves, if it is to fail. At the stop all its octets come to stand, though it isn't burnt; later ones try no block.
abbrev pub burn_to_fail : MemPen → Option Torn
burn_to_fail pen = if has_stopped pen then Some Old else cut_failure (is_cut_off pen) (burn_failure_at pen.burns (once_script_of pen))

-- the script and the stop are the same
pub record KeepsOncePlan (old new : MemPen) : Type 0 where
  pub script : once_script_of new ≡ once_script_of old
  pub stop : once_stop_of new ≡ once_stop_of old

-- the script is the same, and one call of a kind more was made: a look for a blank block, a burn, a settle, a look
pub record CalledBlank (old new : MemPen) : Type 0 where
  pub plan : KeepsOncePlan old new
  pub next : IsAtOnceCall new (next_number old.blanks) old.burns old.settles old.looks

-- the script is the same, and one burn more was made
pub record CalledBurn (old new : MemPen) : Type 0 where
  pub plan : KeepsOncePlan old new
  pub next : IsAtOnceCall new old.blanks (next_number old.burns) old.settles old.looks

-- the same, of a settle
pub record CalledSettle (old new : MemPen) : Type 0 where
  pub plan : KeepsOncePlan old new
  pub next : IsAtOnceCall new old.blanks old.burns (next_number old.settles) old.looks

-- the same, of a look
pub record CalledLook (old new : MemPen) : Type 0 where
  pub plan : KeepsOncePlan old new
  pub next : IsAtOnceCall new old.blanks old.burns old.settles (next_number old.looks)
