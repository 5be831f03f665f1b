-- Which calls of a write-once disk a script lets fail.
use Rattle.std.specs.Prelude.{ℕ, ◌==◌, List, [], ◌∷◌, Bool, false, if◌then◌else◌, Option, None, Some}
use Rattle.disk_memory.specs.declared.torn.Torn.{Torn}
use Rattle.disk_memory.specs.declared.once_failure.OnceFailure.{OnceFailure}
use Rattle.disk_memory.specs.declared.once_failure.OnceFailure.TheVariants.{Blank, Burn, Settle, Look, Read}

-- it is of this look for a blank block
abbrev pub is_blank_failure : ℕ → OnceFailure → Bool
is_blank_failure number (Blank n) = n == number
is_blank_failure number (Burn n torn) = false
is_blank_failure number (Settle n) = false
is_blank_failure number (Look n) = false
is_blank_failure number (Read n) = false

-- it is of this settle
abbrev pub is_settle_failure : ℕ → OnceFailure → Bool
is_settle_failure number (Blank n) = false
is_settle_failure number (Burn n torn) = false
is_settle_failure number (Settle n) = n == number
is_settle_failure number (Look n) = false
is_settle_failure number (Read n) = false

-- it is of this look
abbrev pub is_look_failure : ℕ → OnceFailure → Bool
is_look_failure number (Blank n) = false
is_look_failure number (Burn n torn) = false
is_look_failure number (Settle n) = false
is_look_failure number (Look n) = n == number
is_look_failure number (Read n) = false

-- what this burn leaves, if it is to fail: the first that the script says of it
abbrev pub burn_failure_at : ℕ → List OnceFailure → Option Torn
burn_failure_at number [] = None
burn_failure_at number (Blank n ∷ script) = burn_failure_at number script
burn_failure_at number (Burn n torn ∷ script) = if n == number then Some torn else burn_failure_at number script
burn_failure_at number (Settle n ∷ script) = burn_failure_at number script
burn_failure_at number (Look n ∷ script) = burn_failure_at number script
burn_failure_at number (Read n ∷ script) = burn_failure_at number script

-- the numbers of the reads that are to fail
abbrev pub failing_reads_of : List OnceFailure → List ℕ
failing_reads_of [] = []
failing_reads_of (Blank n ∷ script) = failing_reads_of script
failing_reads_of (Burn n torn ∷ script) = failing_reads_of script
failing_reads_of (Settle n ∷ script) = failing_reads_of script
failing_reads_of (Look n ∷ script) = failing_reads_of script
failing_reads_of (Read n ∷ script) = n ∷ failing_reads_of script
