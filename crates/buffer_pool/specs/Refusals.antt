-- Why the calls of a pool are refused that aren't the journal's.
use Rattle.std.specs.Prelude.{◌≡◌, Bool, true, false}
use Rattle.buffer_pool.specs.declared.error.FetchError.{FetchError}
use Rattle.buffer_pool.specs.declared.error.FetchError.TheVariants.{Fault, NeedsRecovery, OutOfMemory}

-- the reasons for which a page isn't fetched
abbrev pub ReadRefusal : Bool → FetchError → Type 0
ReadRefusal recovery NeedsRecovery = recovery ≡ true
ReadRefusal recovery Fault = recovery ≡ false
ReadRefusal recovery OutOfMemory = recovery ≡ false
