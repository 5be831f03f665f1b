-- Where the line at the front of octets ends. Contracts of private functions alone cite this file.
use Rattle.std.specs.Prelude.{◌≡◌, ◌<◌, ◌≤◌, ℕ, List, take, drop, length, Option, Some, None, Result, Ok, Err}
use Rattle.std.specs.Io.KnownBytes.{IsAtEnd}
use Rattle.line_reader.specs.Lines.{HasNoEnd, BeginsWithLine}
use Rattle.line_reader.specs.declared.fault.LineError.{LineError}
use Rattle.line_reader.specs.declared.fault.LineError.TheVariants as errors
use Rattle.line_reader.specs.declared.line_end.LineEnd.{LineEnd}

-- the line at the front of the octets ends there
pub record EndsAt (octets : List ℕ) (end : LineEnd) : Type 0 where
  pub line : BeginsWithLine octets (take end.text octets) (drop end.whole octets)
  pub text_within : end.text ≤ end.whole
  pub whole_within : end.whole ≤ length octets

-- what was met in these octets, where they were read until a line ends in them
abbrev pub Fills : Result (Option LineEnd) LineError → List ℕ → Option (List ℕ) → Type 0
Fills (Ok (Some end)) octets left = EndsAt octets end
Fills (Ok None) octets left = HasNoEnd octets × (length octets < 4096) × IsAtEnd left
Fills (Err errors.TooLong) octets left = HasNoEnd octets × (length octets ≡ 4096)
Fills (Err (errors.Failed error)) octets left = HasNoEnd octets × (length octets < 4096)
