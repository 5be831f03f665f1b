-- What is read of a stream of lines.
use Rattle.std.specs.Prelude.{◌≡◌, ◌<◌, ℕ, List, [], length, Option, Result, Ok, Err}
use Rattle.std.specs.Io.KnownBytes.{IsAtEnd}
use Rattle.line_reader.specs.Lines.{HasNoEnd, BeginsWithLine}
use Rattle.line_reader.specs.declared.fault.LineError.{LineError}
use Rattle.line_reader.specs.declared.fault.LineError.TheVariants as errors
use Rattle.line_reader.specs.declared.reading.Found.{Found}
use Rattle.line_reader.specs.declared.reading.Found.TheVariants as finds

-- a reader of lines: the reader below it, the last line, and the octets that were read after it
pub record LineReading (R : Type 0) : Type 0 where
  pub reader : R
  pub line : List ℕ
  pub beyond : List ℕ

-- There was no line before the end of these octets: they stay to be read.
pub record ReadsNone (octets line beyond : List ℕ) : Type 0 where
  pub none : HasNoEnd octets
  pub line_is : line ≡ []
  pub after_is : beyond ≡ octets

-- What a reader of lines found in these octets, after the last line, where it read all of them: a line, and what follows it; or it was the end, or the octets
-- are as many as a line may have, or the reader failed.
abbrev pub ReadsLine : Result Found LineError → List ℕ → List ℕ → List ℕ → Option (List ℕ) → Type 0
ReadsLine (Ok finds.Line) octets line beyond left = BeginsWithLine octets line beyond
ReadsLine (Ok finds.End) octets line beyond left = ReadsNone octets line beyond × (length octets < 4096) × IsAtEnd left
ReadsLine (Err errors.TooLong) octets line beyond left = ReadsNone octets line beyond × (length octets ≡ 4096)
ReadsLine (Err (errors.Failed error)) octets line beyond left = ReadsNone octets line beyond × (length octets < 4096)
