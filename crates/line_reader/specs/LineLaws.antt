-- Laws of lines.
use Rattle.std.specs.Prelude.{◌≡◌, ℕ, List, ◌++◌}
use Rattle.line_reader.specs.Lines.{BeginsWithLine}

-- octets begin with at most one line, which the same octets follow
abbrev pub OneLine : Type 0
OneLine = (octets line rest other beyond : List ℕ) → BeginsWithLine octets line rest → BeginsWithLine octets other beyond → (line ≡ other) × (rest ≡ beyond)

-- whatever follows octets that begin with a line, they begin with it
abbrev pub StaysTheLine : Type 0
StaysTheLine = (octets line rest more : List ℕ) → BeginsWithLine octets line rest → BeginsWithLine (octets ++ more) line (rest ++ more)
