-- What a line is.
use Rattle.std.specs.Prelude.{◌≡◌, ◌≢◌, ◌<◌, ℕ, List, ◌∷◌, ◌++◌, length, All}
use Rattle.std.specs.Str.Lines.{StripsCarriageReturn}

-- no line feed is among the octets
abbrev pub HasNoEnd : List ℕ → Type 0
HasNoEnd octets = All (λ octet. octet ≢ 10) octets

-- This line stands at the front of the octets, and these octets follow it: what is written before the first line feed, without the one carriage return at its end, if it has one; with the line feed these are at most 4,096 octets.
pub record BeginsWithLine (octets line rest : List ℕ) : Type 0 where
  pub written : List ℕ
  pub parts : octets ≡ written ++ 10 ∷ rest
  pub whole : HasNoEnd written
  pub few : length written < 4096
  pub line_is : StripsCarriageReturn written line

-- some line stands at the front of the octets
pub record HasLine (octets : List ℕ) : Type 0 where
  pub line : List ℕ
  pub rest : List ℕ
  pub begins : BeginsWithLine octets line rest
