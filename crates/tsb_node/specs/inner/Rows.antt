-- Entries of one size, one after another, each with a number that rises.
use Rattle.std.specs.Prelude.{◌≡◌, ℕ, ◌<◌, List, [], ◌∷◌, ◌++◌, length, drop, map, Option, Some, None}
use Rattle.std.specs.List.{flat_map, AllByRecursion}
use Rattle.tsb_node.specs.Columns.{AreAscending}

-- each encoding has `size` octets, and octets begin with one entry at most
pub record IsEncoding {X : Type 0} (encode : X → List ℕ) (valid : X → Type 0) (size : ℕ) : Type 0 where
  pub some : 0 < size
  pub size_is : (x : X) → length (encode x) ≡ size
  pub apart : (x y : X) (a b : List ℕ) → valid x → valid y → encode x ++ a ≡ encode y ++ b → x ≡ y

-- if there are numbers, this one is the first
abbrev pub StartsAt : ℕ → List ℕ → Type 0
StartsAt first [] = Unit {0}
StartsAt first (n ∷ rest) = n ≡ first

-- the octets are exactly these entries, `count` of them, whose numbers rise from the first one on
pub record AreRows {X : Type 0} (encode : X → List ℕ) (valid : X → Type 0) (number : X → ℕ) (first count : ℕ) (bytes : List ℕ) (rows : List X) : Type 0 where
  pub each : AllByRecursion valid rows
  pub from_first : StartsAt first (map number rows)
  pub rising : AreAscending (map number rows)
  pub counted : length rows ≡ count
  pub encoded : bytes ≡ flat_map encode rows

-- it is the last of the numbers, if there is one
abbrev pub IsLastNumber : List ℕ → Option ℕ → Type 0
IsLastNumber numbers None = numbers ≡ []
IsLastNumber numbers (Some last) = (front : List ℕ) × (numbers ≡ front ++ last ∷ [])

-- a number may come after the last one, or be the first
abbrev pub IsNextNumber : ℕ → Option ℕ → ℕ → Type 0
IsNextNumber first None n = n ≡ first
IsNextNumber first (Some last) n = last < n

-- the entry at the front, and what follows it
pub record IsFront {X : Type 0} (encode : X → List ℕ) (valid : X → Type 0) (size : ℕ) (bytes : List ℕ) (x : X) : Type 0 where
  pub valid_is : valid x
  pub encoded : bytes ≡ encode x ++ drop size bytes
