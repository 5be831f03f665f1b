-- What a transaction began with.
use Rattle.std.specs.Prelude.{ℕ, List}

-- the note and the pages below, and the clock of their disk, as plain data
pub record Start : Type 0 where
  pub note : List ℕ
  pub pages : List (List ℕ)
  pub clock : ℕ
