-- What is known of an archive that is shared.
use Rattle.std.specs.Prelude.{ℕ}

-- how many collectors there are, and how many pages each ring has
pub record Sharing : Type 0 where
  pub collectors : ℕ
  pub ring : ℕ
