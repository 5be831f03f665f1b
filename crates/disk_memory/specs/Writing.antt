-- A write as it is remembered, as plain data.
use Rattle.std.specs.Prelude.{ℕ, List}

-- From `at` on, `length` octets were to be written, and the octets from there on became these.
pub record Writing : Type 0 where
  pub at : ℕ
  pub length : ℕ
  pub octets : List ℕ
