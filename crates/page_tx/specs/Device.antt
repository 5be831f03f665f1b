-- What the calls of a transaction leave unchanged of the device below.
use Rattle.std.specs.Prelude.{◌≡◌, ◌↔◌, ◌+◌, ℕ, min}

-- Whether it follows its model stays. A failure is counted once if the call reported one of the device, and nothing
-- else is counted. At the last value of 64 bits the count stays.
pub record KeepsDevice (was is : Type 0) (before after : ℕ) (failed : Type 0) : Type 0 where
  pub honest : was ↔ is
  pub quiet : ¬ failed → after ≡ before
  pub counted : failed → after ≡ min (before + 1) 18446744073709551615
