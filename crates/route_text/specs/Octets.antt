-- Words on the octets of a text.
use Rattle.std.specs.Prelude.{ℕ, ◌<◌, ◌≢◌, List, length, slice_index}

-- the octet c stands nowhere in the text
pub record Lacks (c : ℕ) (text : List ℕ) : Type 0 where
  pub nowhere : (i : ℕ) → i < length text → slice_index text i ≢ c
