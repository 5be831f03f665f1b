-- Octets that are laid over others.
use Rattle.std.specs.Prelude.{◌≡◌, ℕ, ◌+◌, ◌-◌, List, ◌++◌, length, take, drop, replicate}

-- octets that are laid over others from a place on
unfoldable pub laid : ℕ → List ℕ → List ℕ → List ℕ
laid at new old = take at old ++ new ++ drop (at + length new) old

-- a header, some entries, and zeros to the end of the sheet
pub record IsFilling (h es sheet : List ℕ) : Type 0 where
  pub size : length h ≡ 120
  pub encoded : sheet ≡ (h ++ es) ++ replicate (16264 - length es) 0
