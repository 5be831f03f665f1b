-- Ranges of keys and of stamps.
use Rattle.std.specs.Prelude.{◌≡◌, ℕ, ◌^◌, ◌<◌, ◌≤◌, ◌⊎◌, Option, Some, None}
use Rattle.version_model.specs.declared.bounds.Bounds.{Bounds}

-- no key reaches this number: keys are of forty octets
abbrev pub key_end : ℕ
key_end = 2 ^ 320

-- no stamp reaches this number: stamps are of sixteen octets
abbrev pub stamp_end : ℕ
stamp_end = 2 ^ 128

-- the keys from `low` on and below `high`, at the stamps from `start` on and below `end`
pub record Range : Type 0 where
  pub low : ℕ
  pub high : ℕ
  pub start : ℕ
  pub end : ℕ

-- the key is one of the range's keys
pub record IsKeyOf (r : Range) (key : ℕ) : Type 0 where
  pub low : r.low ≤ key
  pub high : key < r.high

-- the key and the stamp lie in the range
pub record IsPoint (r : Range) (key stamp : ℕ) : Type 0 where
  pub low : r.low ≤ key
  pub high : key < r.high
  pub start : r.start ≤ stamp
  pub end : stamp < r.end

-- the key that is not reached; without one, the end of all keys
abbrev pub high_or : Option ℕ → ℕ
high_or None = key_end
high_or (Some high) = high

-- the stamp that is not reached; without one, the end of all stamps
abbrev pub end_or : Option ℕ → ℕ
end_or None = stamp_end
end_or (Some end) = end

-- bounds as a range
abbrev pub range_of : Bounds → Range
range_of b = record { low = b.low; high = high_or b.high; start = b.start; end = end_or b.end }

-- the range up to an earlier end
abbrev pub until : Range → ℕ → Range
until r at = record r { end = at }

-- the range from a later start on
abbrev pub since : Range → ℕ → Range
since r at = record r { start = at }

-- the range's keys below a key
abbrev pub below : Range → ℕ → Range
below r key = record r { high = key }

-- the range's keys from a key on
abbrev pub from_key : Range → ℕ → Range
from_key r key = record r { low = key }

-- the range starts before the stamp, or at the very beginning
abbrev pub StartsBefore : Range → ℕ → Type 0
StartsBefore r s = (r.start < s) ⊎ (r.start ≡ 0)
