-- What lookups of the next key, and of the versions of a key, return.
use Rattle.std.specs.Prelude.{◌≡◌, ℕ, suc, ◌<◌, ◌≤◌, ◌&&◌, Bool, List, Option, Some, None, filter, nat_eq, nat_le, nat_lt}
use Rattle.version_model.specs.Versions.{Version, Found, Answers}
use Rattle.version_model.specs.Ranges.{key_end, end_or}

-- no key from `from` on and below `to` has a value as of the stamp
abbrev pub NoneWithin : List Version → ℕ → ℕ → ℕ → Type 0
NoneWithin versions s from to = (key : ℕ) → from ≤ key → key < to → Answers versions key s None

-- the key has a value as of the stamp
abbrev pub IsLive : List Version → ℕ → ℕ → Type 0
IsLive versions s key = (found : Found) × Answers versions key s (Some found)

-- the least key from `from` on, itself included, that has a value as of the stamp; none if no key has
abbrev pub IsLeastLive : List Version → ℕ → ℕ → Option ℕ → Type 0
IsLeastLive versions s from None = (key : ℕ) → from ≤ key → Answers versions key s None
IsLeastLive versions s from (Some least) = (from ≤ least) × IsLive versions s least × NoneWithin versions s from least

-- what a lookup of the next key returns: a key and what it has; or a higher key up to which none has a value; or that none has
pub data Reached : Type 0 where
  At : (key : ℕ) (found : Found) → Reached
  Past : (high : ℕ) → Reached
  End : Reached

-- from a key on, itself included, as of the stamp: the least key that has a value, with that value; or none below the higher key that is returned; or none at
-- all
abbrev pub IsReached : List Version → ℕ → ℕ → Reached → Type 0
IsReached versions s from (At key found) = (from ≤ key) × Answers versions key s (Some found) × NoneWithin versions s from key
IsReached versions s from (Past high) = (from < high) × NoneWithin versions s from high
IsReached versions s from End = NoneWithin versions s from key_end

-- the keys below this one are covered by the result
abbrev pub reached_to : Reached → ℕ
reached_to (At key found) = suc key
reached_to (Past high) = high
reached_to End = key_end

-- is it of this key, from this stamp on and before that one?
abbrev pub is_of : ℕ → ℕ → ℕ → Version → Bool
is_of key from to v = nat_eq v.key key && (nat_le from v.stamp && nat_lt v.stamp to)

-- exactly the versions of the key from a stamp on and before the greater one that is returned, in their order; if none is returned, all from that stamp on
pub record IsPart (all : List Version) (key from : ℕ) (versions : List Version) (reported : Option ℕ) : Type 0 where
  pub above : from < end_or reported
  pub are : versions ≡ filter (is_of key from (end_or reported)) all
