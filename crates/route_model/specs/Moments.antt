-- Moments and marks are numbers of microseconds since 1970-01-01T00:00:00Z, within these ranges.
use Rattle.std.specs.Prelude.{ℕ, ◌≤◌}

-- how many microseconds a second is
abbrev pub micros_a_second : ℕ
micros_a_second = 1000000

-- the last moment: the last microsecond of the last second that the Timestamp of an MRT record can say (RFC 6396 section 2)
abbrev pub latest_moment : ℕ
latest_moment = 4294967295999999

-- the last mark, above every moment
abbrev pub last_mark : ℕ
last_mark = 4294967296000000

-- the number of a moment, in microseconds
abbrev pub IsMoment : ℕ → Type 0
IsMoment n = n ≤ latest_moment
