-- Stamps of changes: a time, and a number in the order of application.
use Rattle.std.specs.Prelude.{ℕ, ◌*◌, ◌+◌, ◌-◌, ◌^◌}

-- how many changes can be distinguished by their number
abbrev pub orders : ℕ
orders = 2 ^ 64

-- the stamp of a time and a number
abbrev pub stamp_of : ℕ → ℕ → ℕ
stamp_of time order = time * orders + order

-- the greatest stamp of a moment
abbrev pub last_stamp : ℕ → ℕ
last_stamp moment = stamp_of moment (orders - 1)
