-- How far a walk over stamps may still go.
use Rattle.std.specs.Prelude.{ℕ, suc, ◌-◌, ◌^◌, Option, Some, None}

-- how many stamps there are from here on, and one more; none once the walk is over
abbrev pub stamps_left : Option ℕ → ℕ
stamps_left None = 0
stamps_left (Some at) = suc (2 ^ 128 - at)
