-- How far a walk over the keys has come.
use Rattle.std.specs.Prelude.{ℕ, suc, cond, Option, Some, None}
use Rattle.route_history.specs.declared.front.Front.{Front}

-- the least key that is not yet looked at: a key, or the one after it
abbrev pub number_at : Front → ℕ
number_at f = cond f.passed (suc f.key) f.key

-- the same, or None once the walk is over
abbrev pub front_number : Option Front → Option ℕ
front_number None = None
front_number (Some f) = Some (number_at f)
