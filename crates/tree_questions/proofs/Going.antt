-- Each look leaves less of a walk.
use Rattle.std.proofs.Common.{ℕ, ◌<◌, ◌≤◌, ◌^◌, Option, Some, None, arith}
use Rattle.route_history.specs.Walks.{Rose, NotBack, left_of}
use Rattle.tree_questions.specs.inner.Left.{stamps_left}

-- the walk went on from a key that isn't before the front
pub less_keys : (f g : Option ℕ) (from : ℕ) → NotBack f (Some from) → Rose (Some from) g → from < 256 ^ 40 → left_of g < left_of f
less_keys None g from n r fits = absurd n
less_keys (Some a) None from n r fits = omega arith
less_keys (Some a) (Some b) from n r fits = let le : a ≤ from = n in let lt : from < b = r in omega (arith, le, lt, fits)

-- the walk over stamps went on
pub less_stamps : (at : ℕ) (g : Option ℕ) → Rose (Some at) g → at < 256 ^ 16 → stamps_left g < stamps_left (Some at)
less_stamps at None r fits = omega arith
less_stamps at (Some b) r fits = let lt : at < b = r in omega (arith, lt, fits)
