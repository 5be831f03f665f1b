-- The number in a field of a node.
use Rattle.std.specs.Prelude.{ℕ, List, take, drop}
use Rattle.route_model.specs.Keys.{number_of}

-- the number in the `size` octets from the place on
abbrev pub number_in : ℕ → ℕ → List ℕ → ℕ
number_in size place octets = number_of (take size (drop place octets))
