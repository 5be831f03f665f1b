-- The keys of one peer among all keys, as numbers.
use Rattle.std.specs.Prelude.{ℕ, ◌+◌, ◌-◌, ◌*◌, ◌/◌, ◌^◌, [], ◌∷◌, ◌++◌}
use Rattle.route_model.specs.Address.{family, wide}
use Rattle.route_model.specs.Prefix.{IpPrefix}
use Rattle.route_model.specs.Keys.{number_of}

-- how many keys a peer has: those of eighteen octets
abbrev pub peer_span : ℕ
peer_span = 2 ^ 144

-- the first key of the peer among whose keys this one stands: that of its session
abbrev pub first_key : ℕ → ℕ
first_key n = n / peer_span * peer_span

-- the last key of that peer
abbrev pub last_key : ℕ → ℕ
last_key n = first_key n + (peer_span - 1)

-- where a prefix stands among a peer's keys
abbrev pub tail : IpPrefix → ℕ
tail x = number_of (family x.address ∷ wide x.address ++ x.length ∷ [])
