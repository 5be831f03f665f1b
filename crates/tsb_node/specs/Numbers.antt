-- Numbers in octets, in network order.
use Rattle.std.specs.Prelude.{ℕ, List, replicate, Option, Some, None}
use Rattle.byteorder.specs.Endian.{big_bytes}

-- a number in `size` octets
unfoldable pub octets_of : ℕ → ℕ → List ℕ
octets_of size n = big_bytes size n

-- a bound that may be missing: each octet is FF if there is none
unfoldable pub bound_octets : ℕ → Option ℕ → List ℕ
bound_octets size None = replicate size 255
bound_octets size (Some n) = octets_of size n
