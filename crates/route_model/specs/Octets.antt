-- Octets: numbers among them, and the unique encoding of a value.
use Rattle.std.specs.Prelude.{◌≡◌, ℕ, ◌<◌, List, drop, slice_index}
use Rattle.byteorder.specs.Endian.{big_number}

-- each of the list is an octet
abbrev pub AreOctets : List ℕ → Type 0
AreOctets octets = (i : ℕ) → slice_index octets i < 256

-- the number in the size octets from the place on, in network order: the first is the highest
abbrev pub number_at : ℕ → ℕ → List ℕ → ℕ
number_at size place octets = big_number size (drop place octets)

-- the octets are the unique encoding of a value of its type
pub record Encodes {A : Type 0} (IsValue : A → Type 0) (encoding : A → List ℕ) (value : A) (octets : List ℕ) : Type 0 where
  pub valid : IsValue value
  pub encoded : octets ≡ encoding value
