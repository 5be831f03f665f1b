-- What versions take in a leaf, and the key at which a leaf is split.
use Rattle.std.specs.Prelude.{◌≡◌, ℕ, ◌+◌, ◌<◌, ◌≤◌, List, [], ◌∷◌, length, Option, Some, None, slice_get, cond, nat_lt}
use Rattle.version_model.specs.Versions.{Version, Has}

-- the octets of a value; an end has none
abbrev pub value_octets : Option (List ℕ) → ℕ
value_octets None = 0
value_octets (Some value) = length value

-- the octets of a leaf's entry: key 40, stamp 16, whether it is a value 1, length 2, and the value
abbrev pub entry_octets : Version → ℕ
entry_octets v = 59 + value_octets v.value

-- the sum of a number of each version
abbrev pub total : (Version → ℕ) → List Version → ℕ
total f [] = 0
total f (v ∷ vs) = f v + total f vs

-- the octets of a leaf's entries
abbrev pub octets : List Version → ℕ
octets vs = total entry_octets vs

-- the octets of an entry where it is of a key below this one, and else 0
abbrev pub entry_octets_below : ℕ → Version → ℕ
entry_octets_below key v = cond (nat_lt v.key key) (entry_octets v) 0

-- the octets of a leaf's entries of keys below this one
abbrev pub octets_below : ℕ → List Version → ℕ
octets_below key vs = total (entry_octets_below key) vs

-- each version of a key below this one has fewer octets than `least` below its own key
pub record FewBelow (vs : List Version) (least key : ℕ) : Type 0 where
  pub few : (v : Version) → Has vs v → v.key < key → octets_below v.key vs < least

-- where a leaf is split by key: the least key of a version that has `least` octets below it; none if no version has
abbrev pub IsSplitPoint : List Version → ℕ → Option ℕ → Type 0
IsSplitPoint vs least None = (key : ℕ) → FewBelow vs least key
IsSplitPoint vs least (Some key) = (least ≤ octets_below key vs) × FewBelow vs least key × ((v : Version) × Has vs v × (v.key ≡ key))

-- no key has two versions
pub record IsSingle (vs : List Version) : Type 0 where
  pub one : (i j : ℕ) (v w : Version) → i < j → slice_get vs i ≡ Some v → slice_get vs j ≡ Some w → v.key ≡ w.key → ⊥

-- each entry has at most this many octets
pub record AreSmall (vs : List Version) (most : ℕ) : Type 0 where
  pub small : (v : Version) → Has vs v → entry_octets v ≤ most
