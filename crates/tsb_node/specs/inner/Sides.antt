-- The side of a leaf, as it is copied.
use Rattle.std.specs.Prelude.{ℕ, ◌&&◌, not, nat_lt, Bool, true, filter, Option, Some, None}
use Rattle.version_model.specs.declared.bounds.Bounds.{Bounds}
use Rattle.tsb_node.specs.Leaves.{LeafNode}

-- whether the key is below a high key, if there is one
abbrev pub is_below : Option ℕ → ℕ → Bool
is_below None key = true
is_below (Some n) key = nat_lt key n

-- whether a key lies between the bounds
abbrev pub located_within : Bounds → ℕ → Bool
located_within b key = not (nat_lt key b.low) && is_below b.high key

-- the versions of the keys between the bounds
abbrev pub side_of : LeafNode → Bounds → LeafNode
side_of leaf b = record { bounds = b; versions = filter (λ v. located_within b v.key) leaf.versions }
