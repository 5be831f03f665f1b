-- The split of a leaf by key.
use Rattle.std.specs.Prelude.{ℕ, List}
use Rattle.version_model.specs.declared.bounds.Bounds.{Bounds}
use Rattle.version_model.specs.Versions.{Version, Has}
use Rattle.tsb_node.specs.Leaves.{LeafNode, IsLeafPage}
use Rattle.tsb_node.specs.Children.{IsKeyWithin}

-- exactly those of the versions whose keys lie between the bounds
pub record IsSide (b : Bounds) (versions side : List Version) : Type 0 where
  pub is_in : (v : Version) → Has side v → Has versions v
  pub only : (v : Version) → Has side v → IsKeyWithin b v.key
  pub each : (v : Version) → Has versions v → IsKeyWithin b v.key → Has side v

-- the octets are the page of a leaf of these bounds, with exactly those of the leaf's versions whose keys lie between them
pub record IsSidePage (leaf : LeafNode) (b : Bounds) (octets : List ℕ) : Type 0 where
  pub versions : List Version
  pub side : IsSide b leaf.versions versions
  pub page : IsLeafPage (record { bounds = b; versions = versions }) octets
