-- A leaf in the unit in which nodes are written, and one whose times fit moments.
use Rattle.std.specs.Prelude.{◌≡◌, ◌<◌, ◌^◌, ℕ, List}
use Rattle.version_model.specs.Versions.{Version}
use Rattle.tsb_node.specs.Scaling.{scaled}
use Rattle.tsb_node.specs.Nodes.{unit_now}
use Rattle.tsb_node.specs.Leaves.{LeafNode, IsWrittenLeafPage}

-- the octets are the page of the leaf, written in this unit
pub record IsFreshLeafPage (leaf : LeafNode) (octets : List ℕ) : Type 0 where
  pub page : IsWrittenLeafPage leaf octets
  pub now : page.unit ≡ unit_now

-- the time of the version has eight octets once it is multiplied by k
abbrev pub StampFits : ℕ → Version → Type 0
StampFits k v = scaled k v.stamp < 256 ^ 16
