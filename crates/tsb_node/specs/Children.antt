-- The child of a key node under which a key lies.
use Rattle.std.specs.Prelude.{◌≡◌, ℕ, suc, ◌≤◌, ◌<◌, List, ◌++◌, slice_get, Option, Some, None, IfSome}
use Rattle.version_model.specs.declared.bounds.Bounds.{Bounds}
use Rattle.version_model.specs.declared.child.Child.{Child}
use Rattle.tsb_node.specs.declared.key_node.Under.{Under}
use Rattle.tsb_node.specs.Scaling.{IsKnownUnit}
use Rattle.tsb_node.specs.KeyNodes.{KeyNodeInPage, IsKeyNode, key_node_body}

-- the octets begin as the page of the key node does, of some unit
pub record BeginsAsWrittenKeyNode (node : KeyNodeInPage) (octets : List ℕ) : Type 0 where
  pub unit : ℕ
  pub valid : IsKeyNode node
  pub last : List ℕ
  pub encoded : octets ≡ key_node_body unit node ++ last

-- the octets begin as the page of the key node does
pub record BeginsAsKeyNode (node : KeyNodeInPage) (octets : List ℕ) : Type 0 where
  pub begins : BeginsAsWrittenKeyNode node octets
  pub known : IsKnownUnit begins.unit
  pub valid : IsKeyNode node

-- the key lies between the bounds
pub record IsKeyWithin (b : Bounds) (key : ℕ) : Type 0 where
  pub low : b.low ≤ key
  pub high : IfSome b.high (λ n. key < n)

-- up to where the keys of a child go: to the lowest of the next one, or to the node's high key
abbrev pub high_of : Option ℕ → Option Child → Option ℕ
high_of high None = high
high_of high (Some next) = Some next.low

-- the child, with its keys, under which the key lies
pub record IsUnder (node : KeyNodeInPage) (key : ℕ) (under : Under) : Type 0 where
  pub place : ℕ
  pub at : slice_get node.children place ≡ Some (record { low = under.low; page = under.page })
  pub to_high : under.high ≡ high_of node.bounds.high (slice_get node.children (suc place))
  pub low : under.low ≤ key
  pub high : IfSome under.high (λ n. key < n)
