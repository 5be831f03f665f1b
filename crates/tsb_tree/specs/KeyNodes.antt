-- Key nodes that take a child, and are split.
use Rattle.std.specs.Prelude.{◌≡◌, ℕ, suc, ◌+◌, ◌^◌, ◌<◌, ◌≤◌, List, length, take, drop, slice_get, Some, IfSome}
use Rattle.std.specs.List.{AllByRecursion}
use Rattle.version_model.specs.declared.child.Child.{Child}
use Rattle.tsb_node.specs.declared.decoded_key_node.DecodedKeyNode.{DecodedKeyNode}
use Rattle.tsb_node.specs.Columns.{BeginsAt, AreAscending}
use Rattle.tsb_node.specs.KeyNodes.{lows_of}

-- a key is among those of the child at a place, above the lowest of them, by the children that there are
pub record BeginsAfter (children : List Child) (place key : ℕ) : Type 0 where
  pub child : Child
  pub at : slice_get children place ≡ Some child
  pub above : child.low < key
  pub below : (next : Child) → slice_get children (suc place) ≡ Some next → key < next.low

-- a key node of a page, but for the room that its children take
pub record IsWide (node : DecodedKeyNode) : Type 0 where
  pub lowest : 2 ≤ node.level
  pub highest : node.level ≤ 7
  pub high : IfSome node.bounds.high (λ n. (n + 1 < 256 ^ 40) × (node.bounds.low < n))
  pub each : AllByRecursion (λ c. IfSome node.bounds.high (λ n. c.low < n)) node.children.items
  pub first : BeginsAt node.bounds.low (lows_of node.children.items)
  pub rising : AreAscending (lows_of node.children.items)

-- The children of a node go to two nodes, and the second one begins where the first one ends. Both have room.
pub record AreKeyHalves (node front back : DecodedKeyNode) : Type 0 where
  pub place : ℕ
  pub mid : Child
  pub at : slice_get node.children.items place ≡ Some mid
  pub some : 0 < place
  pub front_level : front.level ≡ node.level
  pub front_low : front.bounds.low ≡ node.bounds.low
  pub front_high : front.bounds.high ≡ Some mid.low
  pub front_children : front.children.items ≡ take place node.children.items
  pub front_few : length front.children.items ≤ 338
  pub back_level : back.level ≡ node.level
  pub back_low : back.bounds.low ≡ mid.low
  pub back_high : back.bounds.high ≡ node.bounds.high
  pub back_children : back.children.items ≡ drop place node.children.items
  pub back_few : length back.children.items ≤ 338
