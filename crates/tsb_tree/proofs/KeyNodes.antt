-- Key nodes in memory are such that pages can have them.
use Rattle.std.proofs.Common.{◌≡◌, ℕ, suc, ◌+◌, ◌^◌, ◌<◌, List, Option, Some, None, slice_get, arith}
use Rattle.std.specs.List.{insert, AllByRecursion}
use Rattle.std.specs.Option.{IfSome}
use Rattle.version_model.specs.declared.bounds.Bounds.{Bounds}
use Rattle.version_model.specs.declared.child.Child.{Child}
use Rattle.version_model.specs.Pages.{KeyNode}
use Rattle.tsb_node.specs.declared.decoded_key_node.DecodedKeyNode.{DecodedKeyNode}
use Rattle.tsb_node.specs.KeyNodes.{IsKeyNode, IsKeyNodePage, lows_of}
use Rattle.tsb_node.specs.Columns.{AreAscending}
use Rattle.tsb_node.specs.Decoded.{decoded_key_node}
use Rattle.tsb_node.specs.Views.{PageRepresents, represents_key_node, keys_between}
use Rattle.tsb_node.proofs.api.Writing.{key_node_can}
use Rattle.tsb_tree.specs.KeyNodes.{BeginsAfter, IsWide, AreKeyHalves}
use Rattle.tsb_tree.proofs.Representing.{each_get}
use Rattle.tsb_tree.proofs.KeyLists.{insert_each, insert_first, insert_rises, drop_each, take_rises, drop_rises, take_below, take_first, drop_first, first_below, rises_next}

-- what is read from a page
pub wide_of : (decoded : DecodedKeyNode) → IsKeyNode (decoded_key_node decoded) → IsWide decoded
wide_of decoded is =
    let can = key_node_can (decoded_key_node decoded) is in
    record { lowest = can.lowest; highest = can.highest; high = can.bounds.high; each = can.each; first = can.first; rising = can.rising }

-- bounds of a key node's keys, at all stamps
pub record AreBoundsOf (node : DecodedKeyNode) (b : Bounds) : Type 0 where
  pub low : b.low ≡ node.bounds.low
  pub high : b.high ≡ node.bounds.high
  pub start : b.start ≡ 0
  pub current : b.end ≡ None

pub key_node_represents : (node : DecodedKeyNode) (b : Bounds) (children : List Child) (octets : List ℕ) → AreBoundsOf node b → children ≡ node.children.items → IsKeyNodePage (record { level = node.level; bounds = b; children = children }) octets → PageRepresents octets (KeyNode node.level (keys_between node.bounds) node.children.items)
key_node_represents node b children octets are same is =
    let represents_node : PageRepresents octets (KeyNode node.level (keys_between b) children) = represents_key_node (record { level = node.level; bounds = b; children = children }) is in
    rw (← same, ← are.low, ← are.high) represents_node

-- a node with a child more
pub wide_put : (node put : DecodedKeyNode) (i : ℕ) (new : Child) → IsWide node → BeginsAfter node.children.items i new.low → IfSome node.bounds.high (λ n. new.low < n) → put.level ≡ node.level → put.bounds.low ≡ node.bounds.low → put.bounds.high ≡ node.bounds.high
    → put.children.items ≡ insert node.children.items (suc i) new → IsWide put
wide_put node put i new wide beyond lt level low high same = record {
  lowest = rw level wide.lowest;
  highest = rw level wide.highest;
  high = rw (high, low) wide.high;
  each = rw (high, same) (insert_each (λ c. IfSome node.bounds.high (λ n. c.low < n)) node.children.items (suc i) new wide.each lt);
  first = rw (low, same) (insert_first node.bounds.low node.children.items i new beyond.child beyond.at wide.first);
  rising = rw same (insert_rises node.children.items i new wide.rising beyond);
}

module _ (node front back : DecodedKeyNode) (wide : IsWide node) (halves : AreKeyHalves node front back) where
  -- the first half of a node
  pub wide_front : halves.mid.low + 1 < 256 ^ 40 → IsWide front
  wide_front fits = record {
    lowest = rw halves.front_level wide.lowest;
    highest = rw halves.front_level wide.highest;
    high = rw (halves.front_high, halves.front_low) (fits, first_below node.bounds.low node.children.items halves.place halves.mid halves.some wide.rising wide.first halves.at);
    each = rw (halves.front_high, halves.front_children) (take_below node.children.items halves.place halves.mid wide.rising halves.at);
    first = rw (halves.front_low, halves.front_children) (take_first node.bounds.low node.children.items halves.place halves.some wide.first);
    rising = rw halves.front_children (take_rises node.children.items halves.place wide.rising);
  }

  -- and the second one
  pub wide_back : IsWide back
  wide_back = record {
    lowest = rw halves.back_level wide.lowest;
    highest = rw halves.back_level wide.highest;
    high = rw (halves.back_high, halves.back_low) (high_of node.bounds.high wide.high (each_at node.children.items halves.place wide.each halves.at));
    each = rw (halves.back_high, halves.back_children) (drop_each (λ c. IfSome node.bounds.high (λ n. c.low < n)) node.children.items halves.place wide.each);
    first = rw (halves.back_low, halves.back_children) (drop_first node.children.items halves.place halves.mid halves.at);
    rising = rw halves.back_children (drop_rises node.children.items halves.place wide.rising);
  }
    where
      high_of : (high : Option ℕ) → IfSome high (λ n. (n + 1 < 256 ^ 40) × (node.bounds.low < n)) → IfSome high (λ n. halves.mid.low < n) → IfSome high (λ n. (n + 1 < 256 ^ 40) × (halves.mid.low < n))
      high_of None a b = tt
      high_of (Some n) a b = (a.0, b)

      each_at : (cs : List Child) (n : ℕ) → AllByRecursion (λ c. IfSome node.bounds.high (λ n. c.low < n)) cs → slice_get cs n ≡ Some halves.mid → IfSome node.bounds.high (λ n. halves.mid.low < n)
      each_at cs n all at = each_get (λ c. IfSome node.bounds.high (λ n. c.low < n)) cs n halves.mid all at

-- above the lowest key of a child that another one follows there is one more key
pub mid_fits : (cs : List Child) (n : ℕ) (mid next : Child) → AreAscending (lows_of cs) → slice_get cs n ≡ Some mid → slice_get cs (suc n) ≡ Some next → next.low < 256 ^ 40 → mid.low + 1 < 256 ^ 40
mid_fits cs n mid next up at at' fits = (let h = rises_next cs n mid next up at at' in omega (arith, h, fits))
