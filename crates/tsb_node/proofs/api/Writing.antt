-- What is read can be written.
use Rattle.std.proofs.Common.{◌<◌, List, [], ◌∷◌, None}
use Rattle.std.specs.List.{AllByRecursion}
use Rattle.std.specs.Option.{IfSome}
use Rattle.version_model.specs.declared.bounds.Bounds.{Bounds}
use Rattle.version_model.specs.declared.child.Child.{Child}
use Rattle.version_model.specs.Versions.{Version}
use Rattle.tsb_node.specs.Nodes.{IsBounds, AreInOrder}
use Rattle.tsb_node.specs.Leaves.{LeafNode, IsLeaf, CanBeLeaf, IsVersionOf, IsShortOf}
use Rattle.tsb_node.specs.Columns.{ColumnInPage, ColumnInBlock, IsColumn, IsOldColumn, CanBeColumn, CanBeOldColumn}
use Rattle.tsb_node.specs.KeyNodes.{KeyNodeInPage, IsKeyNode, CanBeKeyNode, IsChildEntry}

pub bounds_can : (b : Bounds) → IsBounds b → AreInOrder b
bounds_can b is = is.order

-- the bounds without their end
abbrev pub opened : Bounds → Bounds
opened b = record { low = b.low; high = b.high; start = b.start; end = None }

shorts : (b : Bounds) (vs : List Version) → AllByRecursion (IsVersionOf b) vs → AllByRecursion (IsShortOf b) vs
shorts b [] all = tt
shorts b (v ∷ vs) all = (all.0.short, shorts b vs all.1)

opened_shorts : (b : Bounds) (vs : List Version) → AllByRecursion (IsVersionOf b) vs → AllByRecursion (IsShortOf (opened b)) vs
opened_shorts b [] all = tt
opened_shorts b (v ∷ vs) all = (record { low = all.0.short.low; high = all.0.short.high; size = all.0.short.size }, opened_shorts b vs all.1)

pub leaf_can : (leaf : LeafNode) → IsLeaf leaf → CanBeLeaf leaf
leaf_can leaf is = record { bounds = is.bounds.order; each = shorts leaf.bounds leaf.versions is.each; rising = is.rising; fits = is.fits }

pub opened_leaf_can : (leaf : LeafNode) → IsLeaf leaf → CanBeLeaf (record { bounds = opened leaf.bounds; versions = leaf.versions })
opened_leaf_can leaf is = record { bounds = record { high = is.bounds.order.high; end = tt }; each = opened_shorts leaf.bounds leaf.versions is.each; rising = is.rising; fits = is.fits }

pub column_can : (c : ColumnInPage) → IsColumn c → CanBeColumn c
column_can c is = record { bounds = is.bounds.order; follow = is.follow }

pub old_column_can : (c : ColumnInBlock) → IsOldColumn c → CanBeOldColumn c
old_column_can c is = record { bounds = is.bounds.order; follow = is.follow }

pub key_node_can : (k : KeyNodeInPage) → IsKeyNode k → CanBeKeyNode k
key_node_can k is = record {
  lowest = is.lowest;
  highest = is.highest;
  bounds = is.bounds.order;
  from_first = is.from_first;
  each = below k.children is.each;
  first = is.first;
  rising = is.rising;
  fits = is.fits;
}
  where
    below : (cs : List Child) → AllByRecursion (IsChildEntry k.bounds) cs → AllByRecursion (λ c. IfSome k.bounds.high (λ n. c.low < n)) cs
    below [] all = tt
    below (c ∷ cs) all = (all.0.high, below cs all.1)
