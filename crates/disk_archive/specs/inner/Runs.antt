-- Changes that one leaf takes in memory.
use Rattle.std.specs.Prelude.{◌≡◌, ℕ, List, slice_set}
use Rattle.tsb_tree.specs.declared.leaf_opening.OpenLeaf.{OpenLeaf}
use Rattle.tsb_tree.specs.OpenLeaves.{IsOpen}

-- These pages are those that are shown, with the image of the open leaf over its page, to which they lead from the root of a tree.
pub record WithLeaf (shown : List (List ℕ)) (root : ℕ) (leaf : OpenLeaf) (pages : List (List ℕ)) : Type 0 where
  pub laid : pages ≡ slice_set shown leaf.page leaf.image
  pub is_open : IsOpen pages root leaf
