-- Leaves that take versions in memory.
use Rattle.std.specs.Prelude.{◌≡◌, ℕ, ◌<◌, List, Option, None, slice_get, slice_set}
use Rattle.tsb_walk.specs.declared.page_place.PagePlace.{PagePlace}
use Rattle.tsb_walk.specs.PageWays.{IsLower}
use Rattle.tsb_walk.specs.Shown.{RepresentNodes, keys_at}
use Rattle.version_model.specs.Pages.{PageNode, Store, all_keys}
use Rattle.version_model.specs.Versions.{Version}
use Rattle.tsb_tree.specs.declared.leaf_opening.OpenLeaf.{OpenLeaf}
use Rattle.tsb_tree.specs.Read.{IsLeafOf}
use Rattle.tsb_tree.specs.Trees.{TreeHas}

-- The pages lead from one place down to another, from key node to child.
pub data LeafWay (shown : List (List ℕ)) (first : PagePlace) : PagePlace → Type 0 where
  way_here : LeafWay shown first first
  way_on : (place next : PagePlace) (key : ℕ) → LeafWay shown first place → 1 < place.level → IsLower shown key place next → LeafWay shown first next

-- The pages lead from the root of a tree to the column of the open leaf, whose page is shown with this image.
pub record IsOpen (shown : List (List ℕ)) (root : ℕ) (leaf : OpenLeaf) : Type 0 where
  pub first : PagePlace
  pub page_is : first.page ≡ root
  pub keys_are : keys_at first ≡ all_keys
  pub way : LeafWay shown first leaf.column
  pub lowest : leaf.column.level ≡ 1
  pub of : IsLeafOf shown leaf.column leaf.page leaf.image

-- With the open leaf's image laid over its page, the tree with this root represents these versions. A page that represented nothing
-- represents nothing then, and is shown as it was.
pub record TakesInLeaf (shown : List (List ℕ)) (s : Store) (all : List Version) (root level least : ℕ) (leaf : OpenLeaf) : Type 0 where
  pub nodes : ℕ → Option PageNode
  pub reports : RepresentNodes (slice_set shown leaf.page leaf.image) nodes
  pub has : TreeHas (record { nodes = nodes; limit = s.limit; blocks = s.blocks; next = s.next }) all root level least
  pub silent : (page : ℕ) → s.nodes page ≡ None → nodes page ≡ None
  pub others : (page : ℕ) → s.nodes page ≡ None → slice_get (slice_set shown leaf.page leaf.image) page ≡ slice_get shown page
