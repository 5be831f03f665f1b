-- The tree of an archive, by what its pages and the settled blocks of a disk represent.
use Rattle.std.specs.Prelude.{◌≡◌, ◌<◌, ◌≤◌, ℕ, List, Some, None}
use Rattle.version_model.specs.Versions.{Version}
use Rattle.version_model.specs.Blocks.{BlockNode}
use Rattle.version_model.specs.Pages.{Store}
use Rattle.tsb_node.specs.Views.{BlockRepresents}
use Rattle.tsb_walk.specs.Shown.{RepresentNodes}
use Rattle.tsb_tree.specs.Trees.{TreeHas}

-- on a disk of `count` blocks the one with this number is settled, and its octets represent this node
pub record IsBlock (count : ℕ) (settled : ℕ → List ℕ → Type 0) (n : ℕ) (node : BlockNode) : Type 0 where
  pub inside : n < count
  pub octets : List ℕ
  pub here : settled n octets
  pub represents_node : BlockRepresents octets node

-- A tree with this root lies on these pages, none of which is before `low`, and in settled blocks of a disk of `count` blocks. It uses no
-- page from `fresh` on and no block from `block` on, and represents these versions; a version to come may have this stamp, and none below it.
pub record TreeLocated (count : ℕ) (pages : List (List ℕ)) (settled : ℕ → List ℕ → Type 0) (low root fresh block next_stamp : ℕ) (versions : List Version) : Type 0 where
  pub level : ℕ
  pub store : Store
  pub represents_node : RepresentNodes pages store.nodes
  pub own : (page : ℕ) → page < low → store.nodes page ≡ None
  pub limit : store.limit ≡ fresh
  pub blocks : (n : ℕ) (node : BlockNode) → store.blocks n ≡ Some node → IsBlock count settled n node
  pub next : store.next ≤ block
  pub has : TreeHas store versions root level next_stamp
