-- What the current leaf of a column shows.
use Rattle.std.specs.Prelude.{ℕ, List}
use Rattle.tsb_runs.specs.declared.leaves.LeafAt.{LeafAt}
use Rattle.tsb_walk.specs.Shown.{RepresentsNode, keys_at}
use Rattle.version_model.specs.Pages.{CurrentLeaf, current_range}
use Rattle.version_model.specs.Ranges.{IsPoint}
use Rattle.version_model.specs.LeafVersions.{LeafRepresents}
use Rattle.version_model.specs.Versions.{Version}

-- the page represents the column's current leaf, which shows these versions in its range, and the key and the stamp lie in it
pub record IsLeafAt (shown : List (List ℕ)) (all : List Version) (key stamp : ℕ) (at : LeafAt) : Type 0 where
  pub versions : List Version
  pub represents_node : RepresentsNode shown at.leaf.page (CurrentLeaf (keys_at at.column) at.leaf.start versions)
  pub shows : LeafRepresents all (current_range (keys_at at.column) at.leaf.start) versions
  pub point : IsPoint (current_range (keys_at at.column) at.leaf.start) key stamp
