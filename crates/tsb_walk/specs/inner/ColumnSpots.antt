-- Where the column to which the path of a key comes has it.
use Rattle.std.specs.Prelude.{ℕ, List}
use Rattle.tsb_walk.specs.declared.page_looks.ColumnAt.{ColumnAt}
use Rattle.tsb_walk.specs.declared.page_place.PagePlace.{PagePlace}
use Rattle.tsb_walk.specs.declared.page_steps.ColumnSpot.{ColumnSpot}
use Rattle.tsb_walk.specs.Shown.{RepresentsNode, keys_at}
use Rattle.tsb_walk.specs.PageWays.{ComesToColumn}
use Rattle.tsb_walk.specs.inner.PageSteps.{IsSpotOf}
use Rattle.version_model.specs.declared.part.Part.{Part}
use Rattle.version_model.specs.Pages.{ColumnNode}

-- if the page represents a column of the place's keys, that is where it has the key and the stamp
abbrev pub IsSpotAt : List (List ℕ) → PagePlace → ℕ → ℕ → ColumnSpot → Type 0
IsSpotAt shown column key stamp spot =
    (parts : List Part) (start current : ℕ) → RepresentsNode shown column.page (ColumnNode (keys_at column) parts start current) → IsSpotOf column parts start current key stamp spot

-- the path of the key comes to the column, and that is where it has the key and the stamp
pub record IsThere (shown : List (List ℕ)) (root : PagePlace) (key stamp : ℕ) (at : ColumnAt) : Type 0 where
  pub comes : ComesToColumn shown root key at.column
  pub spot : IsSpotAt shown at.column key stamp at.spot
