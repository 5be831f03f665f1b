-- A node that takes a version and stays one.
use Rattle.std.specs.Prelude.{ℕ, ◌≤◌, List}
use Rattle.version_model.specs.Versions.{Version, IsAbove, Adds}
use Rattle.version_model.specs.Ranges.{IsKeyOf}
use Rattle.version_model.specs.Blocks.{Grows}
use Rattle.version_model.specs.Pages.{Keys, Store, NodeRepresentsIn, current_range}
use Rattle.version_model.specs.Inserts.{KeepsOthers}

-- the node takes the version, and nothing outside its keys is changed
pub record Inserts (s t : Store) (v : Version) (level page : ℕ) : Type 0 where
  pub grows : Grows s.blocks t.blocks
  pub next_grows : s.next ≤ t.next
  pub limit_grows : s.limit ≤ t.limit
  pub represents_all : (all new : List Version) (keys : Keys) → IsKeyOf (current_range keys 0) v.key → IsAbove all v.stamp → Adds all v new → NodeRepresentsIn s all level keys page → NodeRepresentsIn t new level keys page
  pub others : (all : List Version) (keys : Keys) → NodeRepresentsIn s all level keys page → KeepsOthers s.nodes t.nodes s.limit level keys
