-- Where the tree stands, the leaf that a key comes to shows its versions.
use Rattle.std.proofs.Common.{◌≡◌, ℕ, ◌<◌, List, Result, Ok, Err, IfOk, sym, ap, subst, arith}
use Rattle.version_model.specs.declared.part.Part.{Part}
use Rattle.version_model.specs.Pages.{ColumnNode, CurrentLeaf, Store, current_range}
use Rattle.version_model.specs.Ranges.{stamp_end, high_or}
use Rattle.version_model.specs.LeafVersions.{LeafRepresents}
use Rattle.version_model.specs.Versions.{Version}
use Rattle.tsb_walk.specs.declared.error.NodeError.{NodeError}
use Rattle.tsb_walk.specs.declared.page_place.PagePlace.{PagePlace}
use Rattle.tsb_walk.specs.declared.page_steps.ColumnSpot.TheVariants.{InLeaf}
use Rattle.tsb_walk.specs.PageWays.{ComesToColumn}
use Rattle.tsb_walk.specs.Shown.{RepresentsNode, RepresentsShown, keys_at}
use Rattle.tsb_walk.specs.inner.PageSteps.{IsSpotOf}
use Rattle.tsb_walk.proofs.PageRepresenting.{column_shown}
use Rattle.tsb_node.specs.declared.column.Current.{Current}
use Rattle.tsb_runs.specs.declared.leaves.LeafAt.{LeafAt}
use Rattle.tsb_runs.specs.declared.live.Run.{Run}
use Rattle.tsb_runs.specs.Runs.{IsRun}
use Rattle.tsb_runs.specs.inner.LeavesAt.{IsLeafAt}
use Rattle.tsb_runs.proofs.LiveKeys.{live_shown}

module _ (shown : List (List ℕ)) (s : Store) (all : List Version) (root column : PagePlace) (key stamp : ℕ) (comes : ComesToColumn shown root key column) (st : RepresentsShown shown s all root) where
  pub no_column : ((parts : List Part) (start current : ℕ) → RepresentsNode shown column.page (ColumnNode (keys_at column) parts start current) → ⊥) → ⊥
  no_column never = (let c = column_shown shown s all root key column comes st in never c.parts c.start c.current c.column_represents)

  pub leaf_shown : (leaf : Current) → ((parts : List Part) (start current : ℕ) → RepresentsNode shown column.page (ColumnNode (keys_at column) parts start current) → IsSpotOf column parts start current key stamp (InLeaf leaf))
      → stamp < stamp_end → IsLeafAt shown all key stamp (record { column = column; leaf = leaf })
  leaf_shown leaf spot fits =
      let c = column_shown shown s all root key column comes st in
      let is = spot c.parts c.start c.current c.column_represents in
      record {
        versions = c.versions;
        represents_node = subst (λ (n : ℕ). RepresentsNode shown n (CurrentLeaf (keys_at column) leaf.start c.versions)) (sym is.1) (subst (λ (b : ℕ). RepresentsNode shown c.current (CurrentLeaf (keys_at column) b c.versions)) (sym is.0) c.leaf_represents);
        shows = subst (λ (b : ℕ). LeafRepresents all (current_range (keys_at column) b) c.versions) (sym is.0) c.shows;
        point = record { low = comes.has.low; high = comes.has.high; start = omega (arith, is.0, is.2); end = fits };
      }

-- a run in the leaf is one of all versions
pub run_shown : (shown : List (List ℕ)) (all : List Version) (key stamp : ℕ) (at : LeafAt) (run : Result Run NodeError) (l : IsLeafAt shown all key stamp at) → IfOk run (IsRun l.versions stamp key) → IfOk run (λ r. r.high ≡ at.column.high) → IfOk run (IsRun all stamp key)
run_shown shown all key stamp at (Ok run) l is high =
    live_shown all (current_range (keys_at at.column) at.leaf.start) l.versions l.shows stamp l.point.start l.point.end key (high_or run.high) run.rows.items l.point.low (omega (arith, ap high_or high)) is
run_shown shown all key stamp at (Err refusal) l is high = tt
