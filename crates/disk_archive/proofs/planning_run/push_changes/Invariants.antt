use Rattle.std.proofs.Common.{◌≡◌, ◌∷◌, ℕ, List, length, false}
use Rattle.disk_models.specs.Once.{OnceState, settled_in}
use Rattle.route_model.specs.Admission.{Admitted}
use Rattle.route_meaning.specs.Merged.{Placed, placed}
use Rattle.route_meaning.specs.History.{History, IsBelowMarks, waiting}
use Rattle.archive_pages.specs.Represented.{HeadRepresents}
use Rattle.disk_archive.specs.Trees.{TreeLocated}
use Rattle.disk_archive.specs.inner.Applications.{MovesOn}
use Rattle.disk_archive.specs.inner.Runs.{WithLeaf}
use Rattle.disk_archive.proofs.planning_run.push_changes.Given as goal

abbrev pub invariant-loop : goal.invariant-loop
invariant-loop l = record {
  moves : (count : ℕ) (o : OnceState) (under pages : List (List ℕ)) (h : History) (later : List (Placed Admitted)) → WithLeaf under l.fn.head.root l.fn.leaf pages
      → HeadRepresents (TreeLocated count) l.settings (settled_in o) l.fn.head pages h → waiting h ≡ placed l.collector l.admission ∷ later → IsBelowMarks h l.admission.time
      → MovesOn count l.settings (settled_in o) (WithLeaf under l.fn.head.root l.leaf) l.head l.whole h;
  stays : l.whole ≡ false → l.head.lanes ≡ l.fn.head.lanes;
  lanes : length l.head.lanes ≡ length l.fn.head.lanes;
  fresh : l.head.fresh ≡ l.fn.head.fresh;
  block : l.head.block ≡ l.fn.head.block;
  root : l.head.root ≡ l.fn.head.root;
  page : l.leaf.page ≡ l.fn.leaf.page;
}
