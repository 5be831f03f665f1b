-- Pages over which the first images of a tree are laid.
use Rattle.std.proofs.Common.{◌≡◌, ◌+◌, ◌≤◌, ℕ, List, [], set, length, length-set, refl, sym, subst, arith, None}
use Rattle.page_journal.specs.Layout.{Image}
use Rattle.page_journal.specs.Recovers.{laid}
use Rattle.version_model.specs.Pages.{ColumnNode, CurrentLeaf, all_keys}
use Rattle.tsb_walk.specs.Shown.{RepresentNodes}
use Rattle.tsb_tree.specs.Trees.{AreFirst, ReportsFirst}
use Rattle.tsb_tree.proofs.Laying.{put}
use Rattle.tsb_tree.proofs.Reporting.{shown-set, shown-none}
use Rattle.tsb_tree.proofs.Growing.{created, first_own, first_pages}

pub shown_first : (page : ℕ) (images : List Image) (shown : List (List ℕ)) → AreFirst page images → page + 2 ≤ length shown → RepresentNodes (laid images shown) (first_pages page)
shown_first page images shown first inside =
    let one : RepresentNodes (set shown page first.column) (put page (ColumnNode all_keys [] 0 (page + 1)) (λ _. None)) = shown-set shown (λ _. None) page first.column (ColumnNode all_keys [] 0 (page + 1)) (omega (arith, inside)) first.represents_column (shown-none shown) in
    let two : RepresentNodes (set (set shown page first.column) (page + 1) first.leaf) (first_pages page) = shown-set (set shown page first.column) (put page (ColumnNode all_keys [] 0 (page + 1)) (λ _. None)) (page + 1) first.leaf (CurrentLeaf all_keys 0 []) (omega (arith, inside, length-set shown page first.column)) first.represents_leaf one in
    rw (first.laid_are shown) two

pub reports_first : (page : ℕ) (images : List Image) (shown : List (List ℕ)) → AreFirst page images → page + 2 ≤ length shown → ReportsFirst (laid images shown) page
reports_first page images shown first inside = record {
  nodes = first_pages page;
  reports = shown_first page images shown first inside;
  own = first_own page;
  has = λ blocks next. created blocks next page (page + 2) refl;
}
