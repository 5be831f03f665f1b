use Rattle.std.proofs.Common.{◌+◌, ◌++◌, ◌∷◌, [], ◌≤◌, ℕ, List, length, sym, subst, arith}
use Rattle.disk_models.specs.Once.{settled_in}
use Rattle.page_journal.specs.Layout.{Image, pages_of}
use Rattle.page_journal.specs.Recovers.{laid, AreBelow}
use Rattle.interleaving_core.specs.Steps.{empty}
use Rattle.tsb_tree.specs.Trees.{ReportsFirst}
use Rattle.archive_pages.specs.Places.{tree_low}
use Rattle.disk_archive.specs.inner.Planning.{Headed}
use Rattle.disk_archive.proofs.Empties.{below_push, headed_first}
use Rattle.disk_archive.proofs.beginning.make_images.Goals as goal

pub returns-clause-below : goal.returns-clause-below
returns-clause-below c homes large =
    let low = c.tree_low.ensures in
    let first = c.in_ok-images.ensures.images in
    subst (λ (l : List Image). AreBelow homes (pages_of l)) (sym c.in_ok-push.ensures.items)
    (below_push homes 0 c.in_ok-page.page c.in_ok-images.images.items (omega (arith, large)) (first.below homes (omega (arith, large, low))))

pub returns-clause-headed : goal.returns-clause-headed
returns-clause-headed c count o shown inside =
    let s = c.args.settings in
    let head = c.args.head.now in
    let low = c.tree_low.ensures in
    let images = c.in_ok-images.images.items in
    let reports : (pages : List (List ℕ)) → tree_low s + 2 ≤ length pages → ReportsFirst (laid images pages) (tree_low s) = λ pages within. subst (λ (n : ℕ). ReportsFirst (laid images pages) n) low (c.in_ok-images.ensures.tree pages (omega (arith, within, low))) in
    let whole = headed_first count s (settled_in o) head c.requires.empty.0 images shown c.requires.settings c.requires.valid c.requires.empty.1 inside reports in
    subst (λ (l : List Image). Headed count s (settled_in o) head (laid l shown) (empty s.collectors)) (sym c.in_ok-push.ensures.items)
    (subst (λ (page : List ℕ). Headed count s (settled_in o) head (laid (images ++ (0, page) ∷ []) shown) (empty s.collectors)) (sym c.in_ok-page.ensures.page) whole)
