use Rattle.std.proofs.Common.{rules, ◌≡◌, ◌<◌, ℕ, Some, Err, Result, length, slice_get, sym, ◌∙◌, subst, arith}
use Rattle.std.proofs.lemmas.Bool.{false≢true}
use Rattle.std.proofs.lemmas.Option.{slice_get_within}
use Rattle.version_model.specs.Pages.{ColumnNode, CurrentLeaf}
use Rattle.tsb_node.specs.Views.{PageRepresents}
use Rattle.tsb_walk.specs.Shown.{RepresentsNode, keys_at}
use Rattle.tsb_tree.specs.declared.current_leaf.LeafImage.{LeafImage}
use Rattle.tsb_tree.specs.declared.error.TreeError.{TreeError}
use Rattle.tsb_tree.specs.Refusals.{IsHonest}
use Rattle.tsb_tree.proofs.Columns.{current_represents}
use Rattle.tsb_tree.proofs.current_leaf.current_leaf.Goals as goal

pub returns-in_err-image-clause-honest : goal.returns-in_err-image-clause-honest
returns-in_err-image-clause-honest g c start shown shows is =
    let found = c.in_ok-current.ensures.current start shown shows is in
    let within = slice_get_within shown is.current is.leaf.octets is.leaf.at in
    let count : length shown ≡ g.P.Pages.homes c.args.pages.now = g.met.P.Pages.count c.args.pages.now start shown shows in
    let inside : c.in_ok-current.current.page < g.P.Pages.homes c.current_of.new.pages = omega (arith, found.1, within, count, c.in_ok-current.ensures.reads.homes) in
    let h = c.in_err-image.ensures.honest inside in
    let d : c.from_residual-in_err-image.result ≡ Err c.in_err-image.field-0.0 = search rules in
    subst (λ (r : Result LeafImage TreeError). IsHonest r) (sym d) h

pub returns-then-not-is_current_leaf-clause-honest : goal.returns-then-not-is_current_leaf-clause-honest
returns-then-not-is_current_leaf-clause-honest g c start shown shows is =
    let found = c.in_ok-current.ensures.current start shown shows is in
    let at : slice_get shown c.in_ok-current.current.page ≡ Some c.in_ok-image.image = c.in_ok-image.ensures.shown start shown (c.in_ok-current.ensures.reads.shown start shown shows) in
    let represents_node : PageRepresents c.in_ok-image.image (CurrentLeaf (keys_at c.args.place.now) c.in_ok-current.current.start is.versions) = current_represents shown c.args.place.now c.in_ok-current.current c.args.entry.now.stamp c.in_ok-image.image is found.0 found.1 at in
    false≢true (sym c.if-not-is_current_leaf.true ∙ c.is_current_leaf.ensures is.versions represents_node)

pub returns-clause-leaf : goal.returns-clause-leaf
returns-clause-leaf g c start shown shows is =
    let found = c.in_ok-current.ensures.current start shown shows is in
    let place = c.args.place.now in
    let at : slice_get shown c.in_ok-current.current.page ≡ Some c.in_ok-image.image = c.in_ok-image.ensures.shown start shown (c.in_ok-current.ensures.reads.shown start shown shows) in
    let column : RepresentsNode shown place.page (ColumnNode (keys_at place) is.parts c.in_ok-current.current.start c.in_ok-current.current.page) =
    subst (λ (n : ℕ). RepresentsNode shown place.page (ColumnNode (keys_at place) is.parts c.in_ok-current.current.start n)) (sym found.1) (subst (λ (b : ℕ). RepresentsNode shown place.page (ColumnNode (keys_at place) is.parts b is.current)) (sym found.0) is.column) in
    record { parts = is.parts; start = c.in_ok-current.current.start; versions = is.versions; column = column; at = at; represents_node = current_represents shown place c.in_ok-current.current c.args.entry.now.stamp c.in_ok-image.image is found.0 found.1 at }
