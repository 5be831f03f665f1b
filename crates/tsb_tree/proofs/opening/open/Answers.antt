use Rattle.std.proofs.Common.{rules, ◌≡◌, Err, Result, Some, length, slice_get, sym, subst, arith}
use Rattle.std.proofs.lemmas.Option.{same_Some, none-some}
use Rattle.tsb_tree.specs.declared.error.TreeError.TheVariants as errors
use Rattle.tsb_tree.specs.declared.tree.TreePlace.{TreePlace}
use Rattle.tsb_tree.specs.declared.error.TreeError.{TreeError}
use Rattle.tsb_tree.specs.Refusals.{IsHonest}
use Rattle.tsb_tree.proofs.Roots.{root_here, root_inside, tree_root}
use Rattle.tsb_tree.proofs.opening.open.Goals as goal

pub returns-in_err-see-clause-bad : goal.returns-in_err-see-clause-bad
returns-in_err-see-clause-bad g c = λ start shown shows page e.
    let d : c.see.result ≡ Err (errors.BadNode page) = search rules in
    let b = c.see.ensures.bad page d in
    let count : length shown ≡ g.P.Pages.homes c.args.pages.now = g.met.P.Pages.count c.args.pages.now start shown shows in
    (b.0, λ level is. omega (arith, root_inside shown c.args.root level is, count, b.1))

pub returns-in_err-see-clause-honest : goal.returns-in_err-see-clause-honest
returns-in_err-see-clause-honest g c = λ start shown shows s all level are tree.
    let count : length shown ≡ g.P.Pages.homes c.args.pages.now = g.met.P.Pages.count c.args.pages.now start shown shows in
    let h = c.in_err-see.ensures.honest (omega (arith, count, root_inside shown c.args.root level (tree_root shown s all c.args.root level are tree))) in
    let d : c.from_residual.result ≡ Err c.in_err-see.field-0.0 = search rules in
    subst (λ (r : Result TreePlace TreeError). IsHonest r) (sym d) h

pub returns-in-Some-root_level-clause-level : goal.returns-in-Some-root_level-clause-level
returns-in-Some-root_level-clause-level g c = λ start shown shows level is.
    let at : slice_get shown c.args.root ≡ Some c.in-Some.page.now = c.in-Some.ensures.shown start shown (c.in_ok-see.ensures.reads.shown start shown shows) (omega (arith, c.in_ok-see.ensures.inside, c.in_ok-see.ensures.reads.homes)) in
    same_Some _ _ (c.in-Some-root_level.ensures.level level (root_here shown c.args.root c.in-Some.page.now level at is))

pub returns-in-Some-root_level-clause-opened : goal.returns-in-Some-root_level-clause-opened
returns-in-Some-root_level-clause-opened g c = λ start shown shows s all level are tree.
    let at : slice_get shown c.args.root ≡ Some c.in-Some.page.now = c.in-Some.ensures.shown start shown (c.in_ok-see.ensures.reads.shown start shown shows) (omega (arith, c.in_ok-see.ensures.inside, c.in_ok-see.ensures.reads.homes)) in
    same_Some _ _ (c.in-Some-root_level.ensures.level level (root_here shown c.args.root c.in-Some.page.now level at (tree_root shown s all c.args.root level are tree)))

pub returns-in-None-clause-bad : goal.returns-in-None-clause-bad
returns-in-None-clause-bad g c = λ start shown shows page e.
    let at : slice_get shown c.args.root ≡ Some c.in-Some.page.now = c.in-Some.ensures.shown start shown (c.in_ok-see.ensures.reads.shown start shown shows) (omega (arith, c.in_ok-see.ensures.inside, c.in_ok-see.ensures.reads.homes)) in
    (cc, λ level is. none-some level (c.in-None.ensures.level level (root_here shown c.args.root c.in-Some.page.now level at is)))

pub returns-in-None-clause-honest : goal.returns-in-None-clause-honest
returns-in-None-clause-honest g c = λ start shown shows s all level are tree.
    let at : slice_get shown c.args.root ≡ Some c.in-Some.page.now = c.in-Some.ensures.shown start shown (c.in_ok-see.ensures.reads.shown start shown shows) (omega (arith, c.in_ok-see.ensures.inside, c.in_ok-see.ensures.reads.homes)) in
    none-some level (c.in-None.ensures.level level (root_here shown c.args.root c.in-Some.page.now level at (tree_root shown s all c.args.root level are tree)))
