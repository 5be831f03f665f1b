use Rattle.std.proofs.Common.{List, refl, sym, subst, arith}
use Rattle.version_model.specs.Versions.{Version}
use Rattle.version_model.specs.Ranges.{high_or}
use Rattle.tsb_node.specs.Leaves.{BeginsAsLeaf}
use Rattle.tsb_runs.specs.Runs.{IsRun}
use Rattle.tsb_walk.specs.Shown.{keys_at}
use Rattle.tsb_walk.proofs.OneLeaf.{begun_leaf, shows_itself, point_below, all_below}
use Rattle.tsb_walk.proofs.Ons.{if_ok}
use Rattle.tsb_runs.proofs.leaf_runs.run_on.Goals as goal

pub returns-then-not-is_current_leaf-clause-none : goal.returns-then-not-is_current_leaf-clause-none
returns-then-not-is_current_leaf-clause-none c = λ e versions represents_node. absurd (cc (c.is_current_leaf.ensures versions represents_node, c.if-not-is_current_leaf.true))

pub returns-clause-run : goal.returns-clause-run
returns-clause-run c = λ versions represents_node.
    let column = c.args.column.now in
    let leaf = begun_leaf c.args.page.now _ represents_node (keys_at column) c.args.start versions refl in
    let begins = subst (BeginsAsLeaf leaf.leaf) (sym c.octets.ensures.value) leaf.begins in
    if_ok c.run_in.result _ _
    (λ run is.
    subst (λ (vs : List Version). IsRun vs c.args.stamp c.args.from run) leaf.same
    (is leaf.leaf.versions (all_below (high_or column.high)) leaf.leaf begins (shows_itself leaf.leaf.versions (high_or column.high)) refl (point_below (high_or column.high) c.args.from c.args.stamp c.requires.has.high (omega (arith, c.stamp_fits.ensures.fits)))))
    c.run_in.ensures.run

pub returns-clause-none : goal.returns-clause-none
returns-clause-none c = λ e versions represents_node.
    let leaf = begun_leaf c.args.page.now _ represents_node (keys_at c.args.column.now) c.args.start versions refl in
    c.run_in.ensures.leaf leaf.leaf (subst (BeginsAsLeaf leaf.leaf) (sym c.octets.ensures.value) leaf.begins) e
