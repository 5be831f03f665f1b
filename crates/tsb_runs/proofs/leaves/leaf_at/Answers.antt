use Rattle.std.proofs.Common.{rules, ◌≡◌, ◌<◌, Err, subst, arith}
use Rattle.version_model.specs.Ranges.{stamp_end}
use Rattle.tsb_walk.specs.declared.error.NodeError.TheVariants.{BadNode}
use Rattle.tsb_walk.specs.PageWays.{ComesToColumn}
use Rattle.tsb_walk.specs.inner.ColumnSpots.{IsSpotAt}
use Rattle.tsb_walk.proofs.PageRepresenting.{none_bad}
use Rattle.tsb_walk.proofs.PageWalking.{bad_way}
use Rattle.tsb_runs.proofs.Representing.{leaf_shown, no_column}
use Rattle.tsb_runs.proofs.leaves.leaf_at.Goals as goal

pub returns-in_err-column-clause-blames : goal.returns-in_err-column-clause-blames
returns-in_err-column-clause-blames g c = λ start shown shows s all st page e.
    let d : c.locate.result ≡ Err (BadNode page) = search rules in
    none_bad shown s all c.args.root.now c.args.key c.args.stamp page (bad_way shown c.args.root.now c.args.key c.args.stamp page (c.locate.ensures.bad start shown shows page d)) st

pub returns-in_err-leaf-clause-blames : goal.returns-in_err-leaf-clause-blames
returns-in_err-leaf-clause-blames g c = λ start shown shows s all st page e.
    let d : c.column_spot.result ≡ Err (BadNode page) = search rules in
    let column = c.in_ok-column.column in
    let comes : ComesToColumn shown c.args.root.now c.args.key column = record { way = c.in_ok-column.ensures.way start shown shows; lowest = c.in_ok-column.ensures.level; has = c.in_ok-column.ensures.has } in
    no_column shown s all c.args.root.now column c.args.key c.args.stamp comes st (c.column_spot.ensures.bad start shown (c.locate.ensures.same.shown start shown shows) page d)

pub returns-in-InLeaf-clause-leaf : goal.returns-in-InLeaf-clause-leaf
returns-in-InLeaf-clause-leaf g c = λ start shown shows s all st.
    let column = c.in_ok-column.column in
    let comes : ComesToColumn shown c.args.root.now c.args.key column = record { way = c.in_ok-column.ensures.way start shown shows; lowest = c.in_ok-column.ensures.level; has = c.in_ok-column.ensures.has } in
    let fits : c.args.stamp < stamp_end = omega (arith, c.stamp_fits.ensures.fits) in
    leaf_shown shown s all c.args.root.now column c.args.key c.args.stamp comes st c.in-InLeaf.leaf
    (subst (IsSpotAt shown column c.args.key c.args.stamp) c.in-InLeaf.is (c.in_ok-leaf.ensures.spot start shown (c.locate.ensures.same.shown start shown shows))) fits
