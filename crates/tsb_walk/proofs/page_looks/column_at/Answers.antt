use Rattle.std.proofs.Common.{rules, ◌≡◌, Err}
use Rattle.tsb_walk.specs.declared.error.NodeError.TheVariants.{BadNode}
use Rattle.tsb_walk.proofs.PageWalking.{bad_way, bad_there}
use Rattle.tsb_walk.proofs.page_looks.column_at.Goals as goal

pub returns-in_err-column-clause-bad : goal.returns-in_err-column-clause-bad
returns-in_err-column-clause-bad g c = λ start shown shows page e.
    let d : c.locate.result ≡ Err (BadNode page) = search rules in
    bad_way shown c.args.root.now c.args.key c.args.stamp page (c.locate.ensures.bad start shown shows page d)

pub returns-in_err-spot-clause-bad : goal.returns-in_err-spot-clause-bad
returns-in_err-spot-clause-bad g c = λ start shown shows page e.
    let d : c.spot_at.result ≡ Err (BadNode page) = search rules in
    let column = c.in_ok-column.column in
    let b = c.spot_at.ensures.bad start shown (c.locate.ensures.same.shown start shown shows) page d in
    bad_there shown c.args.root.now column c.args.key c.args.stamp page (c.in_ok-column.ensures.way start shown shows) c.in_ok-column.ensures.level b.0 b.1
