use Rattle.std.proofs.Common.{rules, ◌≡◌, Err, arith}
use Rattle.tsb_walk.specs.declared.error.NodeError.TheVariants.{BadNode}
use Rattle.tsb_walk.proofs.PageRepresenting.{below_here, none_bad}
use Rattle.tree_questions.proofs.naming.column_named.Goals as goal

pub returns-in_err-at-clause-blames : goal.returns-in_err-at-clause-blames
returns-in_err-at-clause-blames g c = λ start shown shows s all st next page e.
    let d : c.column_at.result ≡ Err (BadNode page) = search rules in
    none_bad shown s all c.args.root.now c.args.key c.args.stamp page (c.column_at.ensures.bad start shown shows page d) st

pub returns-then-place-burnt-clause-blames : goal.returns-then-place-burnt-clause-blames
returns-then-place-burnt-clause-blames g c = λ start shown shows s all st next page e.
    let there = c.in_ok-at.ensures.there start shown shows in
    let below = below_here shown s all c.args.root.now c.args.key c.args.stamp c.in_ok-at.at there st c.in-InPast.place c.in-InPast.is in
    absurd (omega (arith, below, next, c.if-place-burnt.true))
