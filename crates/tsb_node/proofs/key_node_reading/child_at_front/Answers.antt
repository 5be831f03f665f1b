use Rattle.std.proofs.Common.{arith}
use Rattle.tsb_node.proofs.ChildLaws.{child_front-size, child_is, child_there}
use Rattle.tsb_node.proofs.CheckingLaws.{high_along}
use Rattle.std.proofs.Common.{sym}
use Rattle.tsb_node.proofs.key_node_reading.child_at_front.Goals as goal

pub returns-then-bytes-lt48-clause-none : goal.returns-then-bytes-lt48-clause-none
returns-then-bytes-lt48-clause-none c = λ child front. omega (arith, child_front-size c.args.bounds.now c.args.bytes.now child front, c.if-bytes-lt48.true)

pub returns-then-not-is_below_high-clause-none : goal.returns-then-not-is_below_high-clause-none
returns-then-not-is_below_high-clause-none c = λ child front.
    let low = child_there c.args.bounds.now c.key_at-low.result c.args.bytes.now child front c.key_at-low.ensures.number in
    let yes = c.is_below_high.ensures.1 (high_along child.low c.key_at-low.result c.args.bounds.now.high (sym low) front.valid_is.high) in
    absurd (cc (yes, c.if-not-is_below_high.true))

pub returns-clause-found : goal.returns-clause-found
returns-clause-found c =
    child_is c.args.bounds.now c.key_at-low.result c.number8.result c.args.bytes.now (λ i. let lt = c.type_inv.bytes i in omega arith) (omega (arith, c.if-bytes-lt48.false)) c.key_at-low.ensures.number c.number8.ensures.number
    (c.is_below_high.ensures.0 (cc c.if-not-is_below_high.false))
