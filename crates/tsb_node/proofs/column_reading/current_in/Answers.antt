use Rattle.std.proofs.Common.{arith}
use Rattle.tsb_node.proofs.PartLaws.{current_is, current_kind}
use Rattle.tsb_node.proofs.column_reading.current_in.Goals as goal

pub returns-then-bytes-ne0-clause-none : goal.returns-then-bytes-ne0-clause-none
returns-then-bytes-ne0-clause-none c = λ current is e. c.if-bytes-ne0.true (current_kind current c.args.bytes.now is e)

pub returns-clause-found : goal.returns-clause-found
returns-clause-found c =
    current_is c.stamp_at.result c.number8.result c.args.bytes.now (λ i. let lt = c.type_inv.bytes i in omega arith) c.requires c.if-bytes-ne0.false c.stamp_at.ensures.number c.number8.ensures.number
