use Rattle.server.proofs.Taken.{not_taken}
use Rattle.server.proofs.answering.read_on.Goals as goal

pub returns-clause-none : goal.returns-clause-none
returns-clause-none c = λ same. not_taken c.args.port c.args.line.now c.in-Ok.command c.takes.result c.in-Ok.ensures.found c.takes.ensures.takes c.if-takes.false
