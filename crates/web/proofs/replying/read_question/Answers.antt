use Rattle.std.proofs.Common.{Err, ap}
use Rattle.web.proofs.replying.read_question.Goals as goal

pub returns-in-Err-BadRequest-clause-none : goal.returns-in-Err-BadRequest-clause-none
returns-in-Err-BadRequest-clause-none c = λ request asked. c.in-Err-BadRequest.ensures.none (ap Err c.in-Err-BadRequest.field-0-is) request asked.asks
