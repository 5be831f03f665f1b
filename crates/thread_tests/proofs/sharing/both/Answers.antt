use Rattle.std.proofs.Common.{rules}
use Rattle.thread_tests.proofs.sharing.both.Goals as goal

pub returns-clause-other : goal.returns-clause-other
returns-clause-other g c = λ some. search (rules, c.join.ensures.second)
