use Rattle.std.proofs.Common.{inr}
use Rattle.std.specs.Prelude.{codes}
use Rattle.rha.proofs.refusals.report_few_threads.Goals as goal

pub returns-clause-reported : goal.returns-clause-reported
returns-clause-reported g c = inr (codes ": a thread can't be made for each: choose fewer, or raise the limits on processes and memory (ulimit -u, ulimit -v)", c.write_outside.ensures.line)
