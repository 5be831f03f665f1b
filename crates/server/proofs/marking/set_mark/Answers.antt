use Rattle.std.proofs.Common.{sym, subst}
use Rattle.query_threads.proofs.Seen.{begins_then}
use Rattle.service.specs.declared.faults.LoadStop.{LoadStop}
use Rattle.server.specs.Marks.{IsUnmarked}
use Rattle.server.proofs.Unmarked.{unmarked_for}
use Rattle.server.proofs.marking.set_mark.Goals as goal

pub returns-in-Err-clause-refused : goal.returns-in-Err-clause-refused
returns-in-Err-clause-refused g c = λ named.
    subst (λ (why : LoadStop). IsUnmarked c.args.collector c.args.mark c.args.pass.now c.mark.new.pass why) (sym c.unmarked.ensures)
    (unmarked_for c.args.collector c.args.mark c.args.pass.now c.mark.new.pass c.in-Err.refusal (c.in-Err.ensures.sees named))

pub returns-in-Ok-clause-begins : goal.returns-in-Ok-clause-begins
returns-in-Ok-clause-begins g c = begins_then c.args.pass.now c.mark.new.pass c.apply_all.new.pass c.mark.ensures.begins c.apply_all.ensures.begins

pub returns-in-Err-apply_all-clause-begins : goal.returns-in-Err-apply_all-clause-begins
returns-in-Err-apply_all-clause-begins g c = begins_then c.args.pass.now c.mark.new.pass c.apply_all.new.pass c.mark.ensures.begins c.apply_all.ensures.begins
