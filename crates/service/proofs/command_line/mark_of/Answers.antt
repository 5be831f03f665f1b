use Rattle.std.proofs.Common.{Result, Ok, Err, OnErr}
use Rattle.service.proofs.command_line.mark_of.Goals as goal

always : {A E : Type 0} (r : Result A E) (P : Type 0) → P → OnErr r P
always (Ok x) P p = tt
always (Err e) P p = p

pub returns-in_err-read_mark-in-Some-clause-none :
    goal.returns-in_err-read_mark-in-Some-clause-none
returns-in_err-read_mark-in-Some-clause-none c = rw c.in-Some.is (always c.from_residual.result _ c.in_err-read_mark-in-Some.ensures.none)
