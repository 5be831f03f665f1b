use Rattle.service.proofs.Counting.{counted}
use Rattle.service.proofs.replying.admitted_of.Goals as goal

pub returns-clause-count : goal.returns-clause-count
returns-clause-count g c = λ h represented.
    let found = counted h.intakes c.args.collector c.in-Some.resume (c.in-Some.ensures.resume h represented) in
    record { intake = found.0; here = found.1; count_is = found.2 }
