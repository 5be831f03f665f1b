use Rattle.mrt_records.proofs.session.read_state_change.Goals as goal

pub returns-in_default-clause-none : goal.returns-in_default-clause-none
returns-in_default-clause-none c = λ peer state q. c.in_default.ensures.none peer q.states q.session
