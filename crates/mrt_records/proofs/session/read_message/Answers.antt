use Rattle.mrt_records.proofs.session.read_message.Goals as goal

pub returns-in_default : goal.returns-in_default
returns-in_default c = λ m q. c.in_default.ensures.none m.0 m.1 q.session
