use Rattle.std.proofs.Common.{inl}
use Rattle.route_text.proofs.Seconds.{moment_read}
use Rattle.route_text.proofs.laws.moments_are_read.Goals as goal

pub returns-clause-moment : goal.returns-clause-moment
returns-clause-moment c = λ moment within. record { within = within; encoded = inl (moment_read moment) }

pub returns-clause-mark : goal.returns-clause-mark
returns-clause-mark c = λ mark within. record { within = within; encoded = inl (moment_read mark) }
