use Rattle.command_tests.proofs.Ending.{at_ok}
use Rattle.command_tests.proofs.playing.answer.Goals as goal

pub returns-in-Ok : goal.returns-in-Ok
returns-in-Ok g c = record { answered = λ h r. (at_ok _ _ _ c.in-Ok.is c.ask_on-ended.ensures.answered h r).0 }
