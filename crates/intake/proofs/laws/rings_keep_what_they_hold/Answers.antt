use Rattle.intake.proofs.api.Staying.{holds_same, holds_beside}
use Rattle.intake.proofs.laws.rings_keep_what_they_hold.Goals as goal

pub returns-clause-pages : goal.returns-clause-pages
returns-clause-pages c = λ homes ring old new waits r same h. holds_same homes ring old new waits r same h

pub returns-clause-apart : goal.returns-clause-apart
returns-clause-apart c = λ homes one other old new waits r apart changes h. holds_beside homes one other old new waits r apart changes h
