use Rattle.service.proofs.Dropping.{all_taken, taken_admissions}
use Rattle.service.proofs.laws.resumed_feeds_drop_the_first.Goals as goal

pub returns-clause-rest : goal.returns-clause-rest
returns-clause-rest c = taken_admissions

pub returns-clause-all : goal.returns-clause-all
returns-clause-all c = all_taken
