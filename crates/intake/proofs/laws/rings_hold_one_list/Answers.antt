use Rattle.intake.proofs.Unique.{holds_one, octets_sum}
use Rattle.intake.proofs.laws.rings_hold_one_list.Goals as goal

pub returns-clause-one : goal.returns-clause-one
returns-clause-one c = λ ring pages one other h k. holds_one c.encodings_are_one.ensures.admissions ring pages one other h k

pub returns-clause-octets : goal.returns-clause-octets
returns-clause-octets c = λ batch. octets_sum batch
