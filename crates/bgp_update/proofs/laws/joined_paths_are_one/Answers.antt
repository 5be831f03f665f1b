use Rattle.bgp_update.proofs.Joins.{joined_is, joined_one}
use Rattle.bgp_update.proofs.laws.joined_paths_are_one.Goals as goal

pub returns-clause-is : goal.returns-clause-is
returns-clause-is c = joined_is

pub returns-clause-one : goal.returns-clause-one
returns-clause-one c = joined_one
