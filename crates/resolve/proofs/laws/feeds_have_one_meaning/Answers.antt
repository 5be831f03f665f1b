use Rattle.resolve.proofs.OneTable.{some_table, one_table}
use Rattle.resolve.proofs.OneMeaning.{one_meaning}
use Rattle.resolve.proofs.laws.feeds_have_one_meaning.Goals as goal

pub returns-clause-some : goal.returns-clause-some
returns-clause-some c = some_table

pub returns-clause-one : goal.returns-clause-one
returns-clause-one c = one_table

pub returns-clause-meaning : goal.returns-clause-meaning
returns-clause-meaning c = one_meaning
