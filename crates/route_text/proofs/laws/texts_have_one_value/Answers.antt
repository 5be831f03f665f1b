use Rattle.std.proofs.Common.{arith}
use Rattle.route_model.specs.Moments.{latest_moment, last_mark}
use Rattle.route_text.proofs.api.OneValue.{one_prefix, one_instant}
use Rattle.route_text.proofs.laws.texts_have_one_value.Goals as goal

pub returns-clause-prefix : goal.returns-clause-prefix
returns-clause-prefix c = one_prefix

pub returns-clause-moment : goal.returns-clause-moment
returns-clause-moment c = one_instant latest_moment (omega arith)

pub returns-clause-mark : goal.returns-clause-mark
returns-clause-mark c = one_instant last_mark (omega arith)
