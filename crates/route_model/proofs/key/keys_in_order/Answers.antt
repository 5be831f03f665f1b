use Rattle.route_model.proofs.api.Keys.{prefixes_cmp, sessions_cmp, session_below, session_above}
use Rattle.route_model.proofs.api.KeyNumbers.{number_cmp, number_one}
use Rattle.route_model.proofs.key.keys_in_order.Goals as goal

pub returns-clause-prefixes : goal.returns-clause-prefixes
returns-clause-prefixes c = prefixes_cmp

pub returns-clause-sessions : goal.returns-clause-sessions
returns-clause-sessions c = sessions_cmp

pub returns-clause-below : goal.returns-clause-below
returns-clause-below c = session_below

pub returns-clause-above : goal.returns-clause-above
returns-clause-above c = session_above

pub returns-clause-octets : goal.returns-clause-octets
returns-clause-octets c = number_cmp

pub returns-clause-one : goal.returns-clause-one
returns-clause-one c = number_one
