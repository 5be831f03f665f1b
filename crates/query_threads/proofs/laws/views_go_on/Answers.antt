use Rattle.query_threads.proofs.Seen.{begins_then}
use Rattle.query_threads.proofs.Answering.{load_goes_on}
use Rattle.query_threads.proofs.laws.views_go_on.Goals as goal

pub returns : goal.returns
returns c = record { chain = begins_then; load = load_goes_on }
