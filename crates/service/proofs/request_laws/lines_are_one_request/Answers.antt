use Rattle.service.proofs.OneRequest.{one_request}
use Rattle.service.proofs.request_laws.lines_are_one_request.Goals as goal

pub returns : goal.returns
returns c = record { one = one_request }
