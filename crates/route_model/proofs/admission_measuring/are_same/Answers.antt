use Rattle.std.proofs.Common.{◌∙◌}
use Rattle.route_model.proofs.PeersReported.{peers_reported, eq_reported}
use Rattle.route_model.proofs.admission_measuring.are_same.Goals as goal

pub returns : goal.returns
returns c = c.eq.ensures ∙ (eq_reported c.args.one.now c.args.other.now ∙ peers_reported c.args.one.now c.args.other.now c.peer_len-one.ensures.valid c.peer_len-other.ensures.valid)
