use Rattle.std.proofs.Common.{[], sym, ap, ◌∙◌}
use Rattle.route_model.specs.inner.Codec.{whole}
use Rattle.route_model.specs.inner.Codec.Admissions.{prefix_at, admission_at}
use Rattle.route_model.specs.inner.Codec.{peer_at}
use Rattle.route_model.proofs.Fields.{some_is}
use Rattle.route_model.proofs.Peers.{read_one, peer_encoded}
use Rattle.route_model.proofs.Prefixes.{prefix_again, prefix_encoded}
use Rattle.route_model.proofs.Decoding.{route_encoded}
use Rattle.route_model.proofs.Whole.{admission_only}
use Rattle.route_model.proofs.laws.encodings_are_one.Goals as goal

pub returns-clause-peers : goal.returns-clause-peers
returns-clause-peers c = λ p q octets is iq. read_one (peer_at octets) p q [] (peer_encoded p octets is) (peer_encoded q octets iq)

pub returns-clause-prefixes : goal.returns-clause-prefixes
returns-clause-prefixes c = λ x y octets ix iy. read_one (prefix_at octets) x y [] (prefix_encoded x octets ix) (prefix_encoded y octets iy)

pub returns-clause-routes : goal.returns-clause-routes
returns-clause-routes c = λ r s octets ir is. some_is r s (sym (route_encoded r octets ir) ∙ route_encoded s octets is)

pub returns-clause-admissions : goal.returns-clause-admissions
returns-clause-admissions c = λ a b octets ia ib.
    let read_a = ap (λ t. whole (admission_at t)) ia.encoded ∙ admission_only prefix_again a ia.valid in
    let read_b = ap (λ t. whole (admission_at t)) ib.encoded ∙ admission_only prefix_again b ib.valid in
    some_is a b (sym read_a ∙ read_b)
