use Rattle.std.proofs.Common.{◌≡◌, ◌+◌, ◌*◌, length, ℕ, suc, Some, None, arith, sym, ap, ◌∙◌, subst}
use Rattle.route_model.specs.Address.{octets}
use Rattle.route_model.specs.PeerKeys.{first_key}
use Rattle.route_history.specs.Fronts.{number_at}
use Rattle.route_history.specs.Walks.{LeapsTo, IsPeerFirst, IsLeast}
use Rattle.route_history.proofs.Leaping.{to_candidate, no_candidate, first_is, last_is}
use Rattle.route_history.proofs.leap.to_covering.Goals as goal

pub returns-in-Some-least_candidate : goal.returns-in-Some-least_candidate
returns-in-Some-least_candidate c = λ q only.
    let at = number_at c.args.front in
    let h = subst (IsPeerFirst at) c.in-Some.is c.peer_first.ensures in
    let first : first_key c.in-Some.first ≡ c.in-Some.first = first_is at c.in-Some.first h.0 in
    let l : IsLeast at c.in-Some.first c.args.address.now (1 + 8 * length (octets c.args.address.now)) (Some c.in-Some-least_candidate.key) = subst (λ (n : ℕ). IsLeast at n c.args.address.now (1 + 8 * length (octets c.args.address.now)) (Some c.in-Some-least_candidate.key)) first (subst (IsLeast at (first_key c.in-Some.first) c.args.address.now (1 + 8 * length (octets c.args.address.now))) c.in-Some-least_candidate.is c.least_candidate.ensures) in
    subst (LeapsTo q at) (sym c.from.ensures) (to_candidate q c.args.address.now only c.in-Some.first at c.in-Some-least_candidate.key h.0 h.1 l)

pub returns-in-None : goal.returns-in-None
returns-in-None c = λ q only.
    let at = number_at c.args.front in
    let h = subst (IsPeerFirst at) c.in-Some.is c.peer_first.ensures in
    let first : first_key c.in-Some.first ≡ c.in-Some.first = first_is at c.in-Some.first h.0 in
    let l : IsLeast at c.in-Some.first c.args.address.now (1 + 8 * length (octets c.args.address.now)) None = subst (λ (n : ℕ). IsLeast at n c.args.address.now (1 + 8 * length (octets c.args.address.now)) None) first (subst (IsLeast at (first_key c.in-Some.first) c.args.address.now (1 + 8 * length (octets c.args.address.now))) c.in-None.is c.least_candidate.ensures) in
    subst (LeapsTo q at) (sym (c.beyond.ensures ∙ ap (λ (n : ℕ). suc n) c.last_of_peer.ensures.key ∙ last_is c.in-Some.first first))
    (no_candidate q c.args.address.now only c.in-Some.first at h.0 h.1 (omega (arith, h.0)) l)
