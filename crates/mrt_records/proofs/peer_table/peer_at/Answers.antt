use Rattle.std.proofs.Common.{◌≡◌, ◌+◌, ◌≤◌, ℕ, length, take, subst, ap, ◌∙◌, arith}
use Rattle.route_model.specs.Octets.{number_at}
use Rattle.route_model.specs.PrefixFields.{address_size}
use Rattle.route_model.specs.Widths.{width_of}
use Rattle.mrt_records.specs.PeerTables.{IsPeerField}
use Rattle.mrt_records.proofs.Peers.{made, peer_front}
use Rattle.mrt_records.proofs.peer_table.peer_at.Goals as goal

pub returns : goal.returns
returns c =
    let bytes = c.args.bytes.now in
    let family = c.family_of_peer-family.result in
    let width = c.width_of_peer-width.result in
    let end : c.address_len-end.result ≡ address_size family = c.address_len-end.ensures in
    let wide : c.octets_of.result ≡ width_of width = c.octets_of.ensures.octets in
    let size : 5 + address_size family + width_of width ≡ 5 + c.address_len-end.result + c.octets_of.result = omega (arith, end, wide) in
    let room : 5 + address_size family + width_of width ≤ length bytes = omega (arith, size, c.if-bytes-size.false) in
    let number : c.as_number_at-as_number.result ≡ number_at (width_of width) (5 + address_size family) bytes = c.as_number_at-as_number.ensures.number ∙ ap (λ (n : ℕ). number_at (width_of width) (5 + n) bytes) end in
    let field = peer_front bytes family width c.address_at-address.result c.as_number_at-as_number.result room
    c.family_of_peer-family.ensures c.width_of_peer-width.ensures c.address_at-address.ensures number in
    (c.if-bytes-size.false, omega arith, subst (λ (n : ℕ). IsPeerField (take n bytes) (made c.address_at-address.result c.as_number_at-as_number.result)) size field)
