-- Laws of the peers of a table, and of addresses.
use Rattle.std.proofs.Common.{◌≡◌, ℕ, ◌+◌, ◌≤◌, List, length, take, drop, get_or, sym, ap, subst, ◌∙◌, arith}
use Rattle.std.proofs.lemmas.List.{length-take, drop-take, take-take, take-append-drop}
use Rattle.route_model.specs.Octets.{number_at}
use Rattle.route_model.specs.declared.address.Address.{Address}
use Rattle.route_model.proofs.api.Sequences.{IsPrefixFree, same_fronts}
use Rattle.mrt_records.specs.declared.neighbor.Neighbor.{Neighbor}
use Rattle.route_model.specs.declared.wire.AsWidth.{AsWidth}
use Rattle.route_model.specs.declared.wire.Family.{Family}
use Rattle.route_model.specs.declared.wire.Family.TheVariants as families
use Rattle.route_model.specs.PrefixFields.{address_size}
use Rattle.mrt_records.specs.Sessions.{IsAddressOf}
use Rattle.route_model.specs.Widths.{width_of}
use Rattle.mrt_records.specs.PeerTables.{IsNeighbor, IsPeerField, family_of_type, width_of_type}
use Rattle.route_model.proofs.api.Fronts.{number_at-take, same_first, first_octet}

abbrev pub made : Address → ℕ → Neighbor
made a n = record { address = a; as_number = n }

-- the octets of a family are one address
pub address_one : (family : Family) (bytes : List ℕ) (x y : Address) → IsAddressOf family bytes x → IsAddressOf family bytes y → x ≡ y
address_one families.Ipv4 bytes x y p q = p ∙ sym q
address_one families.Ipv6 bytes x y p q = p ∙ sym q

peer_one : (family : Family) (width : AsWidth) (field : List ℕ) (v w : Neighbor) → IsNeighbor family width field v → IsNeighbor family width field w → v ≡ w
peer_one family width field v w p q =
    let addresses = address_one family (take (address_size family) (drop 5 field)) v.address w.address p.address q.address in
    let numbers : v.as_number ≡ w.as_number = p.as_number ∙ sym q.as_number in
    ap (λ (a : Address). made a v.as_number) addresses ∙ ap (λ (n : ℕ). made w.address n) numbers

pub peers_free : IsPrefixFree IsPeerField
peers_free = record {
  one = λ a b x y v w p q e.
      let types = same_first a b x y (omega (arith, p.size)) (omega (arith, q.size)) e in
      let sizes = ap (λ (t : ℕ). 5 + address_size (family_of_type t) + width_of (width_of_type t)) types in
      let fronts = same_fronts a b x y (p.size ∙ sizes ∙ sym q.size) e in
      let same : IsPeerField a w = subst (λ (t : List ℕ). IsPeerField t w) (sym fronts.0) q in
      (fronts.0, peer_one (family_of_type (get_or a 0 0)) (width_of_type (get_or a 0 0)) a v w p same);
  some = λ v p. omega (arith, p.size);
}

-- the octets have room for the peer at their front
pub peer_front : (bytes : List ℕ) (family : Family) (width : AsWidth) (address : Address) (as_number : ℕ)
    → 5 + address_size family + width_of width ≤ length bytes
    → family ≡ family_of_type (get_or bytes 0 0) → width ≡ width_of_type (get_or bytes 0 0)
    → IsAddressOf family (take (address_size family) (drop 5 bytes)) address → as_number ≡ number_at (width_of width) (5 + address_size family) bytes
    → IsPeerField (take (5 + address_size family + width_of width) bytes) (made address as_number)
peer_front bytes family width address as_number room is_family is_width is_address is_number =
    let size = 5 + address_size family + width_of width in
    let len = length-take size bytes in
    let first : get_or (take size bytes) 0 0 ≡ get_or bytes 0 0 =
    sym (first_octet (take size bytes) (drop size bytes) (omega (arith, len, room))) ∙ ap (λ (t : List ℕ). get_or t 0 0) (take-append-drop size bytes) in
    let field : take (address_size family) (drop 5 bytes) ≡ take (address_size family) (drop 5 (take size bytes)) =
    sym (ap (λ (t : List ℕ). take (address_size family) t) (ap (λ (n : ℕ). drop 5 (take n bytes)) (omega arith) ∙ drop-take 5 (address_size family + width_of width) bytes)
    ∙ take-take (address_size family) (address_size family + width_of width) (drop 5 bytes) (omega arith)) in
    let peer : IsNeighbor family width (take size bytes) (made address as_number) = record {
      size = omega (arith, len, room);
      address = subst (λ (t : List ℕ). IsAddressOf family t address) field is_address;
      as_number = is_number ∙ sym (number_at-take (width_of width) (5 + address_size family) size bytes (omega arith) room);
    } in
    let at_family = subst (λ (f : Family). IsNeighbor f width (take size bytes) (made address as_number)) (is_family ∙ ap family_of_type (sym first)) peer in
    subst (λ (w : AsWidth). IsNeighbor (family_of_type (get_or (take size bytes) 0 0)) w (take size bytes) (made address as_number)) (is_width ∙ ap width_of_type (sym first)) at_family
