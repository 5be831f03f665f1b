-- Peers, prefixes and spots that are equal.
use Rattle.std.proofs.Common.{◌≡◌, ◌&&◌, Bool, true, false, refl, sym, ap, ◌∙◌}
use Rattle.std.proofs.lemmas.Bool.{eqb-true, eq-eqb}
use Rattle.std.proofs.lemmas.Option.{same_Some}
use Rattle.std.proofs.lemmas.Slice.Eq.{bytes_eq-Decides}
use Rattle.route_model.specs.declared.address.Address.{Address}
use Rattle.route_model.specs.declared.address.Address.TheVariants.{V4, V6}
use Rattle.route_model.specs.declared.key.KeyParts.{KeyParts}
use Rattle.route_model.specs.declared.key.KeyParts.TheVariants.{Prefix as OfPrefix}
use Rattle.route_model.specs.declared.peer.Peer.{Peer}
use Rattle.route_model.specs.Encoding.{IsPeer}
use Rattle.route_model.specs.Keys.{key_of, key_octets, IsKeyParts}
use Rattle.route_model.specs.Prefix.{IpPrefix, IsPrefix}
use Rattle.route_model.specs.inner.Codec.Admissions.{parts_at}
use Rattle.route_model.proofs.api.Keys.{key_list, key_octets_are, parts_again}
use Rattle.route_meaning.specs.declared.question.Spot.{Spot}
use Rattle.route_meaning.specs.Holds.{same_address, same_peer, same_prefix}
use Rattle.route_meaning.specs.Rows.{spot_number}

pub both : (a b : Bool) → (a && b) ≡ true → (a ≡ true) × (b ≡ true)
both true b e = (refl, e)
both false b e = cc

pub all_true : (a b : Bool) → a ≡ true → b ≡ true → (a && b) ≡ true
all_true a b e f = cc

same_address-true : (a b : Address) → same_address a b ≡ true → a ≡ b
same_address-true (V4 a) (V4 b) e = ap V4 ((bytes_eq-Decides a b).0 e)
same_address-true (V4 a) (V6 b) e = cc
same_address-true (V6 a) (V4 b) e = cc
same_address-true (V6 a) (V6 b) e = ap V6 ((bytes_eq-Decides a b).0 e)

same_address-itself : (a : Address) → same_address a a ≡ true
same_address-itself (V4 a) = (bytes_eq-Decides a a).1 refl
same_address-itself (V6 a) = (bytes_eq-Decides a a).1 refl

pub same_peer-true : (p q : Peer) → same_peer p q ≡ true → p ≡ q
same_peer-true p q e =
    let a = both _ _ e in let b = both _ _ a.1 in
    let e1 : p.collector ≡ q.collector = eqb-true _ _ a.0 in
    let e2 : p.address ≡ q.address = same_address-true _ _ b.0 in
    let e3 : p.as_number ≡ q.as_number = eqb-true _ _ b.1 in
    λ i. record { collector = e1 i; address = e2 i; as_number = e3 i }

pub same_prefix-true : (x y : IpPrefix) → same_prefix x y ≡ true → x ≡ y
same_prefix-true x y e =
    let a = both _ _ e in
    let e1 : x.address ≡ y.address = same_address-true _ _ a.0 in
    let e2 : x.length ≡ y.length = eqb-true _ _ a.1 in
    λ i. record { address = e1 i; length = e2 i }

pub same_peer-itself : (p : Peer) → same_peer p p ≡ true
same_peer-itself p = all_true _ _ (eq-eqb p.collector p.collector refl) (all_true _ _ (same_address-itself p.address) (eq-eqb p.as_number p.as_number refl))

pub same_prefix-itself : (x : IpPrefix) → same_prefix x x ≡ true
same_prefix-itself x = all_true _ _ (same_address-itself x.address) (eq-eqb x.length x.length refl)

keys_one : (a b : KeyParts) → IsKeyParts a → IsKeyParts b → key_of a ≡ key_of b → a ≡ b
keys_one a b ia ib e =
    let l = key_list a ia in
    let octets : key_octets a ≡ key_octets b = key_octets_are (key_octets a) b l.size l.octets ib e in
    same_Some a b (sym (parts_again a ia) ∙ ap parts_at octets ∙ parts_again b ib)

-- one number is of one spot
pub one_spot : (s t : Spot) → IsPeer s.peer → IsPrefix s.prefix → IsPeer t.peer → IsPrefix t.prefix → spot_number s ≡ spot_number t → s ≡ t
one_spot s t ps xs pt xt e =
    let parts : OfPrefix s.peer s.prefix ≡ OfPrefix t.peer t.prefix = keys_one (OfPrefix s.peer s.prefix) (OfPrefix t.peer t.prefix) (ps, xs) (pt, xt) e in
    let peers : s.peer ≡ t.peer = cc in
    let prefixes : s.prefix ≡ t.prefix = cc in
    λ i. record { peer = peers i; prefix = prefixes i }
