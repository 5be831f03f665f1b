-- Peers are the same exactly where their encodings are.
use Rattle.std.proofs.Common.{◌≡◌, ℕ, ◌==◌, ◌&&◌, Bool, true, false, refl, sym, ap, ◌∙◌, inl, inr}
use Rattle.std.specs.Str.{bytes_eq}
use Rattle.std.proofs.lemmas.Bool.{eqb-true, eq-eqb}
use Rattle.std.proofs.lemmas.Slice.Eq.{bytes_eq-Decides}
use Rattle.route_model.specs.declared.address.Address.{Address}
use Rattle.route_model.specs.declared.address.Address.TheVariants.{V4, V6}
use Rattle.route_model.specs.declared.peer.Peer.{Peer}
use Rattle.route_model.specs.contracts.peer.PeerPartialEq.TheImpl as peer_eq
use Rattle.route_model.specs.Encoding.{IsPeer, peer_octets}
use Rattle.route_model.proofs.Decoding.{peer_one}
use Rattle.route_model.proofs.TableRows.{bool_cases, same, is_same}

both : (a b : Bool) → (a && b) ≡ true → (a ≡ true) × (b ≡ true)
both true b e = (refl, e)
both false b e = cc

all_true : (a b : Bool) → a ≡ true → b ≡ true → (a && b) ≡ true
all_true a b e f = cc

abbrev pub same_address : Address → Address → Bool
same_address (V4 a) (V4 b) = bytes_eq a b
same_address (V4 a) (V6 b) = false
same_address (V6 a) (V4 b) = false
same_address (V6 a) (V6 b) = bytes_eq a b

abbrev pub same_peer : Peer → Peer → Bool
same_peer p q = (p.collector == q.collector) && (same_address p.address q.address && (p.as_number == q.as_number))

same_address-true : (a b : Address) → same_address a b ≡ true → a ≡ b
same_address-true (V4 a) (V4 b) e = ap V4 ((bytes_eq-Decides a b).0 e)
same_address-true (V4 a) (V6 b) e = cc
same_address-true (V6 a) (V4 b) e = cc
same_address-true (V6 a) (V6 b) e = ap V6 ((bytes_eq-Decides a b).0 e)

same_address-itself : (a : Address) → same_address a a ≡ true
same_address-itself (V4 a) = (bytes_eq-Decides a a).1 refl
same_address-itself (V6 a) = (bytes_eq-Decides a a).1 refl

same_peer-true : (p q : Peer) → same_peer p q ≡ true → p ≡ q
same_peer-true p q e =
    let a = both _ _ e in let b = both _ _ a.1 in
    let e1 : p.collector ≡ q.collector = eqb-true _ _ a.0 in
    let e2 : p.address ≡ q.address = same_address-true _ _ b.0 in
    let e3 : p.as_number ≡ q.as_number = eqb-true _ _ b.1 in
    λ i. record { collector = e1 i; address = e2 i; as_number = e3 i }

same_peer-itself : (p : Peer) → same_peer p p ≡ true
same_peer-itself p = all_true _ _ (eq-eqb p.collector p.collector refl) (all_true _ _ (same_address-itself p.address) (eq-eqb p.as_number p.as_number refl))

pub peers_reported : (p q : Peer) → IsPeer p → IsPeer q → same_peer p q ≡ bytes_eq (peer_octets p) (peer_octets q)
peers_reported p q is iq = elim (bool_cases (same_peer p q)) [
  | inl t ↦ t ∙ sym (ap (λ (x : Peer). bytes_eq (peer_octets x) (peer_octets q)) (same_peer-true p q t) ∙ same (peer_octets q))
  | inr f ↦ elim (bool_cases (bytes_eq (peer_octets p) (peer_octets q))) [
    | inl t ↦ ap (λ (x : Peer). same_peer x q) (peer_one p q is iq (is_same (peer_octets p) (peer_octets q) t)) ∙ same_peer-itself q ∙ sym t
    | inr g ↦ f ∙ sym g
  ]
]

parts_reported : (c d : ℕ) (a b : Address) (n m : ℕ) → (peer_eq.ghosts).eq (record { collector = c; address = a; as_number = n }) (record { collector = d; address = b; as_number = m }) ≡ same_peer (record { collector = c; address = a; as_number = n }) (record { collector = d; address = b; as_number = m })
parts_reported c d (V4 a) (V4 b) n m = refl
parts_reported c d (V4 a) (V6 b) n m = refl
parts_reported c d (V6 a) (V4 b) n m = refl
parts_reported c d (V6 a) (V6 b) n m = refl

pub eq_reported : (p q : Peer) → (peer_eq.ghosts).eq p q ≡ same_peer p q
eq_reported p q = parts_reported p.collector q.collector p.address q.address p.as_number q.as_number
