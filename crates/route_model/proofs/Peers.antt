-- Peers: what was written is read again, and what was read was written so.
use Rattle.std.proofs.Common.{◌≡◌, ℕ, ◌^◌, List, [], ◌∷◌, ◌++◌, length, replicate, Option, Some, None, refl, sym, ap, subst, ◌∙◌, append_assoc, arith}
use Rattle.std.specs.Int.{w32, to_be_bytes}
use Rattle.std.proofs.lemmas.List.{length-append, append-nil}
use Rattle.route_model.specs.declared.address.Address.{Address}
use Rattle.route_model.specs.declared.address.Address.TheVariants.{V4, V6}
use Rattle.route_model.specs.declared.peer.Peer.{Peer}
use Rattle.route_model.specs.Address.{IsAddress, family, wide}
use Rattle.route_model.specs.Encoding.{IsPeer, peer_octets, EncodesPeer}
use Rattle.route_model.specs.inner.Codec.{wide_address, peer_at, whole}
use Rattle.route_model.proofs.Fields.{some_is, wide32, number_again, octets_again}

pub length-wide : (a : Address) → IsAddress a → length (wide a) ≡ 16
length-wide (V4 o) h = omega (arith, h.0, length-append o (replicate 12 0))
length-wide (V6 o) h = h.0

pub wide_again : (a : Address) → IsAddress a → wide_address (family a) (wide a) ≡ Some a
wide_again (V4 []) h = absurd (omega (arith, h.0))
wide_again (V4 (w ∷ [])) h = absurd (omega (arith, h.0))
wide_again (V4 (w ∷ x ∷ [])) h = absurd (omega (arith, h.0))
wide_again (V4 (w ∷ x ∷ y ∷ [])) h = absurd (omega (arith, h.0))
wide_again (V4 (w ∷ x ∷ y ∷ z ∷ [])) h = refl
wide_again (V4 (w ∷ x ∷ y ∷ z ∷ v ∷ o)) h = absurd (omega (arith, h.0))
wide_again (V6 o) h = refl

pub peer_again : (p : Peer) (rest : List ℕ) → IsPeer p → peer_at (peer_octets p ++ rest) ≡ Some (p, rest)
unfolding peer_at
peer_again p rest is =
    let regrouped : peer_octets p ++ rest ≡ p.collector ∷ family p.address ∷ (wide p.address ++ (to_be_bytes w32 p.as_number ++ rest)) = ap (λ (x : List ℕ). p.collector ∷ family p.address ∷ x) (append_assoc (wide p.address) (to_be_bytes w32 p.as_number) rest) in
    ap peer_at regrouped ∙ rw (octets_again (wide p.address) (to_be_bytes w32 p.as_number ++ rest) 16 (length-wide p.address is.address), wide_again p.address is.address, number_again w32 (2 ^ 32) wide32 p.as_number rest is.as_number) refl

pub peer_only : (p : Peer) → IsPeer p → whole (peer_at (peer_octets p)) ≡ Some p
peer_only p is =
    let e : peer_at (peer_octets p ++ []) ≡ Some (p, []) = peer_again p [] is in
    let f : peer_at (peer_octets p) ≡ Some (p, []) = subst (λ (t : List ℕ). peer_at t ≡ Some (p, [])) (append-nil (peer_octets p)) e in
    rw f refl

-- what was read from an encoding is the value
pub read_one : {A : Type 0} (read : Option (A × List ℕ)) (x p : A) (rest : List ℕ) → read ≡ Some (x, rest) → read ≡ Some (p, []) → x ≡ p
read_one read x p rest e f = ap (λ (y : _ × List ℕ). y.0) (some_is (x, rest) (p, []) (sym e ∙ f))

pub read_some : {A : Type 0} (read : Option (A × List ℕ)) (p : A) → read ≡ None → read ≡ Some (p, []) → ⊥
read_some None p e f = absurd cc
read_some (Some x) p e f = absurd cc

pub peer_encoded : (p : Peer) (bytes : List ℕ) → EncodesPeer p bytes → peer_at bytes ≡ Some (p, [])
peer_encoded p bytes is = ap peer_at (is.encoded ∙ sym (append-nil (peer_octets p))) ∙ peer_again p [] is.valid
