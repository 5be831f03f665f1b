-- Keys are below the end of all keys, and none is the last one before it.
use Rattle.std.proofs.Common.{◌≡◌, ℕ, suc, ◌+◌, ◌*◌, ◌<◌, ◌≤◌, ◌^◌, List, [], ◌∷◌, ◌++◌, length, replicate, sym, ap, subst, arith}
use Rattle.std.specs.Int.{w32, to_be_bytes}
use Rattle.route_model.specs.declared.address.Address.{Address}
use Rattle.route_model.specs.declared.address.Address.TheVariants.{V4, V6}
use Rattle.route_model.specs.declared.change.Change.{Change}
use Rattle.route_model.specs.declared.change.Change.TheVariants.{Announce, Withdraw, Down}
use Rattle.route_model.specs.declared.peer.Peer.{Peer}
use Rattle.route_model.specs.Address.{family, wide}
use Rattle.route_model.specs.Admission.{IsChange}
use Rattle.route_model.specs.Octets.{AreOctets}
use Rattle.route_model.specs.Prefix.{IpPrefix, IsPrefix}
use Rattle.route_model.specs.Encoding.{IsPeer, peer_octets}
use Rattle.route_model.specs.Keys.{number_of, key_number}
use Rattle.route_model.proofs.api.KeyNumbers.{number_lt}
use Rattle.route_model.proofs.api.Keys.{IsTail, zeros_tail, ending_tail, prefix_key-parts, key_size, key_octets_fit}
use Rattle.version_model.specs.Ranges.{key_end}
use Rattle.route_history.specs.Kept.{key_of}

pub key_below : (p : Peer) (x : IpPrefix) → IsPeer p → IsPrefix x → key_number p x < 2 ^ 320
key_below p x ip ix =
    let t = ending_tail x ix in
    let o : List ℕ = peer_octets p ++ (family x.address ∷ wide x.address ++ x.length ∷ []) in
    let size : length o ≡ 40 = key_size p (family x.address ∷ wide x.address ++ x.length ∷ []) ip t in
    let octets : AreOctets o = key_octets_fit p (family x.address ∷ wide x.address ++ x.length ∷ []) ip t in
    subst (λ (n : ℕ). n < 2 ^ 320) (ap number_of (sym (prefix_key-parts p x))) (subst (λ (n : ℕ). number_of o < 256 ^ n) size (number_lt o octets))

-- forty octets of which the second is at most 6 aren't the highest number
not_last : (c f : ℕ) (rest : List ℕ) → length rest ≡ 38 → c < 256 → f ≤ 6 → AreOctets rest → number_of (c ∷ f ∷ rest) + 1 < 2 ^ 320
unfolding number_of
not_last c f rest len low few octets =
    let r : number_of rest < 256 ^ 38 = subst (λ (n : ℕ). number_of rest < 256 ^ n) len (number_lt rest octets) in
    let e : c * 256 ^ suc (length rest) + (f * 256 ^ length rest + number_of rest) ≡ c * 256 ^ 39 + (f * 256 ^ 38 + number_of rest) = ap (λ (n : ℕ). c * 256 ^ suc n + (f * 256 ^ n + number_of rest)) len in
    omega (arith, e, r, low, few)

family_few : (a : Address) → family a ≤ 6
family_few (V4 o) = omega arith
family_few (V6 o) = omega arith

peer_not_last : (p : Peer) (tail : List ℕ) → IsPeer p → IsTail tail → number_of (peer_octets p ++ tail) + 1 < 2 ^ 320
peer_not_last p tail ip t =
    let rest : List ℕ = (wide p.address ++ to_be_bytes w32 p.as_number) ++ tail in
    let size = key_size p tail ip t in
    not_last p.collector (family p.address) rest (let len : suc (suc (length rest)) ≡ 40 = size in omega (arith, len)) ip.collector (family_few p.address) (λ i. key_octets_fit p tail ip t (suc (suc i)))

-- the highest key of all is none of a change
pub key_inside : (c : Change) → IsChange c → key_of c + 1 < key_end
key_inside (Announce p x r) is =
    subst (λ (n : ℕ). n + 1 < 2 ^ 320) (ap number_of (sym (prefix_key-parts p x))) (peer_not_last p (family x.address ∷ wide x.address ++ x.length ∷ []) is.0 (ending_tail x is.1))
key_inside (Withdraw p x) is =
    subst (λ (n : ℕ). n + 1 < 2 ^ 320) (ap number_of (sym (prefix_key-parts p x))) (peer_not_last p (family x.address ∷ wide x.address ++ x.length ∷ []) is.0 (ending_tail x is.1))
key_inside (Down p) is = peer_not_last p (replicate 18 0) is zeros_tail
