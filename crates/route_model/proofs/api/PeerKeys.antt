-- The keys of one peer follow one another, its session's first.
use Rattle.std.proofs.Common.{◌≡◌, ℕ, zero, suc, ◌<◌, ◌+◌, ◌-◌, ◌*◌, ◌^◌, List, [], ◌∷◌, ◌++◌, length, take, drop, replicate, refl, sym, ap, ◌∙◌, arith, subst}
use Rattle.std.proofs.lemmas.List.{take-append-drop, length-drop}
use Rattle.route_model.specs.declared.peer.Peer.{Peer}
use Rattle.route_model.specs.Address.{family, wide}
use Rattle.route_model.specs.Octets.{AreOctets}
use Rattle.route_model.specs.Prefix.{IpPrefix, IsPrefix}
use Rattle.route_model.specs.Encoding.{peer_octets}
use Rattle.route_model.specs.Keys.{number_of, key_number, session_number}
use Rattle.route_model.proofs.api.KeyNumbers.{number_of-append, number_lt}
use Rattle.route_model.proofs.api.Keys.{ending_tail, prefix_key-parts}
use Rattle.route_model.specs.PeerKeys.{peer_span, first_key, tail}

pub zeros_number : number_of (replicate 18 0) ≡ 0
unfolding number_of
zeros_number = refl

pub last_number : number_of (replicate 18 255) ≡ peer_span - 1
unfolding number_of
last_number = refl

pub session_is : (p : Peer) → session_number p ≡ number_of (peer_octets p) * peer_span
session_is p = number_of-append (peer_octets p) (replicate 18 0) ∙ omega (arith, zeros_number)

pub tail_fits : (x : IpPrefix) → IsPrefix x → tail x < peer_span
tail_fits x is = let t = ending_tail x is in subst (λ (n : ℕ). tail x < 256 ^ n) t.size (number_lt (family x.address ∷ wide x.address ++ x.length ∷ []) t.octets)

-- where a prefix's key stands
pub key_is : (p : Peer) (x : IpPrefix) → IsPrefix x → key_number p x ≡ session_number p + tail x
key_is p x is =
    let t = ending_tail x is in
    let e : number_of (peer_octets p ++ (family x.address ∷ wide x.address ++ x.length ∷ [])) ≡ number_of (peer_octets p) * 256 ^ 18 + tail x = subst (λ (n : ℕ). number_of (peer_octets p ++ (family x.address ∷ wide x.address ++ x.length ∷ [])) ≡ number_of (peer_octets p) * 256 ^ n + tail x) t.size (number_of-append (peer_octets p) (family x.address ∷ wide x.address ++ x.length ∷ [])) in
    ap number_of (prefix_key-parts p x) ∙ e ∙ omega (arith, session_is p)

first_key_of : (a r : ℕ) → r < peer_span → first_key (a * peer_span + r) ≡ a * peer_span
first_key_of a r lt = omega arith

pub session_first : (p : Peer) → first_key (session_number p) ≡ session_number p
session_first p = omega (arith, session_is p)

pub key_first : (p : Peer) (x : IpPrefix) → IsPrefix x → first_key (key_number p x) ≡ session_number p
key_first p x is = ap first_key (key_is p x is ∙ omega (arith, session_is p)) ∙ first_key_of (number_of (peer_octets p)) (tail x) (tail_fits x is) ∙ sym (session_is p)

-- another end of a key
pub retailed : (o t : List ℕ) → length o ≡ 40 → length t ≡ 18 → AreOctets o → number_of (take 22 o ++ t) ≡ first_key (number_of o) + number_of t
retailed o t size few octets =
    let rest : length (drop 22 o) ≡ 18 = omega (arith, length-drop 22 o, size) in
    let beyond : AreOctets (drop 22 o) = AreOctets-drop 22 o octets in
    let fits : number_of (drop 22 o) < 256 ^ 18 = subst (λ (n : ℕ). number_of (drop 22 o) < 256 ^ n) rest (number_lt (drop 22 o) beyond) in
    let whole : number_of o ≡ number_of (take 22 o) * peer_span + number_of (drop 22 o) = ap number_of (sym (take-append-drop 22 o)) ∙ number_of-append (take 22 o) (drop 22 o) ∙ ap (λ (n : ℕ). number_of (take 22 o) * 256 ^ n + number_of (drop 22 o)) rest in
    let first : first_key (number_of o) ≡ number_of (take 22 o) * peer_span = ap first_key whole ∙ first_key_of (number_of (take 22 o)) (number_of (drop 22 o)) fits in
    number_of-append (take 22 o) t ∙ ap (λ (n : ℕ). number_of (take 22 o) * 256 ^ n + number_of t) few ∙ omega (arith, first)
  where
    AreOctets-tail : (x : ℕ) (xs : List ℕ) → AreOctets (x ∷ xs) → AreOctets xs
    AreOctets-tail x xs all i = all (suc i)

    AreOctets-drop : (n : ℕ) (xs : List ℕ) → AreOctets xs → AreOctets (drop n xs)
    AreOctets-drop zero xs all = all
    AreOctets-drop (suc n) [] all = all
    AreOctets-drop (suc n) (x ∷ xs) all = AreOctets-drop n xs (AreOctets-tail x xs all)

-- a prefix takes eighteen octets of a key
pub tail_size : (x : IpPrefix) → IsPrefix x → length (family x.address ∷ wide x.address ++ x.length ∷ []) ≡ 18
tail_size x is = (ending_tail x is).size
