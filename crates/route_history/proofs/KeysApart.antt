-- Keys are equal where peers and prefixes are.
use Rattle.std.proofs.Common.{◌≡◌, ◌&&◌, Bool, true, false, eqb, refl, sym, ap, ◌∙◌, subst}
use Rattle.std.proofs.lemmas.Bool.{eqb-true, eq-eqb}
use Rattle.std.proofs.lemmas.Option.{same_Some}
use Rattle.route_model.specs.declared.peer.Peer.{Peer}
use Rattle.route_model.specs.declared.key.KeyParts.{KeyParts}
use Rattle.route_model.specs.declared.key.KeyParts.TheVariants.{Session, Prefix as OfPrefix}
use Rattle.route_model.specs.Prefix.{IpPrefix, IsPrefix}
use Rattle.route_model.specs.Encoding.{IsPeer}
use Rattle.route_model.specs.Keys.{key_number, session_number, key_of, key_octets, IsKeyParts}
use Rattle.route_model.specs.inner.Codec.Admissions.{parts_at}
use Rattle.route_model.proofs.api.Keys.{key_list, key_octets_are, parts_again}
use Rattle.route_meaning.specs.Holds.{same_peer, same_prefix}
use Rattle.route_meaning.proofs.Holding.{both, all_true, same_peer-true, same_prefix-true, same_peer-itself, same_prefix-itself}

-- one key is of one session or prefix
pub keys_one : (a b : KeyParts) → IsKeyParts a → IsKeyParts b → key_of a ≡ key_of b → a ≡ b
keys_one a b ia ib e =
    let l = key_list a ia in
    let octets : key_octets a ≡ key_octets b = key_octets_are (key_octets a) b l.size l.octets ib e in
    same_Some a b (sym (parts_again a ia) ∙ ap parts_at octets ∙ parts_again b ib)

same_bool : (a b : Bool) → (a ≡ true → b ≡ true) → (b ≡ true → a ≡ true) → a ≡ b
same_bool true b f g = sym (f refl)
same_bool false true f g = g refl
same_bool false false f g = refl

never_true : (b : Bool) → (b ≡ true → ⊥) → b ≡ false
never_true true f = absurd (f refl)
never_true false f = refl

pub prefix-prefix : (p q : Peer) (x y : IpPrefix) → IsPeer p → IsPeer q → IsPrefix x → IsPrefix y → eqb (key_number p x) (key_number q y) ≡ (same_peer p q && same_prefix x y)
prefix-prefix p q x y hp hq hx hy = same_bool (eqb (key_number p x) (key_number q y)) (same_peer p q && same_prefix x y)
    (λ e. (
    let parts : OfPrefix p x ≡ OfPrefix q y = keys_one (OfPrefix p x) (OfPrefix q y) (hp, hx) (hq, hy) (eqb-true _ _ e) in
    let peers : p ≡ q = cc in
    let prefixes : x ≡ y = cc in
    all_true _ _ (subst (λ (r : Peer). same_peer p r ≡ true) peers (same_peer-itself p)) (subst (λ (z : IpPrefix). same_prefix x z ≡ true) prefixes (same_prefix-itself x))))
    (λ e. (
    let h = both _ _ e in
    let peers : p ≡ q = same_peer-true p q h.0 in
    let prefixes : x ≡ y = same_prefix-true x y h.1 in
    eq-eqb _ _ (λ i. key_number (peers i) (prefixes i))))

pub session-session : (p q : Peer) → IsPeer p → IsPeer q → eqb (session_number p) (session_number q) ≡ same_peer p q
session-session p q hp hq = same_bool (eqb (session_number p) (session_number q)) (same_peer p q)
    (λ e. (
    let parts : Session p ≡ Session q = keys_one (Session p) (Session q) hp hq (eqb-true _ _ e) in
    let peers : p ≡ q = cc in
    subst (λ (r : Peer). same_peer p r ≡ true) peers (same_peer-itself p)))
    (λ e. eq-eqb _ _ (ap session_number (same_peer-true p q e)))

apart : (p q : Peer) (y : IpPrefix) → IsPeer p → IsPeer q → IsPrefix y → session_number p ≡ key_number q y → ⊥
apart p q y hp hq hy e = let parts : Session p ≡ OfPrefix q y = keys_one (Session p) (OfPrefix q y) hp (hq, hy) e in cc

pub session-prefix : (p q : Peer) (y : IpPrefix) → IsPeer p → IsPeer q → IsPrefix y → eqb (session_number p) (key_number q y) ≡ false
session-prefix p q y hp hq hy = never_true _ (λ e. apart p q y hp hq hy (eqb-true _ _ e))

pub prefix-session : (p q : Peer) (x : IpPrefix) → IsPeer p → IsPeer q → IsPrefix x → eqb (key_number p x) (session_number q) ≡ false
prefix-session p q x hp hq hx = never_true _ (λ e. apart q p x hq hp hx (sym (eqb-true _ _ e)))
