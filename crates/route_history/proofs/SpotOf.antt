-- The spot of a key, by what the key is made of.
use Rattle.std.proofs.Common.{◌≡◌, ℕ, sym, ◌∙◌, subst, Some, None, Option, IfSome}
use Rattle.std.proofs.lemmas.Option.{same_Some, none-some}
use Rattle.route_model.specs.declared.peer.Peer.{Peer}
use Rattle.route_model.specs.Prefix.{IpPrefix, IsPrefix}
use Rattle.route_model.specs.Encoding.{IsPeer}
use Rattle.route_model.specs.declared.key.KeyParts.{KeyParts}
use Rattle.route_model.specs.declared.key.KeyParts.TheVariants.{Session, Prefix as OfPrefix}
use Rattle.route_model.specs.Keys.{key_of, IsKeyParts}
use Rattle.route_history.specs.Walks.{spot_in, IsSpotOf}

module _ (key : ℕ) (o : Option KeyParts) (only : (parts : KeyParts) → IsKeyParts parts → key ≡ key_of parts → o ≡ Some parts) where
  pub found : (p : Peer) (x : IpPrefix) → o ≡ Some (OfPrefix p x) → IfSome o (λ parts. IsKeyParts parts × (key ≡ key_of parts)) → IsSpotOf key (Some (record { peer = p; prefix = x }))
  found p x e is =
      let h : (IsPeer p × IsPrefix x) × (key ≡ key_of (OfPrefix p x)) = subst (λ (a : Option KeyParts). IfSome a (λ parts. IsKeyParts parts × (key ≡ key_of parts))) e is in (
        h.0,
        sym h.1,
        λ q y hq hy same. (
            let parts : OfPrefix p x ≡ OfPrefix q y = same_Some _ _ (sym e ∙ only (OfPrefix q y) (hq, hy) (sym same)) in
            let peers : q ≡ p = cc in
            let prefixes : y ≡ x = cc in
            (peers, prefixes)),
      )

  pub session : (p : Peer) → o ≡ Some (Session p) → IsSpotOf key None
  session p e = λ q y hq hy same. (let parts : Session p ≡ OfPrefix q y = same_Some _ _ (sym e ∙ only (OfPrefix q y) (hq, hy) (sym same)) in cc)

  pub nothing : o ≡ None → IsSpotOf key None
  nothing e = λ q y hq hy same. none-some (OfPrefix q y) (sym e ∙ only (OfPrefix q y) (hq, hy) (sym same))

  pub by_parts : (parts : KeyParts) → o ≡ Some parts → IfSome o (λ parts. IsKeyParts parts × (key ≡ key_of parts)) → IsSpotOf key (spot_in parts)
  by_parts (OfPrefix p x) e is = found p x e is
  by_parts (Session p) e is = session p e
