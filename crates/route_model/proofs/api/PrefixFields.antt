-- Laws of prefixes as fields.
use Rattle.std.proofs.Common.{◌≡◌, ℕ, ◌+◌, ◌-◌, ◌/◌, List, ◌++◌, length, drop, replicate, sym, ap, ◌∙◌, arith}
use Rattle.route_model.specs.declared.address.Address.{Address}
use Rattle.route_model.specs.declared.address.Address.TheVariants.{V4, V6}
use Rattle.route_model.specs.Address.{octets, family}
use Rattle.route_model.specs.Prefix.{IpPrefix, cleared}
use Rattle.route_model.proofs.api.Sequences.{IsPrefixFree, same_fronts}
use Rattle.route_model.specs.declared.wire.Family.{Family}
use Rattle.route_model.specs.PrefixFields.{address_size, IsPrefixField}
use Rattle.route_model.proofs.api.Fronts.{same_first}

-- an address is its family and its octets
same_address : (x y : Address) → family x ≡ family y → octets x ≡ octets y → x ≡ y
same_address (V4 a) (V4 b) f o = ap (λ (t : List ℕ). V4 t) o
same_address (V4 a) (V6 b) f o = absurd (omega (arith, f))
same_address (V6 a) (V4 b) f o = absurd (omega (arith, f))
same_address (V6 a) (V6 b) f o = ap (λ (t : List ℕ). V6 t) o

abbrev pub made : Address → ℕ → IpPrefix
made a n = record { address = a; length = n }

pub prefixes_free : (of : Family) → IsPrefixFree (IsPrefixField of)
prefixes_free of = record {
  one = λ a b x y v w p q e.
      let first = same_first a b x y p.some q.some e in
      let bits : v.length ≡ w.length = p.bits ∙ first ∙ sym q.bits in
      let size : length a ≡ length b = p.size ∙ ap (λ (n : ℕ). 1 + (n + 7) / 8) bits ∙ sym q.size in
      let fronts = same_fronts a b x y size e in
      let parts : octets v.address ≡ octets w.address =
      p.address ∙ ap (λ (n : ℕ). cleared n (drop 1 a ++ replicate (address_size of - (n + 7) / 8) 0)) bits
      ∙ ap (λ (t : List ℕ). cleared w.length (drop 1 t ++ replicate (address_size of - (w.length + 7) / 8) 0)) fronts.0 ∙ sym q.address in
      let address = same_address v.address w.address (p.family ∙ sym q.family) parts in
      (fronts.0, ap (λ (t : Address). made t v.length) address ∙ ap (λ (n : ℕ). made w.address n) bits);
  some = λ v p. omega (arith, p.some);
}
