-- The announced prefixes in a set by their order.
use Rattle.std.proofs.Common.{◌≡◌, ◌∙◌, ◌&&◌, ℕ, List, Bool, refl, ap, eqb, arith}
use Rattle.std.specs.BTreeSet.{BTreeSet, contains, IsFromIterResult}
use Rattle.std.specs.List.{list_any}
use Rattle.std.specs.Ordering.{nat_cmp, ordering_then, is_eq, eq_by_cmp}
use Rattle.std.specs.declared.cmp.Ordering.{Ordering}
use Rattle.std.specs.declared.cmp.Ordering.TheVariants.{Less, Equal, Greater}
use Rattle.std.proofs.lemmas.Bool.Decides.{nat_tests}
use Rattle.std.proofs.lemmas.Map.Text.{is_eq-slice_cmp}
use Rattle.route_model.specs.Prefix.{IpPrefix}
use Rattle.route_model.specs.declared.address.Address.{Address}
use Rattle.route_model.specs.declared.address.Address.TheVariants.{V4, V6}
use Rattle.route_model.specs.contracts.address.AddressOrd.TheImpl as address_ord
use Rattle.route_model.specs.contracts.prefix.PrefixOrd.TheImpl as prefix_ord
use Rattle.route_meaning.specs.Holds.{same_address, same_prefix}

equal_then : (o p : Ordering) → is_eq (ordering_then o p) ≡ (is_eq o && is_eq p)
equal_then Less p = refl
equal_then Equal p = refl
equal_then Greater p = refl

equal_numbers : (m n : ℕ) → is_eq (nat_cmp m n) ≡ eqb m n
equal_numbers m n = grind (arith, nat_tests)

equal_addresses : (a b : Address) → is_eq ((address_ord.cmp-value).it a b) ≡ same_address a b
equal_addresses (V4 a) (V4 b) = is_eq-slice_cmp a b
equal_addresses (V4 a) (V6 b) = refl
equal_addresses (V6 a) (V4 b) = refl
equal_addresses (V6 a) (V6 b) = is_eq-slice_cmp a b

equal_prefixes : (x y : IpPrefix) → eq_by_cmp (prefix_ord.cmp-value).it x y ≡ same_prefix x y
equal_prefixes x y =
    equal_then ((address_ord.cmp-value).it x.address y.address) (nat_cmp x.length y.length)
    ∙ ap (λ (b : Bool). b && is_eq (nat_cmp x.length y.length)) (equal_addresses x.address y.address)
    ∙ ap (λ (b : Bool). same_address x.address y.address && b) (equal_numbers x.length y.length)

-- a set of the prefixes has exactly those that are among them
pub set_has : (set : BTreeSet IpPrefix) (prefixes : List IpPrefix) (x : IpPrefix) → IsFromIterResult (prefix_ord.cmp-value).it prefixes set
    → contains (prefix_ord.cmp-value).it set x ≡ list_any (λ y. same_prefix x y) prefixes
set_has set prefixes x made = made.0 x ∙ (λ i. list_any (λ y. equal_prefixes x y i) prefixes)
