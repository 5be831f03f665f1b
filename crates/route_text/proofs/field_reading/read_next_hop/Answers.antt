use Rattle.std.proofs.Common.{◌++◌, ap, sym, ◌∙◌, Ok, subst, List, ℕ, take, drop}
use Rattle.std.proofs.lemmas.List.{take-append-drop}
use Rattle.route_model.specs.declared.route.NextHop.TheVariants.{One, Pair}
use Rattle.route_text.specs.AddressText.{IsIpv6Text}
use Rattle.route_text.proofs.api.Addresses.{IsAddressText_unique, IsIpv6Text_same}
use Rattle.route_text.proofs.Cuts.{first_cut, Lacks-at, Lacks-same}
use Rattle.route_text.proofs.Fields.{one, pair, hop_text}
use Rattle.route_text.proofs.field_reading.read_next_hop.Goals as goal

pub returns-in_err-address-clause-only : goal.returns-in_err-address-clause-only
returns-in_err-address-clause-only c hop valid e =
    absurd (elim (hop_text c.args.text.now hop valid e) [
      | one a is valid_a read space ↦ c.in_err-address.ensures.none a read
      | pair o is p ↦ Lacks-at 32 _ _ (Lacks-same 32 _ _ p.text_is c.in_default.ensures.none)
    ])

pub returns-in_default-clause-only : goal.returns-in_default-clause-only
returns-in_default-clause-only c hop valid e =
    elim (hop_text c.args.text.now hop valid e) [
      | one a is valid_a read space ↦ ap Ok (ap One (IsAddressText_unique c.args.text.now c.in_ok-address.address a c.in_ok-address.ensures.found read) ∙ sym is)
      | pair o is p ↦ absurd (Lacks-at 32 _ _ (Lacks-same 32 _ _ p.text_is c.in_default.ensures.none))
    ]

pub returns-in_err-read_ipv6-clause-only : goal.returns-in_err-read_ipv6-clause-only
returns-in_err-read_ipv6-clause-only c hop valid e =
    absurd (elim (hop_text c.args.text.now hop valid e) [
      | one a is valid_a read space ↦ Lacks-at 32 _ _ (Lacks-same 32 _ _ c.in-Some.ensures.parts space)
      | pair o is p ↦
          let cut = first_cut 32 _ _ _ _ (sym c.in-Some.ensures.parts ∙ p.text_is) c.in-Some.ensures.first p.no_space in
          c.in_err-read_ipv6.ensures.none (take 16 o) (subst (λ (t : List ℕ). IsIpv6Text t (take 16 o)) (sym cut.0) p.global)
    ])

pub returns-in_err-read_ipv6-2-clause-only : goal.returns-in_err-read_ipv6-2-clause-only
returns-in_err-read_ipv6-2-clause-only c hop valid e =
    absurd (elim (hop_text c.args.text.now hop valid e) [
      | one a is valid_a read space ↦ Lacks-at 32 _ _ (Lacks-same 32 _ _ c.in-Some.ensures.parts space)
      | pair o is p ↦
          let cut = first_cut 32 _ _ _ _ (sym c.in-Some.ensures.parts ∙ p.text_is) c.in-Some.ensures.first p.no_space in
          c.in_err-read_ipv6-2.ensures.none (drop 16 o) (subst (λ (t : List ℕ). IsIpv6Text t (drop 16 o)) (sym cut.1) p.local)
    ])

pub returns-clause-only : goal.returns-clause-only
returns-clause-only c hop valid e =
    elim (hop_text c.args.text.now hop valid e) [
      | one a is valid_a read space ↦ absurd (Lacks-at 32 _ _ (Lacks-same 32 _ _ c.in-Some.ensures.parts space))
      | pair o is p ↦
          let cut = first_cut 32 _ _ _ _ (sym c.in-Some.ensures.parts ∙ p.text_is) c.in-Some.ensures.first p.no_space in
          let global = IsIpv6Text_same _ (take 16 o) c.in_ok-read_ipv6.field-0 (subst (λ (t : List ℕ). IsIpv6Text t (take 16 o)) (sym cut.0) p.global) c.in_ok-read_ipv6.ensures.found in
          let local = IsIpv6Text_same _ (drop 16 o) c.in_ok-read_ipv6-2.field-0 (subst (λ (t : List ℕ). IsIpv6Text t (drop 16 o)) (sym cut.1) p.local) c.in_ok-read_ipv6-2.ensures.found in
          let whole = c.pair_of-octets.ensures.octets ∙ (λ i. sym global i ++ sym local i) ∙ take-append-drop 16 o in
          ap Ok (ap Pair whole ∙ sym is)
    ]
