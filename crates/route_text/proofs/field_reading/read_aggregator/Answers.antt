use Rattle.std.proofs.Common.{◌≡◌, ap, sym, ◌∙◌, Ok, Some, subst, List, ℕ, decimal}
use Rattle.std.specs.Net.Grammar.{IsDotted}
use Rattle.std.specs.Net.Text.{ipv4_text}
use Rattle.route_text.proofs.api.Addresses.{IsDotted_unique}
use Rattle.route_text.proofs.Cuts.{first_cut, Lacks-at, Lacks-same}
use Rattle.route_text.proofs.Fields.{not_nil, aggregator_parts}
use Rattle.route_text.proofs.Outcomes.{ok_or_err, ok_same}
use Rattle.route_text.proofs.field_reading.read_aggregator.Goals as goal

pub returns-in_default-clause-only : goal.returns-in_default-clause-only
returns-in_default-clause-only c a valid e =
    let p = aggregator_parts c.args.text.now a (not_nil c.args.text.now _ c.is_empty.ensures c.if-is_empty.false) valid e in
    absurd (Lacks-at 32 (decimal p.value.as_number) (ipv4_text p.value.address) (Lacks-same 32 _ _ p.text_is c.in_default.ensures.none))

pub returns-in_err-as_number-clause-only : goal.returns-in_err-as_number-clause-only
returns-in_err-as_number-clause-only c a valid e =
    let p = aggregator_parts c.args.text.now a (not_nil c.args.text.now _ c.is_empty.ensures c.if-is_empty.false) valid e in
    let cut = first_cut 32 _ _ _ _ (sym c.in-Some.ensures.parts ∙ p.text_is) c.in-Some.ensures.first p.no_space in
    absurd (ok_or_err c.read_u32.result p.value.as_number _ (c.read_u32.ensures.only p.value.as_number p.valid.as_number cut.0) c.in_err-as_number.was)

pub returns-in_err-address-clause-only : goal.returns-in_err-address-clause-only
returns-in_err-address-clause-only c a valid e =
    let p = aggregator_parts c.args.text.now a (not_nil c.args.text.now _ c.is_empty.ensures c.if-is_empty.false) valid e in
    let cut = first_cut 32 _ _ _ _ (sym c.in-Some.ensures.parts ∙ p.text_is) c.in-Some.ensures.first p.no_space in
    absurd (c.in_err-address.ensures.none p.value.address (subst (λ (t : List ℕ). IsDotted t p.value.address) (sym cut.1) p.address))

pub returns-clause-only : goal.returns-clause-only
returns-clause-only c a valid e =
    let p = aggregator_parts c.args.text.now a (not_nil c.args.text.now _ c.is_empty.ensures c.if-is_empty.false) valid e in
    let cut = first_cut 32 _ _ _ _ (sym c.in-Some.ensures.parts ∙ p.text_is) c.in-Some.ensures.first p.no_space in
    let number = ok_same c.read_u32.result p.value.as_number _ (c.read_u32.ensures.only p.value.as_number p.valid.as_number cut.0) c.in_ok-as_number.was in
    let address = IsDotted_unique _ p.value.address c.in_ok-address.address (subst (λ (t : List ℕ). IsDotted t p.value.address) (sym cut.1) p.address) c.in_ok-address.ensures.found in
    let same : p.value ≡ record { as_number = c.in_ok-as_number.as_number; address = c.in_ok-address.address } = λ i. record { as_number = number i; address = address i } in
    ap Ok (sym (p.is ∙ ap Some same))
