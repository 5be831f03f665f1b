use Rattle.std.proofs.Common.{sym, ◌∙◌}
use Rattle.route_text.proofs.Cuts.{first_cut}
use Rattle.route_text.proofs.Fields.{attribute_parts}
use Rattle.route_text.proofs.Outcomes.{ok_or_err, ok_same, reads_ok, reads_err, reads_passed}
use Rattle.route_text.proofs.attribute_reading.read_attribute.Goals as goal

pub returns-in_err-kind-clause-only : goal.returns-in_err-kind-clause-only
returns-in_err-kind-clause-only c a valid e =
    let p = attribute_parts c.args.word.now a valid e in
    let cut = first_cut 47 _ _ _ _ (sym c.in-Some.ensures.parts ∙ p.text_is) c.in-Some.ensures.first p.no_slash in
    absurd (ok_or_err c.read_u8.result a.kind _ (c.read_u8.ensures.only a.kind valid.kind cut.0) c.in_err-kind.was)

pub returns-in_err-flags-clause-only : goal.returns-in_err-flags-clause-only
returns-in_err-flags-clause-only c a valid e =
    let p = attribute_parts c.args.word.now a valid e in
    let cut = first_cut 47 _ _ _ _ (sym c.in-Some.ensures.parts ∙ p.text_is) c.in-Some.ensures.first p.no_slash in
    let second = first_cut 47 _ _ _ _ (sym c.in-Some-cut_at_first.ensures.parts ∙ cut.1) c.in-Some-cut_at_first.ensures.first p.no_second in
    absurd (ok_or_err c.read_octet.result a.flags _ (c.read_octet.ensures.only a.flags valid.flags (c.as_bytes.ensures.value ∙ second.0)) c.in_err-flags.was)

pub returns-in_err-value-clause-only : goal.returns-in_err-value-clause-only
returns-in_err-value-clause-only c a valid e =
    let p = attribute_parts c.args.word.now a valid e in
    let cut = first_cut 47 _ _ _ _ (sym c.in-Some.ensures.parts ∙ p.text_is) c.in-Some.ensures.first p.no_slash in
    let second = first_cut 47 _ _ _ _ (sym c.in-Some-cut_at_first.ensures.parts ∙ cut.1) c.in-Some-cut_at_first.ensures.first p.no_second in
    let memory = reads_err (λ x. x) c.read_value.result a.value _ c.in_err-value.was (c.read_value.ensures.only a.value valid.size valid.octets second.1) in
    reads_passed _ c.from_residual-in_err-value.result a _ c.from_residual-in_err-value.ensures.1 memory

pub returns-clause-only : goal.returns-clause-only
returns-clause-only c a valid e =
    let p = attribute_parts c.args.word.now a valid e in
    let cut = first_cut 47 _ _ _ _ (sym c.in-Some.ensures.parts ∙ p.text_is) c.in-Some.ensures.first p.no_slash in
    let second = first_cut 47 _ _ _ _ (sym c.in-Some-cut_at_first.ensures.parts ∙ cut.1) c.in-Some-cut_at_first.ensures.first p.no_second in
    let kind = ok_same c.read_u8.result a.kind c.in_ok-kind.kind (c.read_u8.ensures.only a.kind valid.kind cut.0) c.in_ok-kind.was in
    let flags = ok_same c.read_octet.result a.flags c.in_ok-flags.flags (c.read_octet.ensures.only a.flags valid.flags (c.as_bytes.ensures.value ∙ second.0)) c.in_ok-flags.was in
    let value = reads_ok (λ x. x) c.read_value.result a.value c.in_ok-value.value c.in_ok-value.was (c.read_value.ensures.only a.value valid.size valid.octets second.1) in
    λ i. record { kind = sym kind i; flags = sym flags i; value = value i }
