use Rattle.std.proofs.Common.{ℕ, List, [], ◌∷◌, ◌++◌, subst, sym, ap, ◌∙◌}
use Rattle.std.proofs.lemmas.List.{nil_from_length}
use Rattle.route_text.proofs.Hexadecimals.{OctetsLeft, octets_begin, octets_end, octets_odd, next_octet}
use Rattle.route_text.proofs.Outcomes.{ok_or_err, ok_same}
use Rattle.route_text.proofs.hexadecimal.read_octets.Goals as goal

pub loop-high-init : goal.loop-high-init
loop-high-init c all octets e =
    subst (λ (t : List ℕ). OctetsLeft all t c.args.text.now) (sym c.in_ok-octets.ensures.items) (octets_begin all c.args.text.now octets e)

pub returns-in_default-split_first : goal.returns-in_default-split_first
returns-in_default-split_first c = record {
  only = λ all octets e.
      let left = c.loop-high.invariant all octets e in
      let one = c.in-Some.ensures.cases.0 ∙ ap (λ t. c.in-Some.high.now ∷ t) (nil_from_length c.in-Some.beyond.now c.in_default-split_first.ensures.cases) in
      absurd (octets_odd all c.loop-high.octets.items c.in-Some.high.now (subst (OctetsLeft all c.loop-high.octets.items) one left));
}

pub returns-in_err-octet_of : goal.returns-in_err-octet_of
returns-in_err-octet_of c = record {
  only = λ all octets e.
      let left = c.loop-high.invariant all octets e in
      let two = c.in-Some.ensures.cases.0 ∙ ap (λ t. c.in-Some.high.now ∷ t) c.in-Some-split_first.ensures.cases.0 in
      let next = next_octet all c.loop-high.octets.items c.in-Some-split_first.after.now c.in-Some.high.now c.in-Some-split_first.low.now (subst (OctetsLeft all c.loop-high.octets.items) two left) in
      absurd (ok_or_err c.octet_of.result next.octet _ (c.octet_of.ensures.only next.octet next.small next.high_digit next.low_digit) c.in_err-octet_of.was);
}

pub loop-high-preserved : goal.loop-high-preserved
loop-high-preserved c all octets e =
    let left = c.loop-high.invariant all octets e in
    let two = c.in-Some.ensures.cases.0 ∙ ap (λ t. c.in-Some.high.now ∷ t) c.in-Some-split_first.ensures.cases.0 in
    let next = next_octet all c.loop-high.octets.items c.in-Some-split_first.after.now c.in-Some.high.now c.in-Some-split_first.low.now (subst (OctetsLeft all c.loop-high.octets.items) two left) in
    let same = ok_same c.octet_of.result next.octet c.in_ok-octet_of.field-0 (c.octet_of.ensures.only next.octet next.small next.high_digit next.low_digit) c.in_ok-octet_of.was in
    let items = ap (λ o. c.loop-high.octets.items ++ o ∷ []) same ∙ sym c.in_ok-push.ensures.items in
    subst (λ (t : List ℕ). OctetsLeft all t c.in-Some-split_first.after.now) items next.left

pub returns : goal.returns
returns c = record {
  only = λ all octets e.
      let left = c.loop-high.invariant all octets e in
      octets_end all c.loop-high.octets.items (subst (OctetsLeft all c.loop-high.octets.items) (nil_from_length c.loop-high.rest.now c.in_default.ensures.cases) left);
}
