use Rattle.std.proofs.Common.{◌≡◌, ◌∙◌, None, length, drop, ap, sym, subst, refl}
use Rattle.std.specs.List.{All}
use Rattle.std.specs.Option.{is_some}
use Rattle.version_model.specs.declared.bounds.Bounds.{Bounds}
use Rattle.tsb_node.specs.inner.NodeReading.{BeginsAsNode}
use Rattle.tsb_node.proofs.ReadingLaws.{none_from}
use Rattle.tsb_node.proofs.NodeLaws.{page_begins, page_made, page_zeros, nodes_same}
use Rattle.tsb_node.proofs.node_reading.node_of_page.Goals as goal

pub returns-then-not-are_zeros-clause-none : goal.returns-then-not-are_zeros-clause-none
returns-then-not-are_zeros-clause-none c = λ h es page.
    let there : c.split_at.result.1.now ≡ drop 16352 c.args.page.now = c.split_at.ensures.back ∙ ap (drop 16352) c.octets-octets.ensures.value in
    absurd (cc (c.are_zeros.ensures.1 (subst (All (λ octet. octet ≡ 0)) (sym there) (page_zeros h es c.args.page.now page)), c.if-not-are_zeros.true))

pub returns-in_default-clause-none : goal.returns-in_default-clause-none
returns-in_default-clause-none c = λ h es page.
    absurd (c.in_default.ensures.none h es (subst (BeginsAsNode h es) (sym c.octets-octets.ensures.value) (page_begins h es c.args.page.now page)))

pub returns-then-is_some-clause-none : goal.returns-then-is_some-clause-none
returns-then-is_some-clause-none c = λ h es page.
    let found = c.in-Some.ensures.found in
    let other = subst (BeginsAsNode c.in-Some.header c.in-Some.entries.now) c.octets-octets.ensures.value found in
    let same = (nodes_same c.in-Some.header h c.in-Some.entries.now es c.args.page.now other (page_begins h es c.args.page.now page)).bounds in
    let none : c.in-Some.header.bounds.end ≡ None = ap (λ (b : Bounds). b.end) same ∙ page.page.current in
    absurd (cc (c.is_some.ensures ∙ ap is_some none, c.if-is_some.true))

pub returns-clause-found : goal.returns-clause-found
returns-clause-found c =
    let found = c.in-Some.ensures.found in
    let other = subst (BeginsAsNode c.in-Some.header c.in-Some.entries.now) c.octets-octets.ensures.value found in
    let there : c.split_at.result.1.now ≡ drop 16352 c.args.page.now = c.split_at.ensures.back ∙ ap (drop 16352) c.octets-octets.ensures.value in
    let size : length c.args.page.now ≡ 16384 = sym (ap length c.octets-octets.ensures.value) ∙ c.octets-octets.ensures.size in
    let current : c.in-Some.header.bounds.end ≡ None = none_from c.in-Some.header.bounds.end (sym c.is_some.ensures ∙ c.if-is_some.false) in
    page_made c.in-Some.header c.in-Some.entries.now c.args.page.now other size current (subst (All (λ octet. octet ≡ 0)) there (c.if-not-are_zeros.ensures.0 refl))
