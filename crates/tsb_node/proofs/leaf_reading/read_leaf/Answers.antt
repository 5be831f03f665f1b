use Rattle.std.proofs.Common.{◌∙◌, ℕ, List, slice_index, ap, sym, subst}
use Rattle.route_model.specs.Units.{moments_in}
use Rattle.tsb_node.specs.Nodes.{IsBounds}
use Rattle.tsb_node.specs.Scaling.{IsKnownUnit}
use Rattle.tsb_node.specs.Leaves.{BeginsAsWrittenLeaf, IsLeafPage, scaled_leaf}
use Rattle.tsb_node.proofs.Leaves.{begins_page}
use Rattle.tsb_node.proofs.MomentLaws.{leaf_unit, known_at}
use Rattle.tsb_node.proofs.MomentLeaves.{found_leaf, none_leaf, page_in_moments, page_is}
use Rattle.tsb_node.proofs.leaf_reading.read_leaf.Goals as goal

pub returns-then-not-is_known-clause-none : goal.returns-then-not-is_known-clause-none
returns-then-not-is_known-clause-none c = λ leaf is.
    let e = sym (leaf_unit is.as_written c.args.page.now (begins_page is.as_written c.args.page.now is.page)) ∙ ap (λ (t : List ℕ). slice_index t 1) (sym c.octets-octets.ensures.value) in
    absurd (cc (c.is_known.ensures.1 (known_at _ _ e is.moments.known), c.if-not-is_known.true))

pub returns-in_default-clause-none : goal.returns-in_default-clause-none
returns-in_default-clause-none c = λ leaf is. absurd (c.in_default.ensures.none is.as_written is.page)

pub leaf_in_moments-requires : goal.leaf_in_moments-requires
leaf_in_moments-requires c = record { size = c.octets-octets.ensures.size; valid = subst IsBounds c.in-Some.ensures.found.2 c.in-Some.ensures.found.1.valid.bounds }

pub returns-clause-found : goal.returns-clause-found
returns-clause-found c =
    let octets = c.octets-octets.result.now in
    let found = c.in-Some.ensures.found in
    let known : IsKnownUnit (slice_index octets 1) = c.is_known.ensures.0 (cc c.if-not-is_known.false) in
    let known' = known_at _ _ (ap (λ (t : List ℕ). slice_index t 1) c.octets-octets.ensures.value) known in
    let begins = subst (BeginsAsWrittenLeaf found.0) (sym c.octets-octets.ensures.value) (begins_page found.0 c.args.page.now found.1) in
    found_leaf c.leaf_in_moments.result (scaled_leaf (moments_in known.unit) found.0) (λ l. IsLeafPage l c.args.page.now) (λ valid. page_in_moments found.0 c.args.page.now known' found.1 valid)
    (c.leaf_in_moments.ensures.leaf known found.0 begins found.2)

pub returns-clause-none : goal.returns-clause-none
returns-clause-none c =
    let octets = c.octets-octets.result.now in
    let found = c.in-Some.ensures.found in
    let known : IsKnownUnit (slice_index octets 1) = c.is_known.ensures.0 (cc c.if-not-is_known.false) in
    let known' = known_at _ _ (ap (λ (t : List ℕ). slice_index t 1) c.octets-octets.ensures.value) known in
    let begins = subst (BeginsAsWrittenLeaf found.0) (sym c.octets-octets.ensures.value) (begins_page found.0 c.args.page.now found.1) in
    none_leaf c.leaf_in_moments.result (scaled_leaf (moments_in known.unit) found.0) (λ l. IsLeafPage l c.args.page.now) (λ leaf is. page_is found.0 leaf c.args.page.now known' found.1 is)
    (c.leaf_in_moments.ensures.leaf known found.0 begins found.2)
