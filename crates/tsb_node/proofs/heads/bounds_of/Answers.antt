use Rattle.std.proofs.Common.{◌∙◌, ℕ, ap, sym, subst}
use Rattle.std.specs.declared.result.Result.TheVariants.{Ok}
use Rattle.route_model.specs.Units.{moments_in}
use Rattle.tsb_node.specs.Nodes.{IsBounds, AreInOrder}
use Rattle.tsb_node.specs.Scaling.{scaled_bounds}
use Rattle.tsb_node.proofs.HeaderLaws.{has_represents}
use Rattle.tsb_node.proofs.ReadingLaws.{header_one}
use Rattle.tsb_node.proofs.MomentLaws.{known_at}
use Rattle.tsb_node.proofs.heads.bounds_of.Goals as goal

pub returns-in_default-clause-bounds : goal.returns-in_default-clause-bounds
returns-in_default-clause-bounds c = λ header known has kind level fits. absurd (c.in_default.ensures.none header has)

pub returns-then-not-is_known-clause-bounds : goal.returns-then-not-is_known-clause-bounds
returns-then-not-is_known-clause-bounds c = λ header known has kind level fits.
    let same = header_one c.in-Some.header header c.args.octets.now c.in-Some.ensures.found has in
    absurd (cc (c.is_known.ensures.1 (known_at header.unit c.in-Some.header.unit (sym same.unit) known), c.if-not-is_known.true))

pub returns-then-not-is_of_kind-clause-bounds : goal.returns-then-not-is_of_kind-clause-bounds
returns-then-not-is_of_kind-clause-bounds c = λ header known has kind level fits.
    let same = header_one c.in-Some.header header c.args.octets.now c.in-Some.ensures.found has in
    absurd (cc (c.is_of_kind.ensures.1 (same.kind ∙ kind, same.level ∙ level), c.if-not-is_of_kind.true))

pub returns-in_default-bounds_in_moments-clause-bounds : goal.returns-in_default-bounds_in_moments-clause-bounds
returns-in_default-bounds_in_moments-clause-bounds c = λ header known has kind level fits.
    let same = header_one c.in-Some.header header c.args.octets.now c.in-Some.ensures.found has in
    let b = c.in-Some.header.bounds in
    let unit = c.moments_of-k.ensures.moments (known_at header.unit c.in-Some.header.unit (sym same.unit) known) in
    let e = ap (λ (n : ℕ). scaled_bounds n b) unit ∙ ap (scaled_bounds (moments_in known.unit)) same.bounds in
    absurd (c.in_default-bounds_in_moments.ensures.none (subst IsBounds (sym e) fits))

pub returns-clause-bounds : goal.returns-clause-bounds
returns-clause-bounds c = λ header known has kind level fits.
    let same = header_one c.in-Some.header header c.args.octets.now c.in-Some.ensures.found has in
    let b = c.in-Some.header.bounds in
    let unit = c.moments_of-k.ensures.moments (known_at header.unit c.in-Some.header.unit (sym same.unit) known) in
    let e = ap (λ (n : ℕ). scaled_bounds n b) unit ∙ ap (scaled_bounds (moments_in known.unit)) same.bounds in
    ap Ok (c.in-Some-bounds_in_moments.ensures.found ∙ e)

pub returns-clause-order : goal.returns-clause-order
returns-clause-order c = subst AreInOrder (sym c.in-Some-bounds_in_moments.ensures.found) c.in-Some-bounds_in_moments.ensures.fits.order

pub returns-clause-known : goal.returns-clause-known
returns-clause-known c = known_at _ _ (sym (has_represents c.in-Some.header c.args.octets.now c.in-Some.ensures.found).unit_is) (c.is_known.ensures.0 (cc c.if-not-is_known.false))
