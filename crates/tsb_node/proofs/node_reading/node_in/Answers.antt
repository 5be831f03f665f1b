use Rattle.std.proofs.Common.{arith, ◌≡◌, ◌∙◌, take, drop, ap, sym, subst, refl}
use Rattle.std.specs.List.{All}
use Rattle.tsb_node.specs.inner.Reading.{area}
use Rattle.tsb_node.proofs.NodeLaws.{begun_header, begun_used, begun_rest, begun_is}
use Rattle.tsb_node.proofs.node_reading.node_in.Goals as goal

pub returns-in_default-clause-none : goal.returns-in_default-clause-none
returns-in_default-clause-none c = λ h es is. absurd (c.in_default.ensures.none h (begun_header h es c.args.octets.now is))

pub returns-then-used-gt-ROOM-clause-none : goal.returns-then-used-gt-ROOM-clause-none
returns-then-used-gt-ROOM-clause-none c = λ h es is.
    absurd (omega (arith, begun_used h c.in-Some.header es c.args.octets.now is c.in-Some.ensures.found, is.valid.fits, c.if-used-gt-ROOM.true))

pub returns-then-not-are_zeros-clause-none : goal.returns-then-not-are_zeros-clause-none
returns-then-not-are_zeros-clause-none c = λ h es is.
    let g = c.in-Some.header in
    let here : c.split_at-2.result.1.now ≡ area c.args.octets.now = c.split_at-2.ensures.back ∙ ap (drop 120) c.split_at.ensures.front in
    let there : c.split_at-3.result.1.now ≡ drop g.used (area c.args.octets.now) = c.split_at-3.ensures.back ∙ ap (drop g.used) here in
    let yes = c.are_zeros.ensures.1 (subst (All (λ octet. octet ≡ 0)) (sym there) (begun_rest h g es c.args.octets.now is c.in-Some.ensures.found)) in
    absurd (cc (yes, c.if-not-are_zeros.true))

pub returns-clause-found : goal.returns-clause-found
returns-clause-found c =
    let h = c.in-Some.header in
    let here : c.split_at-2.result.1.now ≡ area c.args.octets.now = c.split_at-2.ensures.back ∙ ap (drop 120) c.split_at.ensures.front in
    let rest : c.split_at-3.result.1.now ≡ drop h.used (area c.args.octets.now) = c.split_at-3.ensures.back ∙ ap (drop h.used) here in
    let first : c.split_at-3.result.0.now ≡ take h.used (area c.args.octets.now) = c.split_at-3.ensures.front ∙ ap (take h.used) here in
    let zeros_all = subst (All (λ octet. octet ≡ 0)) rest (c.if-not-are_zeros.ensures.0 refl) in
    rw first (begun_is h c.args.octets.now c.in-Some.ensures.found c.requires.size (omega (arith, c.if-used-gt-ROOM.false)) zeros_all)
