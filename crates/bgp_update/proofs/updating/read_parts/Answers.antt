use Rattle.std.proofs.lemmas.Result.{err_from_is_err_and}
use Rattle.route_model.specs.Sequence.{Sequence}
use Rattle.route_model.specs.PrefixFields.{IsPrefixField}
use Rattle.route_model.specs.declared.wire.Family.TheVariants as families
use Rattle.bgp_update.specs.Readings.{AreAttributes}
use Rattle.bgp_update.specs.NextHops.{AreReached, AreUnreached}
use Rattle.bgp_update.specs.Messages.{IsUpdateOf}
use Rattle.bgp_update.proofs.Optional.{none_of_part}
use Rattle.bgp_update.proofs.Updates.{its_unreachable, its_reach, its_reached, AreAnnounced, its_announcements}
use Rattle.bgp_update.proofs.updating.read_parts.Goals as goal

pub returns-in_err-withdrawn : goal.returns-in_err-withdrawn
returns-in_err-withdrawn c =
    let p = err_from_is_err_and c.from_residual.result c.from_residual.ensures.1 in
    let width = c.args.width in
    let w = c.args.withdrawn_field.now in
    let a = c.args.attribute_field.now in
    let n = c.args.announced_field.now in
    rw (p.1, p.2) (none_of_part (Sequence (IsPrefixField families.Ipv4) w) (IsUpdateOf width w a n) (λ u q. (u.withdrawn, q.withdrawn)) c.in_err-withdrawn.field-0.0 c.in_err-withdrawn.ensures)

pub returns-in_err-attributes : goal.returns-in_err-attributes
returns-in_err-attributes c =
    let p = err_from_is_err_and c.from_residual-in_err-attributes.result c.from_residual-in_err-attributes.ensures.1 in
    let width = c.args.width in
    let w = c.args.withdrawn_field.now in
    let a = c.args.attribute_field.now in
    let n = c.args.announced_field.now in
    rw (p.1, p.2) (none_of_part (AreAttributes width a) (IsUpdateOf width w a n) (λ u q. (q.attributes, q.are_attributes)) c.in_err-attributes.field-0.0 c.in_err-attributes.ensures.attributes)

pub returns-in_err-announced : goal.returns-in_err-announced
returns-in_err-announced c =
    let p = err_from_is_err_and c.from_residual-in_err-announced.result c.from_residual-in_err-announced.ensures.1 in
    let width = c.args.width in
    let w = c.args.withdrawn_field.now in
    let a = c.args.attribute_field.now in
    let n = c.args.announced_field.now in
    rw (p.1, p.2) (none_of_part (Sequence (IsPrefixField families.Ipv4) n) (IsUpdateOf width w a n) (λ u q. (q.announced, q.are_announced)) c.in_err-announced.field-0.0 c.in_err-announced.ensures)

pub returns-in_err-unreachable : goal.returns-in_err-unreachable
returns-in_err-unreachable c =
    let p = err_from_is_err_and c.from_residual-in_err-unreachable.result c.from_residual-in_err-unreachable.ensures.1 in
    let width = c.args.width in
    let w = c.args.withdrawn_field.now in
    let a = c.args.attribute_field.now in
    let n = c.args.announced_field.now in
    let attributes = c.in_ok-attributes.attributes in
    rw (p.1, p.2) (none_of_part (AreUnreached attributes.unreach) (IsUpdateOf width w a n) (λ u q. its_unreachable width w a n u attributes c.in_ok-attributes.ensures.attributes q) c.in_err-unreachable.field-0.0 c.in_err-unreachable.ensures)

pub returns-in_default : goal.returns-in_default
returns-in_default c = λ u q.
    let part = its_reach c.args.width c.args.withdrawn_field.now c.args.attribute_field.now c.args.announced_field.now u c.in_ok-attributes.attributes c.in_ok-attributes.ensures.attributes q in
    c.in_default.ensures part.0 part.1

pub returns-in_err-reached : goal.returns-in_err-reached
returns-in_err-reached c =
    let p = err_from_is_err_and c.from_residual-in_err-reached.result c.from_residual-in_err-reached.ensures.1 in
    let width = c.args.width in
    let w = c.args.withdrawn_field.now in
    let a = c.args.attribute_field.now in
    let n = c.args.announced_field.now in
    let attributes = c.in_ok-attributes.attributes in
    rw (p.1, p.2) (none_of_part (AreReached c.in-Some.reach) (IsUpdateOf width w a n) (λ u q. its_reached width w a n u attributes c.in-Some.reach c.in_ok-attributes.ensures.attributes c.in-Some.ensures q) c.in_err-reached.field-0.0 c.in_err-reached.ensures)

pub returns-in_err-first : goal.returns-in_err-first
returns-in_err-first c =
    let p = err_from_is_err_and c.from_residual-in_err-first.result c.from_residual-in_err-first.ensures.1 in
    let width = c.args.width in
    let w = c.args.withdrawn_field.now in
    let a = c.args.attribute_field.now in
    let n = c.args.announced_field.now in
    let attributes = c.in_ok-attributes.attributes in
    rw (p.1, p.2) (none_of_part (AreAnnounced attributes c.in-Some.reach c.in_ok-announced.announced.items c.in_ok-reached.reached.items) (IsUpdateOf width w a n) (λ u q. ((u.announced, u.reachable), its_announcements width w a n u attributes c.in-Some.reach c.in_ok-announced.announced.items c.in_ok-reached.reached.items c.in_ok-attributes.ensures.attributes c.in-Some.ensures c.in_ok-announced.ensures c.in_ok-reached.ensures q)) c.in_err-first.field-0.0 (rw c.hop_in.ensures at c.in_err-first.ensures))
