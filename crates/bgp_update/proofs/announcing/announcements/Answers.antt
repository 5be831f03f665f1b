use Rattle.std.proofs.Common.{Option, subst}
use Rattle.std.proofs.lemmas.Result.{err_from_is_err_and}
use Rattle.bgp_update.specs.declared.reading.PathAttributes.{PathAttributes}
use Rattle.route_model.specs.declared.route.NextHop.{NextHop}
use Rattle.bgp_update.specs.Readings.{AreAttributes}
use Rattle.bgp_update.specs.Routes.{route_of, four_hop}
use Rattle.bgp_update.specs.Messages.{Announced, IsAnnounced, option_reported}
use Rattle.bgp_update.proofs.Optional.{none_of_part, read_before}
use Rattle.bgp_update.proofs.api.OneReading.{attributes_one}
use Rattle.bgp_update.proofs.announcing.announcements.Goals as goal

pub returns-in_err-again : goal.returns-in_err-again
returns-in_err-again c =
    let p = err_from_is_err_and c.from_residual-in_err-again.result c.from_residual-in_err-again.ensures.1 in
    let of = c.args.of in
    rw (p.1, p.2)
    (read_before (AreAttributes c.args.width c.args.field.now)
    (λ (r : Option Announced × Option Announced). IsAnnounced of.announced.items (route_of of.attributes (four_hop of.attributes.next_hop)) r.0 × IsAnnounced of.reached.items (route_of of.attributes of.next_hop) r.1)
    of.attributes c.requires c.in_err-again.field-0.0 c.in_err-again.ensures.attributes)

pub returns-in_err-reachable-2 : goal.returns-in_err-reachable-2
returns-in_err-reachable-2 c =
    let p = err_from_is_err_and c.from_residual-in_err-reachable-2.result c.from_residual-in_err-reachable-2.ensures.1 in
    let of = c.args.of in
    let again = c.in_ok-again.again in
    let same = attributes_one c.args.width c.args.field.now of.attributes again c.requires c.in_ok-again.ensures.attributes in
    rw (p.1, p.2)
    (none_of_part (IsAnnounced of.reached.items (route_of again of.next_hop))
    (λ (r : Option Announced × Option Announced). IsAnnounced of.announced.items (route_of of.attributes (four_hop of.attributes.next_hop)) r.0 × IsAnnounced of.reached.items (route_of of.attributes of.next_hop) r.1)
    (λ r q. (r.1, subst (λ (a : PathAttributes). IsAnnounced of.reached.items (route_of a of.next_hop) r.1) same q.1))
    c.in_err-reachable-2.field-0.0 c.in_err-reachable-2.ensures)

pub returns : goal.returns
returns c =
    let of = c.args.of in
    let again = c.in_ok-again.again in
    let same = attributes_one c.args.width c.args.field.now again of.attributes c.in_ok-again.ensures.attributes c.requires in
    (subst (λ (h : Option NextHop). IsAnnounced of.announced.items (route_of of.attributes h) (option_reported c.in_ok-announced-2.announced)) c.four_hop_of-four.ensures c.in_ok-announced-2.ensures, subst (λ (a : PathAttributes). IsAnnounced of.reached.items (route_of a of.next_hop) (option_reported c.in_ok-reachable-2.reachable)) same c.in_ok-reachable-2.ensures)
