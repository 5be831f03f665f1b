use Rattle.std.proofs.Common.{List, ℕ, map, ◌∙◌, sym, ap, Bor}
use Rattle.route_model.specs.Admission.{announced}
use Rattle.route_model.proofs.api.Admissions.{routes_push, routes_same, routes_done}
use Rattle.route_model.proofs.tables.route_table.Goals.{in-Announce+in_ok-enter_route-in-Announce, in-Withdraw, in-Down}
use Rattle.route_model.proofs.tables.route_table.Goals as goal

pub loop-c-init : goal.loop-c-init
loop-c-init c = ap (map (λ (r : Bor (List ℕ)). r.now)) c.new-rows.ensures.empty

pub loop-c-preserved : goal.loop-c-preserved
loop-c-preserved c = elim c.match-c.branch [
  | in-Announce+in_ok-enter_route-in-Announce w ↦
      rw (w.rows-is, w.in_ok-enter_route-in-Announce.ensures.entered, w.encoding.ensures.encoding.encoded, c.loop-c.invariant) (sym (routes_push c.args.changes.now c.loop-c.c-index c.c-item.result _ c.loop-c-test.true c.c-item.is (ap announced w.in-Announce.is)))
  | in-Withdraw w ↦ rw (w.rows-is, c.loop-c.invariant) (sym (routes_same c.args.changes.now c.loop-c.c-index c.c-item.result c.loop-c-test.true c.c-item.is (ap announced w.in-Withdraw.is)))
  | in-Down w ↦ rw (w.rows-is, c.loop-c.invariant) (sym (routes_same c.args.changes.now c.loop-c.c-index c.c-item.result c.loop-c-test.true c.c-item.is (ap announced w.in-Down.is)))
]

pub returns : goal.returns
returns c = c.loop-c.invariant ∙ routes_done c.args.changes.now c.loop-c.c-index c.loop-c-test.false
