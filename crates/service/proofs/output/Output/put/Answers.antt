use Rattle.std.proofs.Common.{◌∙◌, sym, drop, take_all, length-drop, arith}
use Rattle.service.proofs.Outputs.{is_nil, Reports-none, put_none, put_more, put_all, put_some}
use Rattle.service.proofs.output.Output.put.Goals as goal

pub loop-rest-init : goal.loop-rest-init
loop-rest-init g c = record { sound = sym c.has_failed.ensures.failed ∙ c.if-has_failed.false; put = put_none _ _ }

pub loop-rest-preserved : goal.loop-rest-preserved
loop-rest-preserved g c = record { sound = c.in-Some.ensures.sound ∙ c.loop-rest.invariant.sound; put = put_more c.args.octets.now c.loop-rest.rest.now _ c.in-Some.count _ _ _ (take_all _ (drop c.in-Some.count c.loop-rest.rest.now) (omega (arith, length-drop c.in-Some.count c.loop-rest.rest.now))) c.in-Some.ensures.wrote c.loop-rest.invariant.put }

pub returns-then-has_failed : goal.returns-then-has_failed
returns-then-has_failed g c = record { reports = Reports-none c.args.self.now c.args.octets.now (sym c.has_failed.ensures.failed ∙ c.if-has_failed.true) }

pub returns-in_default : goal.returns-in_default
returns-in_default g c = record { reports = put_some c.args.octets.now c.loop-rest.rest.now c.args.self.now c.loop-rest.self _ (sym c.has_failed.ensures.failed ∙ c.if-has_failed.false) c.in_default.ensures.failed c.loop-rest.invariant.put c.in_default.ensures.kept }

pub returns : goal.returns
returns g c = record {
  reports = put_all c.args.octets.now c.loop-rest.rest.now c.args.self.now c.loop-rest.self (sym c.has_failed.ensures.failed ∙ c.if-has_failed.false) (is_nil c.loop-rest.rest.now _ c.is_empty.ensures c.loop-rest-test.false) c.loop-rest.invariant.put;
}
