use Rattle.std.proofs.Common.{inl, refl}
use Rattle.web.proofs.Going.{since_since}
use Rattle.web.proofs.connection.serve_web.Goals as goal

pub loop-init : goal.loop-init
loop-init g c = record { next = tt; finite = tt; reader = c.requires.reader; since = inl refl }

pub loop-preserved : goal.loop-preserved
loop-preserved g c = record {
  next = tt;
  finite = tt;
  reader = c.go_on-ended.ensures.reader;
  since = since_since c.args.pass.now c.loop.pass c.go_on-ended.new.pass c.loop.invariant.since c.go_on-ended.ensures.since;
}

pub returns-in-Some-ended-clause-since : goal.returns-in-Some-ended-clause-since
returns-in-Some-ended-clause-since g c = since_since c.args.pass.now c.loop.pass c.go_on-ended.new.pass c.loop.invariant.since c.go_on-ended.ensures.since
