use Rattle.std.proofs.Common.{inr}
use Rattle.query_threads.proofs.Seen.{since_then}
use Rattle.server.proofs.marking.apply_all.Goals as goal

pub loop-preserved : goal.loop-preserved
loop-preserved g c = record {
  next = tt;
  finite = tt;
  since = inr (since_then c.args.pass.now c.loop.pass c.apply.new.pass c.loop.invariant.since c.apply.ensures.begins);
}

pub returns-in-Ok-Idle-clause-begins : goal.returns-in-Ok-Idle-clause-begins
returns-in-Ok-Idle-clause-begins g c = since_then c.args.pass.now c.loop.pass c.apply.new.pass c.loop.invariant.since c.apply.ensures.begins

pub returns-in-Err-clause-begins : goal.returns-in-Err-clause-begins
returns-in-Err-clause-begins g c = since_then c.args.pass.now c.loop.pass c.apply.new.pass c.loop.invariant.since c.apply.ensures.begins
