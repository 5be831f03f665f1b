use Rattle.std.proofs.Common.{◌∙◌, refl}
use Rattle.service.proofs.Applying.{represents_some, applied_more, idle_now, stopped_now}
use Rattle.service.proofs.making_room.apply_all.Goals as goal

pub loop-init : goal.loop-init
loop-init g c = record { stands = λ h represented. represents_some h _ represented; most = refl }

pub loop-preserved : goal.loop-preserved
loop-preserved g c = record {
  stands = λ h represented. applied_more h.intakes (g.A.RouteSource.represents c.loop.archive) (g.A.RouteSource.represents c.apply_step.new.self) (λ k is. rw c.in-Ok-Applied.field-0-is at (c.in-Ok-Applied.ensures.done k is)) (c.loop.invariant.stands h represented);
  most = c.in-Ok-Applied.ensures.most ∙ c.loop.invariant.most;
}

pub returns-in-Ok-Idle : goal.returns-in-Ok-Idle
returns-in-Ok-Idle g c = record {
  settled = λ h represented. idle_now h.intakes (g.A.RouteSource.represents c.loop.archive) (g.A.RouteSource.represents c.apply_step.new.self) (λ k is. rw c.in-Ok-Idle.field-0-is at (c.in-Ok-Idle.ensures.done k is)) (c.loop.invariant.stands h represented);
  kept = λ h represented. tt;
  most = c.in-Ok-Idle.ensures.most ∙ c.loop.invariant.most;
}

pub returns-in-Err : goal.returns-in-Err
returns-in-Err g c = record {
  settled = λ h represented. tt;
  kept = λ h represented. stopped_now h.intakes (g.A.RouteSource.represents c.loop.archive) (g.A.RouteSource.represents c.apply_step.new.self) c.in-Err.trouble (λ k is. c.in-Err.ensures.done k is) (c.loop.invariant.stands h represented);
  most = c.in-Err.ensures.most ∙ c.loop.invariant.most;
}
