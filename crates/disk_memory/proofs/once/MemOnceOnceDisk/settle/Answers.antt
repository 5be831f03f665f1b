use Rattle.std.proofs.Common.{◌++◌, ◌∙◌}
use Rattle.disk_memory.specs.Pen.{settled_of, waiting_of}
use Rattle.disk_memory.proofs.Burnings.{settle_only}
use Rattle.disk_memory.proofs.once.MemOnceOnceDisk.settle.Goals as goal

pub returns-in-Ok-clause-only : goal.returns-in-Ok-clause-only
returns-in-Ok-clause-only c =
    settle_only (settled_of c.args.pen.now) (waiting_of c.args.pen.now) _ _
    (c.in-Ok.ensures.items ∙ (λ k. (c.settle_fails.ensures.next k).settled.items ++ (c.settle_fails.ensures.next k).waiting.items)) c.in-Ok.ensures.other_items
