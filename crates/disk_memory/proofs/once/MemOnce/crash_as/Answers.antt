use Rattle.std.proofs.Common.{List, ◌++◌, length, replicate, subst, sym}
use Rattle.disk_models.specs.Left.{OnceFound}
use Rattle.disk_memory.specs.Burning.{Burning, once_state_of, all_torn}
use Rattle.disk_memory.proofs.Burnings.{once_allowed}
use Rattle.disk_memory.proofs.once.MemOnce.crash_as.Goals as goal

pub returns-clause-allowed : goal.returns-clause-allowed
returns-clause-allowed c =
    let settled : List Burning = c.args.pen.now.settled.items in
    let waiting : List Burning = c.args.pen.now.waiting.items in
    subst (λ (l : List Burning). OnceFound (once_state_of settled waiting) (once_state_of l c.in_ok-crash_as.field-0.waiting.items)) (sym c.in_ok-crash_as.ensures.settled)
    (subst (λ (l : List Burning). OnceFound (once_state_of settled waiting) (once_state_of (settled ++ all_torn c.args.torn.now waiting) l)) (sym c.in_ok-crash_as.ensures.none)
    (once_allowed (replicate (length waiting) c.args.torn.now) settled waiting))
