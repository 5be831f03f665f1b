use Rattle.std.proofs.Common.{List, ◌++◌, subst, sym}
use Rattle.disk_models.specs.Left.{OnceFound}
use Rattle.disk_memory.specs.Burning.{Burning, once_state_of, torn_burnings}
use Rattle.disk_memory.proofs.Burnings.{once_allowed}
use Rattle.disk_memory.proofs.once.MemOnce.crash.Goals as goal

pub returns-clause-allowed : goal.returns-clause-allowed
returns-clause-allowed c =
    let settled : List Burning = c.args.pen.now.settled.items in
    let waiting : List Burning = c.args.pen.now.waiting.items in
    subst (λ (l : List Burning). OnceFound (once_state_of settled waiting) (once_state_of l c.in_ok-crash.field-0.waiting.items)) (sym c.in_ok-crash.ensures.settled)
    (subst (λ (l : List Burning). OnceFound (once_state_of settled waiting) (once_state_of (settled ++ torn_burnings c.args.choice.now waiting) l)) (sym c.in_ok-crash.ensures.none)
    (once_allowed c.args.choice.now settled waiting))
