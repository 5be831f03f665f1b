use Rattle.std.proofs.Common.{◌≡◌, ◌∷◌, ℕ, Option, Some, None, sym, ◌∙◌}
use Rattle.sequencer.proofs.api.Beyond.{next_in}
use Rattle.disk_archive.proofs.planning_changes.time_of_next.Goals as goal

pub time_after-requires-clause-inside : goal.time_after-requires-clause-inside
time_after-requires-clause-inside c = next_in c.args.ahead.now c.args.sequencer.now c.args.number c.requires.next

pub unreachable-requires : goal.unreachable-requires
unreachable-requires c =
    let n = c.requires.next in
    let e : ◌≡◌ {A = Option ℕ} None (Some n.time) = sym c.in_default.is ∙ c.time_after.ensures.time (n.time ∷ n.first.rest) n.first.here in
    cc
