use Rattle.std.proofs.Common.{◌≡◌, ◌∙◌, sym, ap, arith}
use Rattle.archive_pages.specs.Places.{tree_low}
use Rattle.disk_archive.proofs.NoteReading.{one_settings}
use Rattle.disk_archive.proofs.restoring.settings_of.Goals as goal

pub returns-then-tree_low-homes-clause-none : goal.returns-then-tree_low-homes-clause-none
returns-then-tree_low-homes-clause-none c s are reported low =
    let same : c.in-Some.settings ≡ s = one_settings c.args.blocks c.in-Some.settings s c.in-Some.ensures.within are (sym c.in-Some.ensures.note ∙ reported) in
    let t : tree_low c.in-Some.settings ≡ tree_low s = ap tree_low same in
    let e = c.tree_low.ensures in
    let high = c.if-tree_low-homes.true in
    absurd (omega (arith, t, e, high, low))
