use Rattle.std.proofs.Common.{arith}
use Rattle.version_model.specs.Entries.{versions_of, version_of}
use Rattle.version_model.specs.Sizes.{entry_octets}
use Rattle.version_model.proofs.Entries.{read_at}
use Rattle.version_model.proofs.api.Sizing.{total-drop}
use Rattle.version_model.proofs.sizing.entries_octets.Goals as goal

pub loop-entry-preserved : goal.loop-entry-preserved
loop-entry-preserved c =
    let vs = versions_of c.args.entries.now in
    let e = c.entry-item.result in
    let at = read_at c.args.entries.now c.loop-entry.entry-index e (omega arith) c.entry-item.is in
    omega (arith, total-drop entry_octets vs c.loop-entry.entry-index (version_of e) at, c.value_octets.ensures, c.loop-entry.invariant)
