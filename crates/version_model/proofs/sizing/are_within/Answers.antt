use Rattle.std.proofs.Common.{arith}
use Rattle.version_model.specs.Entries.{versions_of, version_of}
use Rattle.version_model.specs.Sizes.{entry_octets}
use Rattle.version_model.proofs.Entries.{read_at}
use Rattle.version_model.proofs.api.Sizing.{total-drop}
use Rattle.version_model.proofs.sizing.are_within.Goals as goal
use Rattle.version_model.proofs.sizing.are_within.Goals.{then-left-lt59-via-then-left-lt59, then-left-lt59-via-else-left-lt59+then-left-value}

pub returns-then-left-lt59 : goal.returns-then-left-lt59
returns-then-left-lt59 c =
    let e = c.entry-item.result in
    let at = read_at c.args.entries.now c.loop-entry.entry-index e (omega arith) c.entry-item.is in
    let rest = total-drop entry_octets (versions_of c.args.entries.now) c.loop-entry.entry-index (version_of e) at in (
      λ never. absurd (cc),
      λ within. absurd (elim c.then-left-lt59.branch [
        | then-left-lt59-via-then-left-lt59 w ↦ omega (arith, within, rest, c.loop-entry.invariant, w.if-left-lt59.true)
        | then-left-lt59-via-else-left-lt59+then-left-value w ↦ omega (arith, within, rest, c.value_octets-value.ensures, c.loop-entry.invariant, w.if-left-lt59.false, w.if-left-value.true)
      ]),
    )

pub loop-entry-preserved : goal.loop-entry-preserved
loop-entry-preserved c =
    let e = c.entry-item.result in
    let at = read_at c.args.entries.now c.loop-entry.entry-index e (omega arith) c.entry-item.is in
    omega (arith, total-drop entry_octets (versions_of c.args.entries.now) c.loop-entry.entry-index (version_of e) at, c.value_octets-value.ensures, c.loop-entry.invariant)
