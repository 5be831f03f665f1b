use Rattle.std.proofs.Common.{arith}
use Rattle.version_model.specs.Entries.{versions_of, version_of}
use Rattle.version_model.specs.Sizes.{entry_octets_below}
use Rattle.version_model.proofs.Orders.{lt_yes, lt_no}
use Rattle.version_model.proofs.Entries.{read_at}
use Rattle.version_model.proofs.api.Sizing.{total-drop, below_is, below_not, octets_below-le}
use Rattle.version_model.proofs.sizing.entries_octets_below.Goals as goal
use Rattle.version_model.proofs.sizing.entries_octets_below.Goals.{then-lt, else-lt}

pub overflow_add-sum-then-lt : goal.overflow_add-sum-then-lt
overflow_add-sum-then-lt c =
    let vs = versions_of c.args.entries.now in
    let e = c.entry-item.result in
    let at = read_at c.args.entries.now c.loop-entry.entry-index e (omega arith) c.entry-item.is in
    let here = below_is c.args.key (version_of e) (lt_yes c.lt.result e.key c.args.key c.lt.ensures c.if-lt.true) in
    omega (arith, total-drop (entry_octets_below c.args.key) vs c.loop-entry.entry-index (version_of e) at, here, c.value_octets.ensures, c.loop-entry.invariant, octets_below-le c.args.key vs, c.requires)

pub loop-entry-preserved : goal.loop-entry-preserved
loop-entry-preserved c =
    let vs = versions_of c.args.entries.now in
    let e = c.entry-item.result in
    let at = read_at c.args.entries.now c.loop-entry.entry-index e (omega arith) c.entry-item.is in
    let rest = total-drop (entry_octets_below c.args.key) vs c.loop-entry.entry-index (version_of e) at in
    elim c.if-lt.branch [
      | then-lt w ↦ omega (arith, rest, below_is c.args.key (version_of e) (lt_yes c.lt.result e.key c.args.key c.lt.ensures w.if-lt.true), w.value_octets.ensures, c.loop-entry.invariant, w.sum-is)
      | else-lt w ↦ omega (arith, rest, below_not c.args.key (version_of e) (lt_no c.lt.result e.key c.args.key c.lt.ensures w.if-lt.false), c.loop-entry.invariant, w.sum-is)
    ]
