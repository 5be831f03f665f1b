use Rattle.std.proofs.Common.{◌≡◌, arith, sym, subst}
use Rattle.std.proofs.lemmas.List.Elements.{All-from_recursion, recursion_from_All}
use Rattle.tsb_node.specs.declared.leaf_part.ReadFault.TheVariants.{NotANode}
use Rattle.tsb_node.specs.Columns.{ColumnInBlock, IsColumnBlock}
use Rattle.tsb_node.specs.Decoded.{IsRefusal, decoded_old_column}
use Rattle.tsb_check.specs.Counted.{AreLower}
use Rattle.tsb_check.proofs.Reporting.{some_column, column_reported, column_sound}
use Rattle.tsb_check.proofs.block.parts_reported.Goals as goal

pub returns-then-not-is_wider-clause-sound : goal.returns-then-not-is_wider-clause-sound
returns-then-not-is_wider-clause-sound c = λ sound e.
    let w = column_sound c.args.place.now c.args.block.now (decoded_old_column c.in-Ok.decoded) c.requires.kind c.in-Ok.ensures.column sound in
    absurd (cc (c.is_wider.ensures.1 w.0, c.if-not-is_wider.true))

pub returns-then-not-are_lower-clause-sound : goal.returns-then-not-are_lower-clause-sound
returns-then-not-are_lower-clause-sound c = λ sound e.
    let w = column_sound c.args.place.now c.args.block.now (decoded_old_column c.in-Ok.decoded) c.requires.kind c.in-Ok.ensures.column sound in
    absurd (cc (c.are_lower.ensures.1 (All-from_recursion _ c.deref.result.now (subst (AreLower c.args.place.now.part.block) (sym c.deref.ensures.value) w.1)), c.if-not-are_lower.true))

pub returns-clause-reported : goal.returns-clause-reported
returns-clause-reported c = (
  column_reported c.args.place.now c.args.block.now (decoded_old_column c.in-Ok.decoded) c.requires.kind c.in-Ok.ensures.column (c.is_wider.ensures.0 (cc c.if-not-is_wider.false)).1,
  subst (AreLower c.args.place.now.part.block) c.deref.ensures.value (recursion_from_All _ c.deref.result.now (c.are_lower.ensures.0 (cc c.if-not-are_lower.false))),
  omega (arith, c.in-Ok.ensures.column.valid.follow.fits),
)

pub returns-clause-lower : goal.returns-clause-lower
returns-clause-lower c = (
  subst (AreLower c.args.place.now.part.block) c.deref.ensures.value (recursion_from_All _ c.deref.result.now (c.are_lower.ensures.0 (cc c.if-not-are_lower.false))),
  omega (arith, c.in-Ok.ensures.column.valid.follow.fits),
)

pub returns-in-Err-clause-sound : goal.returns-in-Err-clause-sound
returns-in-Err-clause-sound c = λ sound e.
    let some = some_column c.args.place.now c.args.block.now c.requires.kind sound in
    let same : c.in-Err.fault ≡ NotANode = cc in
    subst (IsRefusal (λ (column : ColumnInBlock). IsColumnBlock column c.args.block.now)) same c.in-Err.ensures.column some.0 some.1
