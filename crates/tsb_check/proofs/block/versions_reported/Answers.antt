use Rattle.std.proofs.Common.{◌≡◌, List, ap, subst, ◌∙◌}
use Rattle.version_model.specs.declared.entry.Entry.{Entry}
use Rattle.version_model.specs.Counts.{count_in}
use Rattle.version_model.specs.Ranges.{range_of}
use Rattle.version_model.specs.Entries.{versions_of}
use Rattle.tsb_node.specs.declared.leaf_part.ReadFault.TheVariants.{NotANode}
use Rattle.tsb_node.specs.Leaves.{LeafNode, IsLeafBlock}
use Rattle.tsb_node.specs.Decoded.{IsRefusal, decoded_leaf}
use Rattle.tsb_check.proofs.Reporting.{some_leaf, leaf_reported, leaf_sound}
use Rattle.tsb_check.proofs.block.versions_reported.Goals as goal

pub returns-then-not-is_wider-clause-sound : goal.returns-then-not-is_wider-clause-sound
returns-then-not-is_wider-clause-sound c = λ sound e.
    let w = leaf_sound c.args.place.now c.args.block.now (decoded_leaf c.in-Ok.decoded) c.requires.kind c.in-Ok.ensures.leaf sound in
    absurd (cc (c.is_wider.ensures.1 w, c.if-not-is_wider.true))

pub returns-clause-reported : goal.returns-clause-reported
returns-clause-reported c = (
  versions_of c.in-Ok.decoded.entries.items,
  leaf_reported c.args.place.now c.args.block.now (decoded_leaf c.in-Ok.decoded) c.requires.kind c.in-Ok.ensures.leaf (c.is_wider.ensures.0 (cc c.if-not-is_wider.false)).1,
  c.count_inside.ensures ∙ ap (λ (es : List Entry). count_in (versions_of es) (range_of c.args.place.now.bounds)) c.deref.ensures.value,
)

pub returns-in-Err-clause-sound : goal.returns-in-Err-clause-sound
returns-in-Err-clause-sound c = λ sound e.
    let some = some_leaf c.args.place.now c.args.block.now c.requires.kind sound in
    let same : c.in-Err.fault ≡ NotANode = cc in
    subst (IsRefusal (λ (leaf : LeafNode). IsLeafBlock leaf c.args.block.now)) same c.in-Err.ensures.leaf some.0 some.1
