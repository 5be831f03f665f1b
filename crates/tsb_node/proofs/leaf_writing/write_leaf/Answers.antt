use Rattle.std.proofs.Common.{arith, ◌∙◌, ◌++◌, ◌∷◌, [], List, length, take, ap, sym, subst}
use Rattle.version_model.specs.Versions.{Version}
use Rattle.version_model.specs.Entries.{versions_of, version_of}
use Rattle.tsb_node.specs.Leaves.{LeafNode, IsLeafPage, value_encoded, entry}
use Rattle.tsb_node.specs.Pushing.{version}
use Rattle.tsb_node.proofs.SplittingLaws.{take_version}
use Rattle.tsb_node.proofs.WholeLeaves.{version_read, whole_valid, whole_within, whole_above, whole_fits}
use Rattle.tsb_node.proofs.leaf_writing.write_leaf.Goals as goal

pub push-requires : goal.push-requires
push-requires c =
    let vs = versions_of c.args.entries.now in
    let leaf : LeafNode = record { bounds = c.args.bounds.now; versions = vs } in
    let i = c.loop-entry.entry-index in
    let e = c.entry-item.result in
    let at = version_read c.args.entries.now i e c.loop-entry-test.true c.entry-item.is in
    record { short = omega (arith, (whole_valid leaf c.requires.valid i (version_of e) at).size, ap (λ o. length (value_encoded o)) c.octets_of_value.ensures) }

pub unreachable-requires : goal.unreachable-requires
unreachable-requires c =
    let vs = versions_of c.args.entries.now in
    let leaf : LeafNode = record { bounds = c.args.bounds.now; versions = vs } in
    let i = c.loop-entry.entry-index in
    let e = c.entry-item.result in
    let at = version_read c.args.entries.now i e c.loop-entry-test.true c.entry-item.is in
    let front : LeafNode = record { bounds = c.args.bounds.now; versions = take i vs } in
    let pushed = c.in-Ok-false.ensures.pushed front c.loop-entry.invariant (whole_within leaf c.requires.valid i (version_of e) at) (whole_above leaf c.requires.valid i (version_of e) at) in
    let over = rw c.in-Ok-false.field-0-test at pushed in
    let same = ap (λ o. length (entry (version e.key e.stamp o))) c.octets_of_value.ensures in
    omega (arith, over, same, whole_fits leaf c.requires.valid i (version_of e) at)

pub unreachable-requires-in-Err : goal.unreachable-requires-in-Err
unreachable-requires-in-Err c =
    let vs = versions_of c.args.entries.now in
    let leaf : LeafNode = record { bounds = c.args.bounds.now; versions = vs } in
    let i = c.loop-entry.entry-index in
    let e = c.entry-item.result in
    let at = version_read c.args.entries.now i e c.loop-entry-test.true c.entry-item.is in
    let front : LeafNode = record { bounds = c.args.bounds.now; versions = take i vs } in
    c.in-Err.ensures.pushed front c.loop-entry.invariant (whole_within leaf c.requires.valid i (version_of e) at) (whole_above leaf c.requires.valid i (version_of e) at)

pub loop-entry-preserved : goal.loop-entry-preserved
loop-entry-preserved c =
    let vs = versions_of c.args.entries.now in
    let b = c.args.bounds.now in
    let leaf : LeafNode = record { bounds = b; versions = vs } in
    let i = c.loop-entry.entry-index in
    let e = c.entry-item.result in
    let at = version_read c.args.entries.now i e c.loop-entry-test.true c.entry-item.is in
    let front : LeafNode = record { bounds = b; versions = take i vs } in
    let pushed = c.in-Ok-true.ensures.pushed front c.loop-entry.invariant (whole_within leaf c.requires.valid i (version_of e) at) (whole_above leaf c.requires.valid i (version_of e) at) in
    let whole = rw c.in-Ok-true.field-0-test at pushed in
    subst (λ (t : List Version). IsLeafPage (record { bounds = b; versions = t }) c.push.new.page)
    (ap (λ o. take i vs ++ version e.key e.stamp o ∷ []) c.octets_of_value.ensures ∙ sym (take_version vs i (version_of e) at)) whole
