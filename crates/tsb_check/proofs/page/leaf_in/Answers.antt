use Rattle.std.proofs.Common.{rules, ◌≡◌, refl}
use Rattle.tsb_node.specs.declared.leaf_part.ReadFault.TheVariants.{NotANode}
use Rattle.tsb_node.specs.Decoded.{decoded_leaf}
use Rattle.version_model.specs.Pages.{CurrentLeaf}
use Rattle.tsb_walk.specs.Shown.{keys_at}
use Rattle.tsb_check.proofs.OnePage.{leaf_refused, leaf_same, leaf_for_page}
use Rattle.tsb_check.proofs.page.leaf_in.Goals as goal

pub returns-then-ne-clause-none : goal.returns-then-ne-clause-none
returns-then-ne-clause-none c = λ versions represents_node e.
    let same = leaf_same c.args.page.now (decoded_leaf c.in-Ok.decoded) c.in-Ok.decoded.bounds (keys_at c.args.column.now) c.args.start versions c.in-Ok.ensures.leaf refl represents_node in
    let start : c.in-Ok.decoded.bounds.start ≡ c.args.start = same.0 in
    search rules

pub returns-then-not-are_its_keys-clause-none : goal.returns-then-not-are_its_keys-clause-none
returns-then-not-are_its_keys-clause-none c = λ versions represents_node e.
    let same = leaf_same c.args.page.now (decoded_leaf c.in-Ok.decoded) c.in-Ok.decoded.bounds (keys_at c.args.column.now) c.args.start versions c.in-Ok.ensures.leaf refl represents_node in
    absurd (cc (c.are_its_keys.ensures.1 same.1, c.if-not-are_its_keys.true))

pub returns-clause-represents_node : goal.returns-clause-represents_node
returns-clause-represents_node c =
    let start : c.in-Ok.decoded.bounds.start ≡ c.args.start = search rules in
    leaf_for_page c.args.page.now (decoded_leaf c.in-Ok.decoded) c.in-Ok.decoded.bounds c.args.column.now c.args.start c.in-Ok.ensures.leaf refl (c.are_its_keys.ensures.0 (cc c.if-not-are_its_keys.false)) start

pub returns-in-Err-clause-none : goal.returns-in-Err-clause-none
returns-in-Err-clause-none c = λ versions represents_node e.
    let same : c.in-Err.fault ≡ NotANode = cc in
    leaf_refused c.args.page.now c.in-Err.fault (CurrentLeaf (keys_at c.args.column.now) c.args.start versions) c.in-Err.ensures.leaf same represents_node (keys_at c.args.column.now) c.args.start versions refl
