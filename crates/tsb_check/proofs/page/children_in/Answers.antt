use Rattle.std.proofs.Common.{◌≡◌, refl}
use Rattle.tsb_node.specs.declared.leaf_part.ReadFault.TheVariants.{NotANode}
use Rattle.tsb_node.specs.Decoded.{decoded_key_node}
use Rattle.version_model.specs.Pages.{KeyNode}
use Rattle.tsb_walk.specs.Shown.{keys_at}
use Rattle.tsb_check.proofs.OnePage.{key_node_refused, key_node_same, key_node_for}
use Rattle.tsb_check.proofs.page.children_in.Goals as goal

pub returns-then-decoded-place-clause-none : goal.returns-then-decoded-place-clause-none
returns-then-decoded-place-clause-none c = λ children represents_node e.
    let same = key_node_same c.args.page.now (decoded_key_node c.in-Ok.decoded) c.args.place.now.level (keys_at c.args.place.now) children c.in-Ok.ensures.key_node represents_node in
    c.if-decoded-place.true same.0

pub returns-then-not-are_its_keys-clause-none : goal.returns-then-not-are_its_keys-clause-none
returns-then-not-are_its_keys-clause-none c = λ children represents_node e.
    let same = key_node_same c.args.page.now (decoded_key_node c.in-Ok.decoded) c.args.place.now.level (keys_at c.args.place.now) children c.in-Ok.ensures.key_node represents_node in
    absurd (cc (c.are_its_keys.ensures.1 same.1, c.if-not-are_its_keys.true))

pub returns-clause-represents_node : goal.returns-clause-represents_node
returns-clause-represents_node c =
    key_node_for c.args.page.now (decoded_key_node c.in-Ok.decoded) c.args.place.now c.in-Ok.ensures.key_node c.if-decoded-place.false (c.are_its_keys.ensures.0 (cc c.if-not-are_its_keys.false))

pub returns-in-Err-clause-none : goal.returns-in-Err-clause-none
returns-in-Err-clause-none c = λ children represents_node e.
    let same : c.in-Err.fault ≡ NotANode = cc in
    key_node_refused c.args.page.now c.in-Err.fault (KeyNode c.args.place.now.level (keys_at c.args.place.now) children) c.in-Err.ensures.key_node same represents_node c.args.place.now.level (keys_at c.args.place.now) children refl
