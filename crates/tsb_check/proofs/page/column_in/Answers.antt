use Rattle.std.proofs.Common.{◌≡◌, refl}
use Rattle.tsb_node.specs.declared.leaf_part.ReadFault.TheVariants.{NotANode}
use Rattle.tsb_node.specs.Decoded.{decoded_column}
use Rattle.version_model.specs.Pages.{ColumnNode}
use Rattle.tsb_walk.specs.Shown.{keys_at}
use Rattle.tsb_check.proofs.OnePage.{column_refused, column_same, column_for}
use Rattle.tsb_check.proofs.page.column_in.Goals as goal

pub returns-then-not-are_its_keys-clause-none : goal.returns-then-not-are_its_keys-clause-none
returns-then-not-are_its_keys-clause-none c = λ parts start current represents_node e.
    let same = column_same c.args.page.now (decoded_column c.in-Ok.decoded) (keys_at c.args.place.now) parts start current c.in-Ok.ensures.column represents_node in
    absurd (cc (c.are_its_keys.ensures.1 same, c.if-not-are_its_keys.true))

pub returns-clause-represents_node : goal.returns-clause-represents_node
returns-clause-represents_node c = column_for c.args.page.now (decoded_column c.in-Ok.decoded) c.args.place.now c.in-Ok.ensures.column (c.are_its_keys.ensures.0 (cc c.if-not-are_its_keys.false))

pub returns-in-Err-clause-none : goal.returns-in-Err-clause-none
returns-in-Err-clause-none c = λ parts start current represents_node e.
    let same : c.in-Err.fault ≡ NotANode = cc in
    column_refused c.args.page.now c.in-Err.fault (ColumnNode (keys_at c.args.place.now) parts start current) c.in-Err.ensures.column same represents_node (keys_at c.args.place.now) parts start current refl
