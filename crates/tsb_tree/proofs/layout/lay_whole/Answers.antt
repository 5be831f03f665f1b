use Rattle.std.proofs.Common.{List, ℕ, set, ◌∙◌, ap, arith}
use Rattle.tsb_tree.proofs.layout.lay_whole.Goals as goal

pub returns : goal.returns
returns c =
    let one = c.in_ok-lay_image.ensures in
    let two = c.in_ok-lay_image-2.ensures in
    record {
      laid = record {
        column = c.in_ok-column.column;
        leaf = c.in_ok-leaf.leaf;
        represents_column = c.in_ok-column.ensures.represents_node;
        represents_leaf = c.in_ok-leaf.ensures.represents_node;
        over = λ shown. two.laid shown ∙ ap (λ (l : List (List ℕ)). set l c.args.current c.in_ok-leaf.leaf) (one.laid shown);
        distinct = two.distinct;
        below = λ homes in_page in_current below. two.below homes in_current (one.below homes in_page below);
        few = omega (arith, one.few, two.few);
      };
    }
