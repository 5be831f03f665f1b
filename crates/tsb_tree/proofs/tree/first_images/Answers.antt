use Rattle.std.proofs.Common.{◌≡◌, ◌+◌, List, ℕ, [], set, length, refl, ◌∙◌, ap, arith, None}
use Rattle.page_journal.specs.Recovers.{laid}
use Rattle.tsb_tree.specs.declared.whole.Whole.{Whole}
use Rattle.tsb_tree.proofs.Beginning.{reports_first}
use Rattle.tsb_tree.proofs.Creating.{first_column, first_leaf}
use Rattle.tsb_tree.proofs.tree.first_images.Goals as goal

pub returns-clause-images : goal.returns-clause-images
returns-clause-images c =
    let w : Whole = record { low = c.first_key.result; high = None; parts = c.new.result; start = c.new-2.result; leaf = c.new-3.result } in
    let page = c.args.page in
    let one = c.in_ok-lay_image.ensures in
    let two = c.in_ok-lay_image-2.ensures in
    let none : c.new-images.result.items ≡ [] = c.new-images.ensures.items in
    let start : c.new-2.result ≡ 0 = omega (arith, c.new-2.ensures.number) in
    record {
      distinct = two.distinct;
      below = λ homes lt. two.below homes lt (one.below homes (omega (arith, lt)) (rw none tt));
      few = omega (arith, two.few, one.few, ap length none);
      column = c.in_ok-column.column;
      leaf = c.in_ok-leaf.leaf;
      laid_are = λ shown. two.laid shown ∙ ap (λ (l : List (List ℕ)). set l (page + 1) c.in_ok-leaf.leaf) (one.laid shown ∙ ap (λ i. set (laid i shown) page c.in_ok-column.column) none);
      represents_column = first_column w (page + 1) c.in_ok-column.column c.first_key.ensures.first refl c.new.ensures.items start c.in_ok-column.ensures.represents_node;
      represents_leaf = first_leaf w c.in_ok-leaf.leaf c.first_key.ensures.first refl start c.new-3.ensures.empty c.in_ok-leaf.ensures.represents_node;
    }

pub returns-clause-tree : goal.returns-clause-tree
returns-clause-tree c = λ shown inside. reports_first c.args.page _ shown (returns-clause-images c) inside
