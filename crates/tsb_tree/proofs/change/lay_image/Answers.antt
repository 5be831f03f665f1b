use Rattle.std.proofs.Common.{arith}
use Rattle.page_tx.proofs.Laying.{laid_with, distinct_with, below_with, length_with}
use Rattle.tsb_tree.proofs.change.lay_image.Goals as goal

pub returns : goal.returns
returns c =
    let held = c.args.images.now.items in
    let is = c.in_ok-lay_over.ensures.items in
    record {
      laid = λ shown. rw is (laid_with c.args.n c.args.page held shown c.requires.distinct);
      distinct = rw is (distinct_with c.args.n c.args.page held c.requires.distinct);
      below = λ homes lt below. rw is (below_with homes c.args.n c.args.page held lt below);
      few = rw is (let h = length_with c.args.n c.args.page held in omega (arith, h));
    }
