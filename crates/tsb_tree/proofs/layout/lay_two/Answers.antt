use Rattle.std.proofs.Common.{◌≡◌, List, ℕ, refl, sym, ap, subst}
use Rattle.page_journal.specs.Layout.{Image}
use Rattle.tsb_tree.specs.Layouts.{LaysWhole}
use Rattle.tsb_tree.proofs.layout.lay_two.Goals as goal

pub returns-clause-laid : goal.returns-clause-laid
returns-clause-laid c =
    let low : c.in_ok-left.right.low ≡ c.args.key = c.in_ok-left.ensures.key in (
      c.in_ok-left.left,
      c.in_ok-left.right,
      c.in_ok-left.ensures.halves,
      record {
        mid = c.lay_whole.new.images.items;
        first = subst (λ (old : List Image). LaysWhole c.args.page c.args.current c.in_ok-left.left old c.lay_whole.new.images.items) c.new-images.ensures.items c.in_ok-lay_whole.ensures.laid;
        second = c.in_ok-lay_whole-2.ensures.laid;
      },
      refl,
      ap (λ (k : ℕ). record { low = k; page = c.args.unused }) (sym low),
    )
