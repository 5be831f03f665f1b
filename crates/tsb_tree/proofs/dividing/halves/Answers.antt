use Rattle.std.proofs.Common.{◌≡◌, refl}
use Rattle.std.specs.List.{each_same}
use Rattle.tsb_tree.proofs.Taking.{halves_of}
use Rattle.tsb_tree.proofs.Halving.{key_above, key_below, both_fit, whole_below, whole_above}
use Rattle.tsb_tree.proofs.dividing.halves.Goals as goal

pub returns-clause-halves : goal.returns-clause-halves
returns-clause-halves c =
    let w = c.args.whole in
    let split = c.in_ok-left.ensures.split in
    let same : c.in_ok-parts.parts.items ≡ w.parts.items = each_same _ _ c.in_ok-parts.ensures.cases.0 in
    halves_of w _ _ c.args.key c.in_ok-left.left c.in_ok-left.right (key_above w c.args.key c.requires.whole c.requires.full c.requires.point) (key_below w c.args.key c.requires.whole c.requires.point c.requires.inside) split.0 split.1
    refl refl refl refl same refl

pub returns-clause-whole : goal.returns-clause-whole
returns-clause-whole c =
    let w = c.args.whole in
    let split = c.in_ok-left.ensures.split in
    let same : c.in_ok-parts.parts.items ≡ w.parts.items = each_same _ _ c.in_ok-parts.ensures.cases.0 in (
      whole_below w _ c.args.key c.in_ok-left.left c.requires.whole (key_above w c.args.key c.requires.whole c.requires.full c.requires.point) c.requires.inside split.0 refl,
      whole_above w _ c.args.key c.in_ok-left.right c.requires.whole (key_below w c.args.key c.requires.whole c.requires.point c.requires.inside) split.1 refl refl refl same refl,
    )

pub returns-clause-fit : goal.returns-clause-fit
returns-clause-fit c =
    let sizes = c.in_ok-left.ensures.sizes in
    both_fit c.args.whole.leaf c.in_ok-left.left c.in_ok-left.right c.args.key c.requires.full c.requires.point sizes.0 sizes.1
