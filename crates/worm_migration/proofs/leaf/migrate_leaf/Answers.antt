use Rattle.std.proofs.Common.{◌<◌, arith}
use Rattle.version_model.specs.Ranges.{stamp_end}
use Rattle.tsb_node.specs.Views.{keys_between}
use Rattle.worm_migration.proofs.Pasts.{column_split}
use Rattle.worm_migration.proofs.leaf.migrate_leaf.Goals as goal

pub returns-clause-column : goal.returns-clause-column
returns-clause-column g c = λ honest blocks all parts represents_node has.
    let in_time : c.args.at < stamp_end = omega (arith, c.requires.end) in
    column_split g.O.OnceDisk c.args.shelf.now c.settle_leaf.new.shelf c.in_ok-block.block (keys_between c.args.bounds.now) c.args.bounds.now.start c.args.at c.args.leaf.now c.in_ok-newer.newer honest c.in_ok-block.ensures.shelf
    (c.in_ok-block.ensures.settled honest) c.requires.forward in_time c.in_ok-newer.ensures.from blocks all parts represents_node has
