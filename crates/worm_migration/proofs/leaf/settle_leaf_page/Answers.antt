use Rattle.once_store.specs.Shelves.{disk_of, pen_of}
use Rattle.tsb_node.specs.Sealing.{ended}
use Rattle.tsb_node.specs.Views.{keys_between, represents_old_leaf}
use Rattle.worm_migration.specs.Columns.{old_leaf}
use Rattle.worm_migration.proofs.Blocks.{settles_if}
use Rattle.worm_migration.proofs.Pasts.{past_pushed_if}
use Rattle.worm_migration.proofs.leaf.settle_leaf_page.Goals as goal

pub returns-clause-settled : goal.returns-clause-settled
returns-clause-settled g c = λ honest leaf is forward.
    settles_if g.O.OnceDisk c.args.shelf.now c.settle.new.shelf c.settle.result (old_leaf (keys_between leaf.bounds) leaf.bounds.start c.args.at leaf.versions) _ (g.met.O.OnceDisk.sound (disk_of c.args.shelf.now) (pen_of c.args.shelf.now) honest) honest
    c.settle.ensures.shelf (c.settle.ensures.settled honest) (represents_old_leaf (ended leaf c.args.at) (c.seal_leaf.ensures leaf is forward))

pub returns-clause-past : goal.returns-clause-past
returns-clause-past g c = λ honest leaf is forward.
    past_pushed_if g.O.OnceDisk c.args.shelf.now c.settle.new.shelf c.settle.result (keys_between leaf.bounds) leaf.bounds.start c.args.at leaf.versions honest c.settle.ensures.shelf (returns-clause-settled g c honest leaf is forward) forward
