use Rattle.tsb_tree.proofs.Shaping.{can_be_leaf, leaf_represents}
use Rattle.tsb_tree.proofs.pages.leaf_page.Goals as goal

pub write_leaf-requires-clause-valid : goal.write_leaf-requires-clause-valid
write_leaf-requires-clause-valid c = can_be_leaf c.args.whole.now _ c.entries.ensures.entries c.entries.ensures.rising c.requires.whole c.requires.fits

pub returns : goal.returns
returns c = record { represents_node = leaf_represents c.args.whole.now _ c.write_leaf.new.page c.entries.ensures.entries c.write_leaf.ensures.written }
