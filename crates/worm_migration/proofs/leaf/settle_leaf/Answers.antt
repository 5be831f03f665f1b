use Rattle.std.proofs.Common.{List, subst}
use Rattle.version_model.specs.Versions.{Version}
use Rattle.tsb_node.specs.Leaves.{IsLeafPage}
use Rattle.worm_migration.proofs.leaf.settle_leaf.Goals as goal

pub returns-clause-settled : goal.returns-clause-settled
returns-clause-settled g c = λ honest.
    c.settle_leaf_page.ensures.settled honest (record { bounds = c.args.bounds.now; versions = c.args.leaf.now })
    (subst (λ (vs : List Version). IsLeafPage (record { bounds = c.args.bounds.now; versions = vs }) c.write_leaf.new.page) c.entries.ensures.entries c.write_leaf.ensures.written) c.requires.forward

pub returns-clause-past : goal.returns-clause-past
returns-clause-past g c = λ honest.
    c.settle_leaf_page.ensures.past honest (record { bounds = c.args.bounds.now; versions = c.args.leaf.now })
    (subst (λ (vs : List Version). IsLeafPage (record { bounds = c.args.bounds.now; versions = vs }) c.write_leaf.new.page) c.entries.ensures.entries c.write_leaf.ensures.written) c.requires.forward
