use Rattle.std.proofs.Common.{◌∙◌, ap}
use Rattle.disk_models.specs.Octets.{zeros}
use Rattle.tsb_node.specs.Nodes.{header, unit_now}
use Rattle.tsb_node.specs.inner.Laying.{laid}
use Rattle.tsb_node.proofs.Laying.{leaf_started}
use Rattle.tsb_node.proofs.leaf.start.Goals as goal

pub returns : goal.returns
unfolding zeros
returns g c = leaf_started c.args.bounds.now c.put_header.new.page c.bounds_fit.ensures.fits c.requires.current
    (c.put_header.ensures ∙ ap (laid 0 (header 1 unit_now 0 0 0 c.args.bounds.now)) c.clear.ensures)
