use Rattle.tsb_tree.proofs.KeyNodes.{AreBoundsOf, key_node_represents}
use Rattle.tsb_tree.proofs.key_nodes.key_node_page.Goals as goal

pub returns : goal.returns
returns c =
    let b = c.bounds_between-bounds.ensures in
    let are : AreBoundsOf c.args.node.now c.bounds_between-bounds.result = record { low = b.low; high = b.high; start = b.start; current = b.current } in
    record { represents_node = key_node_represents c.args.node.now c.bounds_between-bounds.result _ c.write_key_node.new.page are c.deref.ensures.value c.write_key_node.ensures }
