use Rattle.std.proofs.Common.{rules}
use Rattle.tsb_node.specs.inner.ChildReading.{AreChildrenOf, IsKeyNodeOf}
use Rattle.tsb_node.proofs.Refusals.{refusal_map}
use Rattle.tsb_node.proofs.ChildLaws.{key_node_from, key_node_children, key_node_kind}
use Rattle.tsb_node.proofs.decoded_key_node.key_node_in.Goals as goal

pub returns-then-not-is_of_key_nodes : goal.returns-then-not-is_of_key_nodes
returns-then-not-is_of_key_nodes c = record { key_node = λ node of. absurd (cc (c.is_of_key_nodes.ensures.1 (key_node_kind c.args.header.now c.args.entries.now node of), c.if-not-is_of_key_nodes.true)) }

pub returns-in-Ok : goal.returns-in-Ok
returns-in-Ok c =
    let kind = c.is_of_key_nodes.ensures.0 (cc c.if-not-is_of_key_nodes.false) in
    record { key_node = key_node_from c.args.header.now c.args.entries.now c.in-Ok.children.items c.requires.node kind.0 kind.1 kind.2 (search rules) kind.3 c.in-Ok.ensures.children }

pub returns-in-Err : goal.returns-in-Err
returns-in-Err c =
    let h = c.args.header.now in
    let es = c.args.entries.now in
    let kind = c.is_of_key_nodes.ensures.0 (cc c.if-not-is_of_key_nodes.false) in
    record {
      key_node = refusal_map (AreChildrenOf h.bounds h.count es) (IsKeyNodeOf h es)
          (λ children are. (_, key_node_from h es children c.requires.node kind.0 kind.1 kind.2 (search rules) kind.3 are))
          (λ node of. (node.children, key_node_children h es node of))
          c.in-Err.fault c.in-Err.ensures.children;
    }
