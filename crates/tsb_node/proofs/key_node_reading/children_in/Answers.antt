use Rattle.tsb_node.specs.inner.ChildReading.{AreChildrenOf}
use Rattle.tsb_node.proofs.Refusals.{refusal_match, if_ok_map}
use Rattle.tsb_node.proofs.key_node_reading.children_in.Goals as goal

pub returns-then-not-are_children : goal.returns-then-not-are_children
returns-then-not-are_children c = record { children = λ children are. absurd (cc (c.are_children.ensures.1 (children, are), c.if-not-are_children.true)) }

pub returns : goal.returns
returns c =
    let yes = c.are_children.ensures.0 (cc c.if-not-are_children.false) in
    record {
      children = refusal_match (λ v. v.items) (AreChildrenOf c.args.bounds.now c.args.count c.args.bytes.now) yes.0 yes.1 c.children_kept.result
          (if_ok_map c.children_kept.result _ _ (λ x each. each yes.0 yes.1) c.children_kept.ensures.children)
          (c.children_kept.ensures.refused yes.0 yes.1);
    }
