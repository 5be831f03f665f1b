use Rattle.std.specs.List.{flat_map}
use Rattle.tsb_node.specs.KeyNodes.{IsKeyNodePage, child_octets}
use Rattle.tsb_node.specs.Decoded.{decoded_key_node}
use Rattle.tsb_node.specs.inner.ChildReading.{IsKeyNodeOf}
use Rattle.tsb_node.proofs.Refusals.{refusal_along}
use Rattle.tsb_node.proofs.NodeLaws.{nodes_same, page_begins}
use Rattle.tsb_node.proofs.ChildLaws.{key_node_made, key_node_back, key_node_page, key_node_header}
use Rattle.tsb_node.proofs.MomentLaws.{known_at}
use Rattle.tsb_node.proofs.decoded_key_node.key_node_of_page.Goals as goal

pub returns-in_default : goal.returns-in_default
returns-in_default c = record { key_node = λ node is. absurd (c.in_default.ensures.none (key_node_header is.page.unit node) (flat_map child_octets node.children) (key_node_page node c.args.page.now is.page)) }

pub returns-then-not-is_known : goal.returns-then-not-is_known
returns-then-not-is_known c = record {
  key_node = λ node is.
      (let page = c.args.page.now in
      let begun = page_begins _ _ page (key_node_page node page is.page) in
      let unit = (nodes_same _ c.in-Some.header _ c.in-Some.entries.now page begun (page_begins c.in-Some.header c.in-Some.entries.now page c.in-Some.ensures.found)).unit in
      absurd (cc (c.is_known.ensures.1 (known_at _ _ unit is.known), c.if-not-is_known.true)));
}

pub returns : goal.returns
returns c =
    let h = c.in-Some.header in
    let es = c.in-Some.entries.now in
    let node = c.in-Some.ensures.found in
    let known = c.is_known.ensures.0 (cc c.if-not-is_known.false) in
    record {
      key_node = refusal_along decoded_key_node (IsKeyNodeOf h es) (λ k. IsKeyNodePage k c.args.page.now)
          (λ k of. record { page = key_node_made h es c.args.page.now k node of; known = known; valid = of.valid; current = (key_node_made h es c.args.page.now k node of).page.current })
          (λ k is. key_node_back h es c.args.page.now k node is.page)
          c.key_node_in.result c.key_node_in.ensures.key_node;
    }
