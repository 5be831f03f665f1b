use Rattle.std.proofs.Common.{◌<◌, arith, length, sym}
use Rattle.std.specs.List.{flat_map}
use Rattle.std.specs.declared.result.Result.TheVariants.{Ok}
use Rattle.tsb_node.specs.KeyNodes.{child_octets}
use Rattle.tsb_node.proofs.ChildLaws.{key_node_header}
use Rattle.tsb_node.proofs.KeyNodeLaws.{key_node_represents, some_child}
use Rattle.tsb_node.proofs.HeaderLaws.{has_represents}
use Rattle.tsb_node.proofs.MomentLaws.{known_at}
use Rattle.tsb_node.proofs.NodeLaws.{begun_header, begun_same}
use Rattle.tsb_node.proofs.OneNode.{key_node_begun, header_of_key_node, header_of_column}
use Rattle.tsb_node.proofs.heads.key_node_head.Goals as goal

pub returns-in_default-clause-head : goal.returns-in_default-clause-head
returns-in_default-clause-head c = λ node is.
    absurd (c.in_default.ensures.none (key_node_header is.begins.unit node) (begun_header (key_node_header is.begins.unit node) (flat_map child_octets node.children) c.args.octets.now (key_node_begun node c.args.octets.now is.begins)))

pub returns-then-not-is_of_key_nodes-clause-head : goal.returns-then-not-is_of_key_nodes-clause-head
returns-then-not-is_of_key_nodes-clause-head c = λ node is.
    let of = header_of_key_node node c.in-Some.header c.args.octets.now is.begins c.in-Some.ensures.found in
    let some : 0 < c.in-Some.header.count = omega (arith, of.count_is, (key_node_represents node c.args.octets.now is.begins).count_is, (some_child node c.args.octets.now (length node.children) is.begins (sym (key_node_represents node c.args.octets.now is.begins).count_is)).0) in
    absurd (cc (c.is_of_key_nodes.ensures.1 (of.kind_is, omega (arith, of.level_is, is.valid.lowest), omega (arith, of.level_is, is.valid.highest), some), c.if-not-is_of_key_nodes.true))

pub returns-clause-head : goal.returns-clause-head
returns-clause-head c = λ node is.
    let of = header_of_key_node node c.in-Some.header c.args.octets.now is.begins c.in-Some.ensures.found in
    λ i. Ok (record { level = of.level_is i; bounds = of.bounds_are i })

pub returns-clause-level : goal.returns-clause-level
returns-clause-level c =
    let of = c.is_of_key_nodes.ensures.0 (cc c.if-not-is_of_key_nodes.false) in
    (of.1, of.2)

pub returns-clause-column : goal.returns-clause-column
returns-clause-column c = λ column is.
    let of = header_of_column is.as_written c.in-Some.header c.args.octets.now is.begins c.in-Some.ensures.found in
    absurd (omega (arith, of.kind_is, (c.is_of_key_nodes.ensures.0 (cc c.if-not-is_of_key_nodes.false)).0))

pub returns-then-not-is_known-clause-head : goal.returns-then-not-is_known-clause-head
returns-then-not-is_known-clause-head c = λ node is.
    let same = begun_same (key_node_header is.begins.unit node) c.in-Some.header (flat_map child_octets node.children) c.args.octets.now (key_node_begun node c.args.octets.now is.begins) c.in-Some.ensures.found in
    absurd (cc (c.is_known.ensures.1 (known_at _ _ (sym same.unit) is.known), c.if-not-is_known.true))

pub returns-clause-known : goal.returns-clause-known
returns-clause-known c = known_at _ _ (sym (has_represents c.in-Some.header c.args.octets.now c.in-Some.ensures.found).unit_is) (c.is_known.ensures.0 (cc c.if-not-is_known.false))
