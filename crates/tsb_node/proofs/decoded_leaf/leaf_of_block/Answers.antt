use Rattle.std.proofs.Common.{sym, subst}
use Rattle.tsb_node.specs.Leaves.{LeafNode, IsLeafBlock, BeginsAsLeaf}
use Rattle.tsb_node.proofs.OneNode.{leaf_block}
use Rattle.tsb_node.proofs.Parting.{decoded_is}
use Rattle.tsb_node.proofs.Refusals.{refusal_of}
use Rattle.tsb_node.proofs.decoded_leaf.leaf_of_block.Goals as goal

pub returns-in_default : goal.returns-in_default
returns-in_default c = record { leaf = λ leaf is. c.in_default.ensures.none leaf is }

pub returns-in-Ok : goal.returns-in-Ok
returns-in-Ok c =
    let found = c.in-Some.ensures.found in
    let begins : BeginsAsLeaf found.0 c.octets.result.now = subst (BeginsAsLeaf found.0) (sym c.octets.ensures.value) (leaf_block found.0 c.args.block.now found.1) in
    record { leaf = subst (λ (l : LeafNode). IsLeafBlock l c.args.block.now) (decoded_is (record { bounds = c.in-Some.bounds; entries = c.in-Ok.entries }) found.0 found.2 (c.in-Ok.ensures.entries found.0 begins)) found.1 }

pub returns-in-Err : goal.returns-in-Err
returns-in-Err c =
    let found = c.in-Some.ensures.found in
    let begins : BeginsAsLeaf found.0 c.octets.result.now = subst (BeginsAsLeaf found.0) (sym c.octets.ensures.value) (leaf_block found.0 c.args.block.now found.1) in
    record { leaf = refusal_of (λ leaf. IsLeafBlock leaf c.args.block.now) found.0 found.1 c.in-Err.fault (λ same. c.in-Err.ensures.refused found.0 begins same) }
