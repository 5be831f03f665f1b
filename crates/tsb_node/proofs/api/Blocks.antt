-- Blocks, and the nodes as which they begin.
use Rattle.std.proofs.Common.{◌≡◌, ℕ, List, IsSome, sym, subst}
use Rattle.std.specs.List.{flat_map}
use Rattle.once_store.specs.Digests.{IsWhole}
use Rattle.version_model.specs.Blocks.{BlockNode}
use Rattle.route_model.specs.Units.{moments_in}
use Rattle.tsb_node.specs.Scaling.{scaled}
use Rattle.tsb_node.specs.Leaves.{LeafNode, BeginsAsLeaf, IsLeafBlock, entries}
use Rattle.tsb_node.specs.Columns.{ColumnInBlock, IsColumnBlock, part_octets}
use Rattle.tsb_node.specs.Parts.{BeginsAsOldColumn}
use Rattle.tsb_node.specs.Views.{BlockRepresents}
use Rattle.tsb_node.proofs.NodeLaws.{block_made, block_digest}
use Rattle.tsb_node.proofs.LeafReading.{leaf_begun, leaf_block}
use Rattle.tsb_node.proofs.ColumnReading.{old_block_node}
use Rattle.tsb_node.proofs.OneNode.{leaf_one, old_column_one, old_begun, old_block, leaf_block as begun_block, block_one}
use Rattle.tsb_node.proofs.MomentLaws.{some_unmapped}

pub leaf_begins : (leaf : LeafNode) (octets : List ℕ) → IsLeafBlock leaf octets → BeginsAsLeaf leaf octets
leaf_begins leaf octets is = begun_block leaf octets is

pub leaf_whole : (leaf : LeafNode) (octets : List ℕ) → IsLeafBlock leaf octets → IsWhole octets
leaf_whole leaf octets is = sym (block_digest _ (entries is.as_written.versions) octets (leaf_block is.as_written octets is.block))

pub leaf_made : (leaf : LeafNode) (octets : List ℕ) → BeginsAsLeaf leaf octets → IsSome leaf.bounds.end → IsWhole octets → IsLeafBlock leaf octets
leaf_made leaf octets is ended whole =
    let before : IsSome is.as_written.bounds.end = some_unmapped (scaled (moments_in is.moments.known.unit)) is.as_written.bounds.end (subst (λ (l : LeafNode). IsSome l.bounds.end) is.moments.scaled_is ended) in
    let node = block_made _ (entries is.as_written.versions) octets (leaf_begun is.as_written octets is.begins) before (sym whole) in
    record {
      as_written = is.as_written;
      block = record { unit = is.begins.unit; valid = is.begins.valid; block = record { ended = before; encoded = node.block.encoded } };
      moments = is.moments;
      valid = is.valid;
      ended = ended;
    }

pub column_begins : (column : ColumnInBlock) (octets : List ℕ) → IsColumnBlock column octets → BeginsAsOldColumn column octets
column_begins column octets is = old_block column octets is

pub column_whole : (column : ColumnInBlock) (octets : List ℕ) → IsColumnBlock column octets → IsWhole octets
column_whole column octets is = sym (block_digest _ (flat_map part_octets is.as_written.parts) octets (old_block_node is.as_written octets is.block))

pub column_made : (column : ColumnInBlock) (octets : List ℕ) → BeginsAsOldColumn column octets → IsSome column.bounds.end → IsWhole octets → IsColumnBlock column octets
column_made column octets is ended whole =
    let before : IsSome is.as_written.bounds.end = some_unmapped (scaled (moments_in is.moments.known.unit)) is.as_written.bounds.end (subst (λ (c : ColumnInBlock). IsSome c.bounds.end) is.moments.scaled_is ended) in
    let node = block_made _ (flat_map part_octets is.as_written.parts) octets (old_begun is.as_written octets is.begins) before (sym whole) in
    record {
      as_written = is.as_written;
      block = record { unit = is.begins.unit; valid = is.begins.valid; block = record { ended = before; encoded = node.block.encoded } };
      moments = is.moments;
      valid = is.valid;
      ended = ended;
    }

-- octets begin as one leaf at most
pub one_leaf : (a b : LeafNode) (octets : List ℕ) → BeginsAsLeaf a octets → BeginsAsLeaf b octets → a ≡ b
one_leaf a b octets p q = leaf_one a b octets p q

-- and as one column of a block at most
pub one_column : (a b : ColumnInBlock) (octets : List ℕ) → BeginsAsOldColumn a octets → BeginsAsOldColumn b octets → a ≡ b
one_column a b octets p q = old_column_one a b octets p q

-- a block represents one thing at most
pub one_decoded : (octets : List ℕ) (a b : BlockNode) → BlockRepresents octets a → BlockRepresents octets b → a ≡ b
one_decoded octets a b p q = block_one octets a b p q
