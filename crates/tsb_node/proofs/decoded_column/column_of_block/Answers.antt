use Rattle.std.proofs.Common.{IsSome, sym, subst}
use Rattle.std.specs.List.{flat_map}
use Rattle.route_model.specs.Units.{moments_in}
use Rattle.tsb_node.specs.Scaling.{scaled}
use Rattle.tsb_node.specs.Columns.{ColumnInBlock, IsColumnBlock, part_octets}
use Rattle.tsb_node.specs.Decoded.{decoded_old_column}
use Rattle.tsb_node.specs.inner.InMoments.{IsOldColumnFrom}
use Rattle.tsb_node.proofs.Refusals.{refusal_along}
use Rattle.tsb_node.proofs.NodeLaws.{nodes_same, block_begins}
use Rattle.tsb_node.proofs.ColumnReading.{old_made, old_back, old_block_node, old_header}
use Rattle.tsb_node.proofs.MomentLaws.{known_at, some_mapped}
use Rattle.tsb_node.proofs.decoded_column.column_of_block.Goals as goal

pub returns-in_default : goal.returns-in_default
returns-in_default c = record { column = λ column is. absurd (c.in_default.ensures.none (old_header is.block.unit is.as_written) (flat_map part_octets is.as_written.parts) (old_block_node is.as_written c.args.block.now is.block)) }

pub returns-then-not-is_known : goal.returns-then-not-is_known
returns-then-not-is_known c = record {
  column = λ column is.
      (let block = c.args.block.now in
      let begun = block_begins _ _ block (old_block_node is.as_written block is.block) in
      let unit = (nodes_same _ c.in-Some.header _ c.in-Some.entries.now block begun (block_begins c.in-Some.header c.in-Some.entries.now block c.in-Some.ensures.found)).unit in
      absurd (cc (c.is_known.ensures.1 (known_at _ _ unit is.moments.known), c.if-not-is_known.true)));
}

pub returns : goal.returns
returns c =
    let block = c.args.block.now in
    let h = c.in-Some.header in
    let es = c.in-Some.entries.now in
    let node = c.in-Some.ensures.found in
    record {
      column = refusal_along decoded_old_column (IsOldColumnFrom h es) (λ column. IsColumnBlock column block)
          (λ column from. record {
            as_written = from.as_written;
            block = old_made h es block from.as_written node from.of;
            moments = record { known = from.known; scaled_is = from.scaled_is };
            valid = from.valid;
            ended = subst (λ (x : ColumnInBlock). IsSome x.bounds.end) (sym from.scaled_is) (some_mapped (scaled (moments_in from.known.unit)) from.as_written.bounds.end (old_made h es block from.as_written node from.of).block.ended);
          })
          (λ column is. record {
            known = known_at _ _ (nodes_same _ h _ es block (block_begins _ _ block (old_block_node is.as_written block is.block)) (block_begins h es block node)).unit is.moments.known;
            as_written = is.as_written;
            of = old_back h es block is.as_written node is.block;
            scaled_is = is.moments.scaled_is;
            valid = is.valid;
          })
          c.read_old_column.result c.read_old_column.ensures.column;
    }
