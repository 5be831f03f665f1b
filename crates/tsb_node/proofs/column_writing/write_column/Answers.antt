use Rattle.std.proofs.Common.{◌∙◌, ◌*◌, ◌+◌, length, ap, refl}
use Rattle.disk_models.specs.Octets.{zeros}
use Rattle.tsb_node.specs.Nodes.{header, unit_now}
use Rattle.tsb_node.specs.Columns.{current_octets}
use Rattle.tsb_node.specs.inner.Laying.{laid}
use Rattle.tsb_node.proofs.WritingLaws.{filling_start}
use Rattle.tsb_node.proofs.ColumnWriting.{column_valid, column_written}
use Rattle.tsb_node.proofs.column_writing.write_column.Goals as goal

pub returns : goal.returns
unfolding zeros current_octets
returns c =
    let b = c.args.bounds.now in
    let n = length c.args.parts.now in
    let h = header 2 unit_now 1 (n + 1) (25 * (n + 1)) b in
    let start = filling_start unit_now 2 1 (n + 1) (25 * (n + 1)) b c.put_header.new.page (c.put_header.ensures ∙ ap (laid 0 h) c.clear.ensures) in
    record {
      written = rw c.put_place.ensures.laid (column_written (record { bounds = b; parts = c.args.parts.now; current = c.args.current }) (n + 1) (25 * (n + 1)) c.put_parts.new.sheet (column_valid _ c.requires.valid c.bounds_fit.ensures.fits c.put_parts.ensures.fits c.put_place.ensures.fits.0 c.put_place.ensures.fits.1) c.requires.in_page refl refl
          (c.put_parts.ensures.filling h start));
    }
