use Rattle.std.proofs.Common.{◌∙◌, ◌*◌, length, ap, refl}
use Rattle.disk_models.specs.Octets.{zeros}
use Rattle.tsb_node.specs.Nodes.{header, unit_now}
use Rattle.tsb_node.specs.inner.Laying.{laid}
use Rattle.tsb_node.proofs.WritingLaws.{filling_start}
use Rattle.tsb_node.proofs.ColumnWriting.{old_column_valid, old_column_written}
use Rattle.tsb_node.proofs.column_writing.write_old_column.Goals as goal

pub returns : goal.returns
unfolding zeros
returns c =
    let b = c.args.bounds.now in
    let n = length c.args.parts.now in
    let h = header 2 unit_now 1 n (25 * n) b in
    let start = filling_start unit_now 2 1 n (25 * n) b c.put_header.new.page (c.put_header.ensures ∙ ap (laid 0 h) c.clear.ensures) in
    let sheet = c.put_parts.new.sheet in
    record {
      written = rw c.seal.ensures.sealed (old_column_written (record { bounds = b; parts = c.args.parts.now }) n (25 * n) sheet (old_column_valid _ c.requires.valid c.bounds_fit.ensures.fits c.put_parts.ensures.fits) c.requires.in_block refl refl (c.put_parts.ensures.filling h start));
    }
