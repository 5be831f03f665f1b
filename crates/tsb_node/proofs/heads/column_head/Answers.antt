use Rattle.std.proofs.Common.{◌∙◌, ap, sym, subst, refl}
use Rattle.std.specs.List.{flat_map}
use Rattle.std.specs.declared.result.Result.TheVariants.{Ok}
use Rattle.tsb_node.specs.Nodes.{IsBounds}
use Rattle.tsb_node.specs.Columns.{ColumnInPage, ColumnInBlock, part_octets}
use Rattle.tsb_node.proofs.ColumnReading.{column_header, column_entries, old_header}
use Rattle.tsb_node.proofs.NodeLaws.{begun_header}
use Rattle.tsb_node.proofs.OneNode.{column_begun, old_begun}
use Rattle.tsb_node.proofs.heads.column_head.Goals as goal

pub returns-clause-column : goal.returns-clause-column
returns-clause-column c = λ column is.
    let w = is.as_written in
    let h = column_header is.begins.unit w in
    let has = begun_header h (column_entries w) c.args.octets.now (column_begun w c.args.octets.now is.begins) in
    let fits = subst (λ (x : ColumnInPage). IsBounds x.bounds) is.moments.scaled_is is.valid.bounds in
    c.bounds_of.ensures.bounds h is.moments.known has refl refl fits ∙ ap (λ (x : ColumnInPage). Ok x.bounds) (sym is.moments.scaled_is)

pub returns-clause-old_column : goal.returns-clause-old_column
returns-clause-old_column c = λ column is.
    let w = is.as_written in
    let h = old_header is.begins.unit w in
    let has = begun_header h (flat_map part_octets w.parts) c.args.octets.now (old_begun w c.args.octets.now is.begins) in
    let fits = subst (λ (x : ColumnInBlock). IsBounds x.bounds) is.moments.scaled_is is.valid.bounds in
    c.bounds_of.ensures.bounds h is.moments.known has refl refl fits ∙ ap (λ (x : ColumnInBlock). Ok x.bounds) (sym is.moments.scaled_is)
