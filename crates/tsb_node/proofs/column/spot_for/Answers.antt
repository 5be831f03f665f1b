use Rattle.std.proofs.Common.{sym, subst}
use Rattle.tsb_node.specs.Columns.{ColumnInPage, IsColumn, scaled_column}
use Rattle.tsb_node.specs.Parts.{IsSpot}
use Rattle.tsb_node.specs.inner.Spots.{scaled_spot}
use Rattle.tsb_node.proofs.MomentLaws.{known_at, as_scaled, spot_up, spot_fits}
use Rattle.tsb_node.proofs.OneNode.{column_unit}
use Rattle.tsb_node.proofs.column.spot_for.Goals as goal

pub returns-in-Ok : goal.returns-in-Ok
returns-in-Ok c = record {
  spot = λ column is.
      (let k = c.moments_of-k.result in
      let w = is.as_written in
      let spot = c.in-Ok.spot in
      let unit = c.moments_of-k.ensures.moments (known_at _ _ (sym (column_unit w c.args.octets.now is.begins)) is.moments.known) in
      let whole = as_scaled scaled_column is.begins.unit k w column is.moments unit in
      let up = spot_up k c.args.stamp c.floor_stamp.result w spot c.moments_of-k.ensures.some c.floor_stamp.ensures (c.in-Ok.ensures.spot w is.begins) in
      let fits = spot_fits k c.args.stamp w spot (subst IsColumn whole is.valid) up in
      subst (IsSpot column c.args.stamp) (sym (c.spot_in_moments.ensures fits)) (subst (λ (x : ColumnInPage). IsSpot x c.args.stamp (scaled_spot k spot)) (sym whole) up));
}

pub returns-in-Err : goal.returns-in-Err
returns-in-Err c = record { spot = λ column is. c.in-Err.ensures.spot is.as_written is.begins }
