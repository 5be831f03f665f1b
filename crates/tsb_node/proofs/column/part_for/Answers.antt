use Rattle.std.proofs.Common.{◌∙◌, ◌≤◌, ◌<◌, ◌^◌, ℕ, ap, sym, subst}
use Rattle.tsb_node.specs.Scaling.{scaled}
use Rattle.tsb_node.specs.Columns.{ColumnInBlock, IsOldColumn, scaled_old_column}
use Rattle.tsb_node.specs.Parts.{IsPartAt}
use Rattle.tsb_node.specs.inner.Spots.{scaled_part_at}
use Rattle.tsb_node.proofs.MomentLaws.{known_at, as_scaled, part_up, part_fits}
use Rattle.tsb_node.proofs.MomentColumns.{asked_in_unit, end_fits}
use Rattle.tsb_node.proofs.OneNode.{old_column_unit}
use Rattle.tsb_node.proofs.column.part_for.Goals as goal

pub returns-in-Ok : goal.returns-in-Ok
returns-in-Ok c = record {
  part = λ column is ends from.
      (let k = c.moments_of-k.result in
      let w = is.as_written in
      let found = c.in-Ok.found in
      let one = c.moments_of-k.ensures.some in
      let unit = c.moments_of-k.ensures.moments (known_at _ _ (sym (old_column_unit w c.args.octets.now is.begins)) is.moments.known) in
      let whole = as_scaled scaled_old_column is.begins.unit k w column is.moments unit in
      let asked = asked_in_unit w k c.args.end c.args.stamp c.floor_stamp.result c.floor_stamp-2.result one (sym (ap (λ (x : ColumnInBlock). x.bounds.end) whole) ∙ ends)
      (subst (λ (x : ColumnInBlock). x.bounds.start ≤ c.args.stamp) whole from) c.requires.before c.floor_stamp.ensures c.floor_stamp-2.ensures in
      let up = part_up k c.floor_stamp.result c.args.stamp c.floor_stamp-2.result w.parts found one c.floor_stamp-2.ensures (c.in-Ok.ensures.part w is.begins asked.ends asked.from asked.before) in
      let valid = subst IsOldColumn whole is.valid in
      let last : scaled k c.floor_stamp.result < 256 ^ 16 = subst (λ (n : ℕ). n < 256 ^ 16) asked.end_is (end_fits column.bounds c.args.end is.valid.bounds ends) in
      let fits = part_fits k c.floor_stamp.result w.parts c.args.stamp found valid.each last up in
      let there = subst (λ (n : ℕ). IsPartAt (scaled_old_column k w).parts n c.args.stamp (scaled_part_at k found)) (sym asked.end_is) up in
      subst (IsPartAt column.parts c.args.end c.args.stamp) (sym (c.found_in_moments.ensures fits)) (subst (λ (x : ColumnInBlock). IsPartAt x.parts c.args.end c.args.stamp (scaled_part_at k found)) (sym whole) there));
}

pub returns-in-Err : goal.returns-in-Err
returns-in-Err c = record {
  part = λ column is ends from.
      (let k = c.moments_of-k.result in
      let w = is.as_written in
      let unit = c.moments_of-k.ensures.moments (known_at _ _ (sym (old_column_unit w c.args.octets.now is.begins)) is.moments.known) in
      let whole = as_scaled scaled_old_column is.begins.unit k w column is.moments unit in
      let asked = asked_in_unit w k c.args.end c.args.stamp c.floor_stamp.result c.floor_stamp-2.result c.moments_of-k.ensures.some (sym (ap (λ (x : ColumnInBlock). x.bounds.end) whole) ∙ ends)
      (subst (λ (x : ColumnInBlock). x.bounds.start ≤ c.args.stamp) whole from) c.requires.before c.floor_stamp.ensures c.floor_stamp-2.ensures in
      c.in-Err.ensures.part w is.begins asked.ends asked.from asked.before);
}
