use Rattle.std.proofs.Common.{◌≡◌, ◌∙◌, ap, sym}
use Rattle.version_model.specs.declared.bounds.Bounds.{Bounds}
use Rattle.tsb_walk.proofs.Blocks.{end_found}
use Rattle.tsb_walk.proofs.block.column_end.Goals as goal

pub returns-in_default : goal.returns-in_default
returns-in_default c = record { found = λ column end of. absurd (c.in_default.not-Ok column.bounds (c.column_head.ensures.old_column column of.begins)) }

pub returns-then-not-is_wider : goal.returns-then-not-is_wider
returns-then-not-is_wider c = record {
  found = λ column end of.
      (let same : column.bounds ≡ c.in-Ok.wide = cc (c.in-Ok.is, c.column_head.ensures.old_column column of.begins) in
      absurd (cc (c.is_wider.ensures.1 (end_found c.args.bounds.now c.in-Ok.wide c.args.octets.now column end of same), c.if-not-is_wider.true)));
}

pub returns : goal.returns
returns c = record {
  found = λ column end of.
      (let same : column.bounds ≡ c.in-Ok.wide = cc (c.in-Ok.is, c.column_head.ensures.old_column column of.begins) in
      ap (λ (b : Bounds). b.end) (sym same) ∙ of.ended);
}
