use Rattle.std.proofs.Common.{◌∙◌, ℕ, ap}
use Rattle.tsb_node.specs.Columns.{part_octets, place_octets}
use Rattle.tsb_node.specs.inner.Laying.{laid}
use Rattle.tsb_node.proofs.column_writing.put_part.Goals as goal

pub returns-clause-laid : goal.returns-clause-laid
unfolding part_octets
returns-clause-laid g c = c.put_place.ensures.laid ∙ ap (λ (k : ℕ). laid c.args.at (place_octets c.args.part.now.start k c.args.part.now.block) c.args.sheet.now) c.octet_of_kind.ensures
