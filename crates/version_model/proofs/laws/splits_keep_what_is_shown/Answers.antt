use Rattle.version_model.proofs.api.Shown.{LeafRepresents-before, LeafRepresents-from, LeafRepresents-below, LeafRepresents-from_key, LeafRepresents-cut}
use Rattle.version_model.proofs.laws.splits_keep_what_is_shown.Goals as goal

pub returns : goal.returns
returns c = record {
  older = λ all leaf side r at. LeafRepresents-before all r leaf side at;
  newer = λ all leaf side r at. LeafRepresents-from all r leaf side at;
  left = λ all leaf side r key. LeafRepresents-below all r leaf side key;
  right = λ all leaf side r key. LeafRepresents-from_key all r leaf side key;
  cut = λ all leaf r s. LeafRepresents-cut all r s leaf;
}
