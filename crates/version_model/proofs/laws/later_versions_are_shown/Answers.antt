use Rattle.version_model.proofs.api.Shown.{LeafRepresents-adds, LeafRepresents-outside}
use Rattle.version_model.proofs.laws.later_versions_are_shown.Goals as goal

pub returns : goal.returns
returns c = record {
  taken = λ all new leaf more r v. LeafRepresents-adds all new r leaf more v;
  elsewhere = λ all new leaf r v. LeafRepresents-outside all new r leaf v;
}
