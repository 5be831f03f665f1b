use Rattle.version_model.proofs.api.PastKept.{PartRepresents-grows, PartRepresents-later, PartRepresents-cut}
use Rattle.version_model.proofs.laws.parts_represent_on.Goals as goal

pub returns : goal.returns
returns c = record {
  grows = λ old new all r part grows. PartRepresents-grows old new all grows r part;
  later = λ blocks all new v r part adds. PartRepresents-later blocks all new v adds r part;
  cut = λ blocks all r s part. PartRepresents-cut blocks all r s part;
}
