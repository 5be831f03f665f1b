use Rattle.version_model.proofs.api.PastSplit.{PartsRepresent-pushed, PartsRepresent-moved}
use Rattle.version_model.proofs.api.ColumnSplit.{PartsRepresent-cut}
use Rattle.version_model.proofs.laws.pasts_represent_on.Goals as goal

pub returns : goal.returns
returns c = record {
  pushed = λ old new next further all keys start at block parts versions grows forward new_block in_next burnt shows past. PartsRepresent-pushed old new next further all keys start at block parts versions grows forward new_block in_next burnt shows past;
  moved = λ old new next further all keys start block parts grows some new_block in_next burnt past. PartsRepresent-moved old new next further all keys start block parts grows some new_block in_next burnt past;
  cut = PartsRepresent-cut;
}
