use Rattle.version_model.proofs.api.Fits.{point_is_there, left_fits, right_fits, left_some}
use Rattle.version_model.proofs.api.Sizing.{IsFrom-single}
use Rattle.version_model.proofs.laws.key_splits_fit.Goals as goal

pub returns : goal.returns
returns c = record {
  there = λ vs room most least high single small some low. point_is_there vs room most least single small some low high;
  fit = λ vs room most least key single small some low full is. (left_fits vs room most least single small some low key full is, right_fits vs room most least single small some low key full is);
  left = λ vs least key some is. left_some vs least key some is;
  right = λ vs least key is. is.2;
  single = λ leaf newer at from rising upto. IsFrom-single leaf newer at from rising upto;
}
