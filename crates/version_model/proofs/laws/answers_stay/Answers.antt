use Rattle.version_model.proofs.api.Later as later
use Rattle.version_model.proofs.laws.answers_stay.Goals as goal

pub returns : goal.returns
returns c = record {
  look_up = λ all new s key at answer adds. later.answers_stay all new s adds key at answer;
  none = λ all new s at from to adds. later.none_stays all new s adds at from to;
  one = λ all new s v. later.Adds-later all new v s;
  next = λ all new s at from reached adds. later.next_stays all new s adds at from reached;
  part = λ all new versions s key from reported adds rising rising_new. later.part_stays all new s adds key from versions reported rising rising_new;
}
