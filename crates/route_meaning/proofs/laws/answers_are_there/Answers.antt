use Rattle.route_meaning.proofs.api.There.{rows_there, answer_there}
use Rattle.route_meaning.proofs.laws.answers_are_there.Goals as goal

pub returns : goal.returns
returns c = record {
  range = λ ps moment select low high all. rows_there ps moment select low high all;
  rows = λ ps q all. answer_there ps q all;
}
