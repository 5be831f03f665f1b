use Rattle.version_model.proofs.api.Put.{Splits-child, Splits-put}
use Rattle.version_model.proofs.laws.key_nodes_take_as_their_children_do.Goals as goal

pub returns : goal.returns
returns c = record {
  one = Splits-child;
  two = λ s t u v level page keys children i child new at at_child from up_to splits writes. Splits-put s t u v level page keys children i child new at at_child from up_to splits writes;
}
