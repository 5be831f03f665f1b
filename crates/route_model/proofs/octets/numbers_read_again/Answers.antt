use Rattle.route_model.proofs.Numbers.{again_two, again_four, again_eight}
use Rattle.route_model.proofs.octets.numbers_read_again.Goals as goal

pub returns-clause-two : goal.returns-clause-two
returns-clause-two c = again_two

pub returns-clause-four : goal.returns-clause-four
returns-clause-four c = again_four

pub returns-clause-eight : goal.returns-clause-eight
returns-clause-eight c = again_eight
