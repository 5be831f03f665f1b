use Rattle.std.proofs.Common.{drop}
use Rattle.route_model.proofs.Numbers.{big_two, big_four, big_eight}
use Rattle.route_model.proofs.octets.numbers_agree.Goals as goal

pub returns-clause-two : goal.returns-clause-two
returns-clause-two c = λ octets place. big_two (drop place octets)

pub returns-clause-four : goal.returns-clause-four
returns-clause-four c = λ octets place. big_four (drop place octets)

pub returns-clause-eight : goal.returns-clause-eight
returns-clause-eight c = λ octets place. big_eight (drop place octets)
