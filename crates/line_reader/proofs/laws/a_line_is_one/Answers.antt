use Rattle.line_reader.proofs.OneLine.{one_line, stays_the_line}
use Rattle.line_reader.proofs.laws.a_line_is_one.Goals as goal

pub returns : goal.returns
returns c = record { one = one_line; stays = stays_the_line }
