use Rattle.query_threads.proofs.Answering.{answer_stays, same_answer}
use Rattle.query_threads.proofs.laws.answers_stay.Goals as goal

pub returns : goal.returns
returns c = record { same = same_answer; stays = answer_stays }
