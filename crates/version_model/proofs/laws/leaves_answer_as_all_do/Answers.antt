use Rattle.version_model.proofs.api.Shown.{answers_shown}
use Rattle.version_model.proofs.api.LooksShown.{none_shown, part_shown, next_shown, reported_shown}
use Rattle.version_model.proofs.laws.leaves_answer_as_all_do.Goals as goal

pub returns : goal.returns
returns c = record {
  look_up = λ all leaf r key s answer shows point is. answers_shown all r leaf shows key s answer (record { low = point.low; high = point.high }) point.start point.end is;
  none = λ all leaf r s from to shows low high start end is. none_shown all r leaf shows s from to low high start end is;
  part = λ all leaf r key from shows rising rising_leaf point. part_shown all r leaf shows key from (record { low = point.low; high = point.high }) point.start rising rising_leaf;
  next = λ all leaf r s from reached shows point within is. next_shown all r leaf shows s from reached point within is;
  reported = λ all leaf r key from reported shows rising rising_leaf point above within. reported_shown all r leaf shows key from reported point rising rising_leaf above within;
}
