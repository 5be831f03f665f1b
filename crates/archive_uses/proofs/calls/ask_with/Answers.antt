use Rattle.std.proofs.Common.{refl}
use Rattle.archive_uses.proofs.Looking.{answered_where, keeps_by}
use Rattle.archive_uses.proofs.calls.ask_with.Goals as goal

pub returns-clause-did : goal.returns-clause-did
returns-clause-did g c from = record {
  answered = answered_where c.args.archive.now c.args.query _ c.answer_with.result from c.answer_with.ensures.answered;
  below = c.answer_with.ensures.below;
  above = c.answer_with.ensures.above;
  recovery = c.answer_with.ensures.recovery;
  looks = record {
    holds = c.answer_with.ensures.holds;
    crash = c.answer_with.ensures.crash;
    down = c.answer_with.ensures.down;
    keeps = keeps_by c.args.archive.now c.answer_with.new.self c.answer_with.ensures.settings c.answer_with.ensures.honest c.answer_with.ensures.disk c.answer_with.ensures.blocks c.answer_with.ensures.idle;
  };
}

pub returns-clause-leads : goal.returns-clause-leads
returns-clause-leads g c from = (c.answer_with.result, returns-clause-did g c from, refl)
