use Rattle.std.proofs.Common.{sym, subst}
use Rattle.board.specs.Past.{Among}
use Rattle.board.specs.Views.{View}
use Rattle.web.proofs.answering.answer_asked.Goals as goal

pub returns-in-Ok-Info-clause-reader : goal.returns-in-Ok-Info-clause-reader
returns-in-Ok-Info-clause-reader g c named = subst (λ (v : View). Among c.args.reader.now v.past.blocks) (sym c.answer_info.ensures.same) (c.requires.reader named)

pub returns-in-Ok-Metrics-clause-reader : goal.returns-in-Ok-Metrics-clause-reader
returns-in-Ok-Metrics-clause-reader g c named = subst (λ (v : View). Among c.args.reader.now v.past.blocks) (sym c.answer_metrics.ensures.same) (c.requires.reader named)
