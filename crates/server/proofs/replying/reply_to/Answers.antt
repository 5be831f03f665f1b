use Rattle.std.proofs.Common.{sym, ap, subst}
use Rattle.board.specs.Past.{Past, Among}
use Rattle.board.specs.Views.{View}
use Rattle.server.proofs.replying.reply_to.Goals as goal

pub returns-in-Watermark-clause-reader : goal.returns-in-Watermark-clause-reader
returns-in-Watermark-clause-reader g c named = subst (λ (p : Past). Among c.args.reader.now p.blocks) (sym (ap (λ (v : View). v.past) c.report_watermark.ensures.sees.0)) (c.requires.reader named)

pub returns-in-Durable-clause-reader : goal.returns-in-Durable-clause-reader
returns-in-Durable-clause-reader g c named = subst (λ (p : Past). Among c.args.reader.now p.blocks) (sym c.report_count.ensures.past) (c.requires.reader named)
