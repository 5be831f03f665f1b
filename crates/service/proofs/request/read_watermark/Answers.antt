use Rattle.std.proofs.Common.{[], codes, arith}
use Rattle.service.proofs.Words.{same_word, only_word}
use Rattle.service.proofs.request.read_watermark.Goals as goal

pub returns-clause-found : goal.returns-clause-found
returns-clause-found c =
    only_word c.args.words.now (record { ref_ptr = (0, 0); now = [] }) (codes "watermark") (omega arith) (omega arith)
    (same_word _ (codes "watermark") _ c.ne.ensures c.if-ne.false)
