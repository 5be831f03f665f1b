use Rattle.std.proofs.Common.{[], ◌∷◌, arith}
use Rattle.service.proofs.Words.{same_word, only_word, word_at}
use Rattle.server.proofs.Words.{differs}
use Rattle.server.proofs.command_words.read_word.Goals as goal

pub returns-clause-found : goal.returns-clause-found
returns-clause-found c =
    only_word c.args.words.now (record { ref_ptr = (0, 0); now = [] }) c.args.word.now (omega arith) (omega arith)
    (same_word _ c.args.word.now _ c.ne.ensures c.if-ne.false)

pub returns-then-ne-clause-none : goal.returns-then-ne-clause-none
returns-then-ne-clause-none c = λ e.
    differs _ c.args.word.now c.ne.result c.ne.ensures c.if-ne.true
    (word_at c.args.words.now 0 (record { ref_ptr = (0, 0); now = [] }) (c.args.word.now ∷ []) e (omega arith))
