use Rattle.std.proofs.Common.{sym, ◌∙◌}
use Rattle.std.proofs.lemmas.Bool.{false≢true}
use Rattle.tree_questions.proofs.TouchedEntries.{one_passed, one_put}
use Rattle.tree_questions.proofs.touching.put_one.Goals as goal

pub returns-then-not-counts : goal.returns-then-not-counts
returns-then-not-counts c = one_passed c.args.from c.args.first c.args.end c.args.keys.now c.args.keys.now c.args.entry.now (λ h. absurd (false≢true (sym c.if-not-counts.true ∙ c.counts.ensures.1 h)))

pub returns : goal.returns
returns c = one_put c.args.from c.args.first c.args.end c.args.keys.now c.put.new.keys c.args.entry.now (c.counts.ensures.0 c.if-not-counts.false) c.in_ok-put.ensures
