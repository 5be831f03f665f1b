use Rattle.std.proofs.Common.{codes, ◌∙◌}
use Rattle.std.proofs.lemmas.Result.{IfOk-weaker}
use Rattle.service.proofs.CommandLines.{joined}
use Rattle.service.proofs.command_line.line_of.Goals as goal

pub returns : goal.returns
returns c = record { spaced = IfOk-weaker c.join.result _ _ (λ line h. h ∙ joined (λ w. w.now) (codes " ") c.args.words.now) c.join.ensures.ok }
