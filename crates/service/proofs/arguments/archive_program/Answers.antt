use Rattle.std.proofs.lemmas.Result.{IfOk-weaker}
use Rattle.service.specs.CommandLines.{bare_program, creation, loading, question, serving, checking, examining}
use Rattle.service.proofs.Subcommands.{adds}
use Rattle.service.proofs.arguments.archive_program.Goals as goal

pub returns : goal.returns
returns c =
    let one = adds _ _ _ bare_program creation c.in_ok-subcommand.ensures c.bare_program.ensures.app c.in_ok-creation.ensures.app c.in_ok-creation.ensures.own in
    let two = adds _ _ _ _ loading c.in_ok-subcommand-2.ensures one c.in_ok-loading.ensures.app c.in_ok-loading.ensures.own in
    let three = adds _ _ _ _ question c.in_ok-subcommand-3.ensures two c.in_ok-question.ensures.app c.in_ok-question.ensures.own in
    let four = adds _ _ _ _ serving c.in_ok-subcommand-4.ensures three c.in_ok-serving.ensures.app c.in_ok-serving.ensures.own in
    let five = adds _ _ _ _ checking c.in_ok-subcommand-5.ensures four c.in_ok-checking.ensures.app c.in_ok-checking.ensures.own in
    record { app = IfOk-weaker c.subcommand-6.result _ _ (λ r h. adds _ _ r _ examining h five c.in_ok-examining.ensures.app c.in_ok-examining.ensures.own) c.subcommand-6.ensures }
