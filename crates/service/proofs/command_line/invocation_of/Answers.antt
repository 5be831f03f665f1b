use Rattle.std.proofs.Common.{◌≡◌, Err, codes, refl, rules}
use Rattle.service.specs.declared.command_line.BadAddress.TheVariants.{Listen, Http}
use Rattle.service.proofs.CommandLines.{named_rows}
use Rattle.service.proofs.command_line.invocation_of.Goals as goal

pub returns-in-Err-Listen-clause-bad_listen : goal.returns-in-Err-Listen-clause-bad_listen
returns-in-Err-Listen-clause-bad_listen c = λ bad.
    let serve = c.in-Some-subcommand_matches-3.ensures in
    let is : c.serving_of.result ≡ Err Listen = search rules in
    (_, named_rows c.args.matches.now (codes "serve") _ (serve.found.0 refl) serve.rows, c.serving_of.ensures.listen is)

pub returns-in-Err-Http-clause-bad_http : goal.returns-in-Err-Http-clause-bad_http
returns-in-Err-Http-clause-bad_http c = λ bad.
    let serve = c.in-Some-subcommand_matches-3.ensures in
    let is : c.serving_of.result ≡ Err Http = search rules in
    (_, named_rows c.args.matches.now (codes "serve") _ (serve.found.0 refl) serve.rows, c.serving_of.ensures.http is)
