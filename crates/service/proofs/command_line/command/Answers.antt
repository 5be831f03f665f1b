use Rattle.std.proofs.Common.{◌≡◌, Result, Err}
use Rattle.std.proofs.lemmas.Result.{IfOk-weaker}
use Rattle.service.specs.declared.invocation.CommandError.{CommandError}
use Rattle.service.specs.declared.invocation.Invocation.{Invocation}
use Rattle.service.proofs.CommandLines.{IsMet, asked_by, command_met, no_http_by, no_listen_by, no_mark_by, no_server_by, shown_kind}
use Rattle.service.proofs.command_line.command.Goals as goal

-- src/command_line.rt:195:24
pub invocation_of-requires : goal.invocation_of-requires
invocation_of-requires g c =
    record { named = command_met _ _ _ (record { is = c.in-Ok.ensures.app; accepted = c.in-Ok-try_get_matches_from.ensures.kinds; matches = c.in-Ok-try_get_matches_from.ensures.matches }) }

-- src/command_line.rt:186:1
pub returns-in-Ok-try_get_matches_from-clause-found :
    goal.returns-in-Ok-try_get_matches_from-clause-found
returns-in-Ok-try_get_matches_from-clause-found g c =
    let met : IsMet _ _ _ = record { is = c.in-Ok.ensures.app; accepted = c.in-Ok-try_get_matches_from.ensures.kinds; matches = c.in-Ok-try_get_matches_from.ensures.matches } in
    IfOk-weaker c.invocation_of.result _ _ (λ i a. asked_by _ _ _ i met a) c.invocation_of.ensures.found

-- src/command_line.rt:186:1
pub returns-in-Ok-try_get_matches_from-clause-bad_mark :
    goal.returns-in-Ok-try_get_matches_from-clause-bad_mark
returns-in-Ok-try_get_matches_from-clause-bad_mark g c = λ bad. no_mark_by _ _ _ (record { is = c.in-Ok.ensures.app; accepted = c.in-Ok-try_get_matches_from.ensures.kinds; matches = c.in-Ok-try_get_matches_from.ensures.matches }) (c.invocation_of.ensures.bad_mark bad)

pub returns-in-Ok-try_get_matches_from-clause-bad_listen :
    goal.returns-in-Ok-try_get_matches_from-clause-bad_listen
returns-in-Ok-try_get_matches_from-clause-bad_listen g c = λ bad. no_listen_by _ _ _ (record { is = c.in-Ok.ensures.app; accepted = c.in-Ok-try_get_matches_from.ensures.kinds; matches = c.in-Ok-try_get_matches_from.ensures.matches }) (c.invocation_of.ensures.bad_listen bad)

pub returns-in-Ok-try_get_matches_from-clause-bad_http :
    goal.returns-in-Ok-try_get_matches_from-clause-bad_http
returns-in-Ok-try_get_matches_from-clause-bad_http g c = λ bad. no_http_by _ _ _ (record { is = c.in-Ok.ensures.app; accepted = c.in-Ok-try_get_matches_from.ensures.kinds; matches = c.in-Ok-try_get_matches_from.ensures.matches }) (c.invocation_of.ensures.bad_http bad)

pub returns-in-Ok-try_get_matches_from-clause-bad_connect :
    goal.returns-in-Ok-try_get_matches_from-clause-bad_connect
returns-in-Ok-try_get_matches_from-clause-bad_connect g c = λ bad. no_server_by _ _ _ (record { is = c.in-Ok.ensures.app; accepted = c.in-Ok-try_get_matches_from.ensures.kinds; matches = c.in-Ok-try_get_matches_from.ensures.matches }) (c.invocation_of.ensures.bad_connect bad)

err_is : (a b : CommandError) → ◌≡◌ {A = Result Invocation CommandError} (Err a) (Err b) → a ≡ b
err_is a b e = cc

pub returns-in-Err-clause-usage : goal.returns-in-Err-clause-usage
returns-in-Err-clause-usage g c = λ e shown. shown_kind _ _ c.in-Err.error e _ c.in-Ok.ensures.app c.in-Err.ensures.kinds c.usage.ensures.memory c.usage.ensures.reported (err_is _ _ shown)
