use Rattle.std.proofs.Common.{sym, subst}
use Rattle.query_threads.specs.Troubles.{IsOutside}
use Rattle.thread_tests.proofs.Following.{reply_over}
use Rattle.thread_tests.proofs.playing.ask.Goals as goal

pub returns-in-Err-clause-reply : goal.returns-in-Err-clause-reply
returns-in-Err-clause-reply g c = λ named. subst IsOutside (sym c.in-Err.ensures.memory) tt

pub returns-clause-reply : goal.returns-clause-reply
returns-clause-reply g c = λ named. reply_over c.ask.new.pass.past.history c.args.query c.ask.result (c.ask.ensures.answer named) (c.ask.ensures.settled named) (c.ask.ensures.reported named)
