use Rattle.query_threads.specs.Steps.{DoesReopen}
use Rattle.query_threads.proofs.desk.Desk.reopen.Given as goal

-- the history after the call
abbrev pub ghosts-follow : goal.ghosts-follow
ghosts-follow g a = record { fits = λ q. DoesReopen a._about.now a.writer.now.past.history q.history }
