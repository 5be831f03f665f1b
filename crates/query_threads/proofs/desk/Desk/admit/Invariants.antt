use Rattle.query_threads.specs.Steps.{DoesAdmit}
use Rattle.query_threads.proofs.desk.Desk.admit.Given as goal

-- the history after the call
abbrev pub ghosts-follow : goal.ghosts-follow
ghosts-follow g a = record { fits = λ q. DoesAdmit a._about.now.0 a._about.now.1.now a._about.now.2.now a.writer.now.past.history q.history }
