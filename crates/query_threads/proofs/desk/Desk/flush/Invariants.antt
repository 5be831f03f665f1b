use Rattle.query_threads.specs.Steps.{DoesFlush}
use Rattle.query_threads.proofs.desk.Desk.flush.Given as goal

-- the history after the call
abbrev pub ghosts-follow : goal.ghosts-follow
ghosts-follow g a = record { fits = λ q. DoesFlush a._about.now a.writer.now.past.history q.history }
