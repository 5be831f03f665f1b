use Rattle.query_threads.specs.Steps.{DoesApply}
use Rattle.query_threads.proofs.desk.Desk.apply.Given as goal

-- the history after the call
abbrev pub ghosts-follow : goal.ghosts-follow
ghosts-follow g a = record { fits = λ q. DoesApply a._about.now a.writer.now.past.history q.history }
