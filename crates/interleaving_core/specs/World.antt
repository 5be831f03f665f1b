-- The state of the pure machine: a history, the questions that were begun, and whether it is down.
use Rattle.std.specs.Prelude.{ℕ, List, [], Bool, true, false, map, length}
use Rattle.route_meaning.specs.History.{Intake, History}
use Rattle.interleaving_core.specs.declared.reply.Resume.{Resume}
use Rattle.interleaving_core.specs.declared.query.Query.{Query}
use Rattle.interleaving_core.specs.declared.query.Query.TheVariants.{Rows, Events}
use Rattle.interleaving_core.specs.declared.question.Question.{Question}
use Rattle.interleaving_core.specs.declared.question.Question.TheVariants.{OfRows, OfEvents, Ended}
use Rattle.interleaving_core.specs.Steps.{empty}

-- what was asked
abbrev pub asked : Question → Query
asked (OfRows g) = Rows g.question
asked (OfEvents g) = Events g.question
asked (Ended query) = query

-- the question as it is when it begins
abbrev pub started : Query → Question
started (Rows q) = OfRows (record { question = q; low = q.after; rows = [] })
started (Events q) = OfEvents (record { question = q; events = [] })

-- the question, ended
abbrev pub ended : Question → Question
ended q = Ended (asked q)

-- the history, the questions in the order of their numbers, from 0, and whether all is down
pub record World : Type 0 where
  pub history : History
  pub questions : List Question
  pub down : Bool

-- this many collectors gave nothing, and nothing was asked
abbrev pub created : ℕ → World
created collectors = record { history = empty collectors; questions = []; down = false }

-- the same, with another history
abbrev pub with_history : World → History → World
with_history w h = record { history = h; questions = w.questions; down = w.down }

-- the same, with other questions
abbrev pub with_questions : World → List Question → World
with_questions w questions = record { history = w.history; questions = questions; down = w.down }

-- all is down, and all questions are ended
abbrev pub crashed : World → World
crashed w = record { history = w.history; questions = map ended w.questions; down = true }

-- where a collector of this intake goes on
abbrev pub resume_of : Intake → Resume
resume_of i = record { offered = i.offered; admitted = length i.admitted; mark = i.mark }
