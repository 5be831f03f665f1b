-- What is gathered of a question in progress.
use Rattle.std.specs.Prelude.{List, Option}
use Rattle.route_meaning.specs.declared.question.Spot.{Spot}
use Rattle.route_meaning.specs.declared.question.Row.{Row}
use Rattle.route_meaning.specs.declared.question.RowsQuestion.{RowsQuestion}
use Rattle.route_meaning.specs.declared.question.Event.{Event}
use Rattle.route_meaning.specs.declared.question.EventsQuestion.{EventsQuestion}

-- a question of a moment in progress: the spot that it has come to, none at first where it asks from the first row on, and the rows so far
pub record RowsSoFar : Type 0 where
  pub question : RowsQuestion
  pub low : Option Spot
  pub rows : List Row

-- a question of events in progress: the events so far
pub record EventsSoFar : Type 0 where
  pub question : EventsQuestion
  pub events : List Event
