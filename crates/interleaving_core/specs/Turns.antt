-- A turn of a question, over the admissions that are applied at that turn.
use Rattle.std.specs.Prelude.{ℕ, List, [], ◌++◌, ◌≡◌, ◌<◌, ◌⊎◌, Bool, true, Option, Some, None, filter, take, drop, length, cond, nat_le, nat_lt}
use Rattle.route_model.specs.Admission.{Admitted}
use Rattle.route_meaning.specs.declared.question.Spot.{Spot}
use Rattle.route_meaning.specs.declared.question.Row.{Row}
use Rattle.route_meaning.specs.declared.question.Event.{Event}
use Rattle.route_meaning.specs.Merged.{Placed}
use Rattle.route_meaning.specs.Rows.{AreRows, row_number, spot_number, most_rows}
use Rattle.route_meaning.specs.Events.{events}
use Rattle.interleaving_core.specs.declared.query.Query.TheVariants.{Rows, Events}
use Rattle.interleaving_core.specs.declared.query.Answer.TheVariants.{Rows as RowsReported, Events as EventsReported}
use Rattle.interleaving_core.specs.declared.step.Reach.{Reach}
use Rattle.interleaving_core.specs.declared.step.Reach.TheVariants.{UpTo, Further, End}
use Rattle.interleaving_core.specs.declared.reply.Reply.{Reply}
use Rattle.interleaving_core.specs.declared.reply.Reply.TheVariants.{Again, Done}
use Rattle.interleaving_core.specs.declared.question.Question.{Question}
use Rattle.interleaving_core.specs.declared.question.Question.TheVariants.{OfRows, OfEvents, Ended}
use Rattle.interleaving_core.specs.SoFar.{RowsSoFar, EventsSoFar}

-- does the spot lie beyond the one that was come to?
abbrev pub is_further : Option Spot → Spot → Bool
is_further None spot = true
is_further (Some low) spot = nat_lt (spot_number low) (spot_number spot)

-- the rows up to the spot, itself included
abbrev pub rows_up_to : Spot → List Row → List Row
rows_up_to spot rows = filter (λ row. nat_le (row_number row) (spot_number spot)) rows

-- of the rows that are left, those that a turn adds: a range that ends no further than the question has come has none
abbrev pub added_rows : Option Spot → Reach → List Row → List Row
added_rows low (UpTo spot) left = cond (is_further low spot) (rows_up_to spot left) []
added_rows low (Further n) left = []
added_rows low End left = left

-- where the question has come then
abbrev pub come_to : Option Spot → Reach → Option Spot
come_to low (UpTo spot) = cond (is_further low spot) (Some spot) low
come_to low (Further n) = low
come_to low End = low

-- of the events that are left, those that a turn adds
abbrev pub added_events : Reach → List Event → List Event
added_events (UpTo spot) left = []
added_events (Further n) left = take n left
added_events End left = left

-- a question is done where it has more than an answer may have, or nothing is left
abbrev pub IsDone : Reach → ℕ → Type 0
IsDone reach count = (most_rows < count) ⊎ (reach ≡ End)

-- a turn of a question of a moment that now has all these rows: it is done, with the first of them, or goes on from where it has come
abbrev pub RowsTurn : RowsSoFar → Reach → List Row → Reply → Question → Type 0
RowsTurn g reach all (Done (RowsReported a)) new = IsDone reach (length all) × (a.rows.items ≡ take most_rows all) × (a.more ≡ nat_lt most_rows (length all)) × (new ≡ Ended (Rows g.question))
RowsTurn g reach all Again new = (IsDone reach (length all) → ⊥) × (new ≡ OfRows (record { question = g.question; low = come_to g.low reach; rows = all }))
RowsTurn g reach all _ new = ⊥

-- a turn of a question of events that now has all these
abbrev pub EventsTurn : EventsSoFar → Reach → List Event → Reply → Question → Type 0
EventsTurn g reach all (Done (EventsReported a)) new = IsDone reach (length all) × (a.events.items ≡ take most_rows all) × (a.more ≡ nat_lt most_rows (length all)) × (new ≡ Ended (Events g.question))
EventsTurn g reach all Again new = (IsDone reach (length all) → ⊥) × (new ≡ OfEvents (record { question = g.question; events = all }))
EventsTurn g reach all _ new = ⊥

-- the rows that the question selects beyond the spot that it has come to are these, over what is applied
abbrev pub AreLeft : List (Placed Admitted) → RowsSoFar → List Row → Type 0
AreLeft applied g left = AreRows applied g.question.moment g.question.select g.low None left

-- over what is applied the question takes a turn, gets this reply, and becomes that; a question that has ended takes no turn
abbrev pub TakesTurn : List (Placed Admitted) → Reach → Question → Reply → Question → Type 0
TakesTurn applied reach (OfRows g) reply new = (left : List Row) × AreLeft applied g left × RowsTurn g reach (g.rows ++ added_rows g.low reach left) reply new
TakesTurn applied reach (OfEvents g) reply new = EventsTurn g reach (g.events ++ added_events reach (drop (length g.events) (events applied g.question))) reply new
TakesTurn applied reach (Ended query) reply new = ⊥
