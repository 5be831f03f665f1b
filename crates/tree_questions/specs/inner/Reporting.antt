-- What a turn returns after a look.
use Rattle.std.specs.Prelude.{◌≡◌, ⊤, ℕ, List}
use Rattle.route_model.specs.Admission.{Admitted}
use Rattle.route_meaning.specs.Merged.{Placed}
use Rattle.route_meaning.specs.Rows.{IsAnswer}
use Rattle.route_meaning.specs.Events.{IsEventsAnswer}
use Rattle.route_history.specs.declared.rows.RowsCursor.{RowsCursor}
use Rattle.route_history.specs.declared.rows_turn.RowsTurn.{RowsTurn}
use Rattle.route_history.specs.declared.rows_turn.RowsTurn.TheVariants as rows
use Rattle.route_history.specs.declared.events.EventsCursor.{EventsCursor}
use Rattle.route_history.specs.declared.events_turn.EventsTurn.{EventsTurn}
use Rattle.route_history.specs.declared.events_turn.EventsTurn.TheVariants as events
use Rattle.tsb_walk.specs.declared.looks.Parted.{Parted}
use Rattle.tsb_walk.specs.declared.looks.Parted.TheVariants as parted
use Rattle.tsb_walk.specs.Looked.{ReportsFrom}

-- the whole answer; or that the walk goes on
abbrev pub ReportedRows : List (Placed Admitted) → RowsCursor → RowsCursor → RowsTurn → Type 0
ReportedRows ps c d (rows.Done answer) = IsAnswer ps c.question answer.rows.items answer.more
ReportedRows ps c d rows.Again = ⊤
ReportedRows ps c d (rows.Historical errand) = ⊥

-- if the walk goes on, the cursor is the same; no errand is left
abbrev pub KeepsRows : RowsCursor → RowsCursor → RowsTurn → Type 0
KeepsRows c d (rows.Done answer) = ⊤
KeepsRows c d rows.Again = d ≡ c
KeepsRows c d (rows.Historical errand) = ⊥

-- the same of events
abbrev pub ReportedEvents : List (Placed Admitted) → EventsCursor → EventsCursor → EventsTurn → Type 0
ReportedEvents ps c d (events.Done answer) = IsEventsAnswer ps c.question answer.events.items answer.more
ReportedEvents ps c d events.Again = ⊤
ReportedEvents ps c d (events.Historical errand) = ⊥

-- the same of events
abbrev pub KeepsEvents : EventsCursor → EventsCursor → EventsTurn → Type 0
KeepsEvents c d (events.Done answer) = ⊤
KeepsEvents c d events.Again = d ≡ c
KeepsEvents c d (events.Historical errand) = ⊥

-- versions are returned, and up to a stamp above this one
abbrev pub ReportsOn : ℕ → Parted → Type 0
ReportsOn from (parted.Here part) = ReportsFrom from part
ReportsOn from (parted.InBlock place) = ⊤
