-- What one turn of a question over current pages gives.
use Rattle.std.specs.Prelude.{⊤, ℕ, ◌<◌, ◌≤◌, List, Option}
use Rattle.page_tx.specs.declared.pages.Pages.{Ghosts}
use Rattle.page_tx.specs.Start.{Start}
use Rattle.route_model.specs.Admission.{Admitted}
use Rattle.route_meaning.specs.Merged.{Placed}
use Rattle.route_meaning.specs.Rows.{IsAnswer}
use Rattle.route_meaning.specs.Events.{IsEventsAnswer}
use Rattle.route_history.specs.declared.rows.RowsCursor.{RowsCursor}
use Rattle.route_history.specs.declared.rows_turn.RowsTurn.{RowsTurn}
use Rattle.route_history.specs.declared.rows_turn.RowsTurn.TheVariants as rows
use Rattle.route_history.specs.declared.events.EventsCursor.{EventsCursor}
use Rattle.route_history.specs.declared.events_turn.EventsTurn.{EventsTurn}
use Rattle.route_history.specs.declared.events_turn.EventsTurn.TheVariants as events
use Rattle.route_history.specs.EventTurns.{IsEventsErrandOf, BothRepresent}
use Rattle.route_history.specs.Fronts.{front_number}
use Rattle.route_history.specs.RowTurns.{IsErrandOf}
use Rattle.route_history.specs.Walks.{Rose, NotBack}
use Rattle.tsb_walk.specs.declared.page_place.PagePlace.{PagePlace}
use Rattle.tsb_walk.specs.Shown.{RepresentsShown}
use Rattle.version_model.specs.Blocks.{BlockNode, PlaceRepresents}
use Rattle.version_model.specs.Pages.{Store}
use Rattle.version_model.specs.Versions.{Version, IsRising}
use Rattle.tsb_walk.specs.Looked.{PartsBelow}

-- The pages of a transaction show a tree whose root is at this place. By what they and blocks of this store say it stands for these
-- versions, whose stamps rise. It names no block from the first on that was never burnt.
pub record RepresentsTree {P : Type 0} (pages : Ghosts P) (held : P) (root : PagePlace) (burnt : ℕ) (store : Store) (all : List Version) : Type 0 where
  pub start : Start
  pub shown : List (List ℕ)
  pub shows : pages.shows held start shown
  pub represents_all : RepresentsShown shown store all root
  pub named : store.next ≤ burnt
  pub rising : IsRising all

-- A turn of a question of a moment, from one cursor to the next: the whole answer; or the walk has come further; or an errand of the next
-- cursor into a place that represents these versions by these blocks, and the walk hasn't gone back.
abbrev pub TurnsRows : (ℕ → Option BlockNode) → List Version → List (Placed Admitted) → RowsCursor → RowsCursor → RowsTurn → Type 0
TurnsRows blocks all ps c d (rows.Done answer) = IsAnswer ps c.question answer.rows.items answer.more
TurnsRows blocks all ps c d rows.Again = Rose (front_number c.front) (front_number d.front)
TurnsRows blocks all ps c d (rows.Historical errand) = IsErrandOf d errand × PlaceRepresents blocks all errand.place × NotBack (front_number c.front) (front_number d.front)

-- the same of a question of a history
abbrev pub TurnsEvents : (ℕ → Option BlockNode) → List Version → List (Placed Admitted) → EventsCursor → EventsCursor → EventsTurn → Type 0
TurnsEvents blocks all ps c d (events.Done answer) = IsEventsAnswer ps c.question answer.events.items answer.more
TurnsEvents blocks all ps c d events.Again = Rose c.at d.at
TurnsEvents blocks all ps c d (events.Historical errand) = IsEventsErrandOf d errand × BothRepresent blocks all d errand × NotBack c.at d.at

-- whatever the pages are: the walk has come further if it goes on, and an errand is one of the cursor, which hasn't gone back
abbrev pub GoesOnRows : RowsCursor → RowsCursor → RowsTurn → Type 0
GoesOnRows c d (rows.Done answer) = ⊤
GoesOnRows c d rows.Again = Rose (front_number c.front) (front_number d.front)
GoesOnRows c d (rows.Historical errand) = IsErrandOf d errand × NotBack (front_number c.front) (front_number d.front)

-- the same of a question of a history
abbrev pub GoesOnEvents : EventsCursor → EventsCursor → EventsTurn → Type 0
GoesOnEvents c d (events.Done answer) = ⊤
GoesOnEvents c d events.Again = Rose c.at d.at
GoesOnEvents c d (events.Historical errand) = IsEventsErrandOf d errand × NotBack c.at d.at

-- an errand reads a block below this number
abbrev pub RowsBelow : ℕ → RowsTurn → Type 0
RowsBelow burnt (rows.Done answer) = ⊤
RowsBelow burnt rows.Again = ⊤
RowsBelow burnt (rows.Historical errand) = errand.place.part.block < burnt

-- the same of a question of a history
abbrev pub EventsBelow : ℕ → EventsTurn → Type 0
EventsBelow burnt (events.Done answer) = ⊤
EventsBelow burnt events.Again = ⊤
EventsBelow burnt (events.Historical errand) = PartsBelow burnt errand.route × PartsBelow burnt errand.session
