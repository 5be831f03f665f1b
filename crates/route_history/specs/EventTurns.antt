-- What a turn of a question of a history gives.
use Rattle.std.specs.Prelude.{◌≡◌, ℕ, List, Option, Some, None}
use Rattle.route_model.specs.Admission.{Admitted}
use Rattle.route_model.specs.Keys.{key_number, session_number}
use Rattle.route_meaning.specs.Merged.{Placed}
use Rattle.route_meaning.specs.Events.{IsEventsAnswer}
use Rattle.version_model.specs.Versions.{Version}
use Rattle.version_model.specs.Blocks.{BlockNode}
use Rattle.tsb_walk.specs.declared.looks.Parted.{Parted}
use Rattle.tsb_walk.specs.declared.looks.Parted.TheVariants.{Here, InBlock}
use Rattle.version_model.specs.Looks.{IsPart}
use Rattle.version_model.specs.Entries.{versions_of}
use Rattle.disk_models.specs.declared.once.OnceDisk.{Ghosts}
use Rattle.once_store.specs.declared.reader.ShelfReader.{ShelfReader}
use Rattle.tsb_walk.specs.Looked.{IsParted}
use Rattle.tsb_walk.specs.Knowing.{ReadsWell, RepresentsKnown}
use Rattle.route_history.specs.declared.events.EventsCursor.{EventsCursor}
use Rattle.route_history.specs.declared.events_turn.EventsErrand.{EventsErrand}
use Rattle.route_history.specs.declared.events_turn.EventsTurn.{EventsTurn}
use Rattle.route_history.specs.declared.events_turn.EventsTurn.TheVariants.{Done, Again, Historical}
use Rattle.route_history.specs.Walks.{Rose}
use Rattle.route_history.specs.Points.{PartsAt}
use Rattle.route_history.specs.Spans.{HasReportedSo}

-- both looks of the errand stand
abbrev pub BothRepresent : (ℕ → Option BlockNode) → List Version → EventsCursor → EventsErrand → Type 0
BothRepresent blocks all c errand = IsParted blocks all (key_number c.question.peer c.question.prefix) errand.from errand.route × IsParted blocks all (session_number c.question.peer) errand.from errand.session

-- what a look returned is true of these versions, or its place stands by the blocks that a reader knows; and the reader reads well
abbrev pub IsKnownPart : {O Pen Seen : Type 0} → (device : Ghosts O Pen Seen) → ShelfReader O Pen Seen device → Seen → List Version → ℕ → ℕ → Parted → Type 0
IsKnownPart device reader seen all key from (Here part) = IsPart all key from (versions_of part.entries.items) part.reported × ReadsWell device reader seen
IsKnownPart device reader seen all key from (InBlock place) = RepresentsKnown device reader seen all place

-- the same of both looks of the errand
abbrev pub AreKnownParts : {O Pen Seen : Type 0} → (device : Ghosts O Pen Seen) → ShelfReader O Pen Seen device → Seen → List Version → EventsCursor → EventsErrand → Type 0
AreKnownParts device reader seen all c errand = IsKnownPart device reader seen all (key_number c.question.peer c.question.prefix) errand.from errand.route × IsKnownPart device reader seen all (session_number c.question.peer) errand.from errand.session

-- the cursor is as the turn that returned the errand left it
pub record IsEventsErrandOf (c : EventsCursor) (errand : EventsErrand) : Type 0 where
  pub here : c.at ≡ Some errand.from
  pub route : PartsAt (key_number c.question.peer c.question.prefix) errand.from errand.route
  pub session : PartsAt (session_number c.question.peer) errand.from errand.session

-- an errand of the turn fits the cursor
abbrev pub HasFit : EventsCursor → EventsTurn → Type 0
HasFit c (Done answer) = Unit {0}
HasFit c Again = Unit {0}
HasFit c (Historical errand) = IsEventsErrandOf c errand

-- the whole answer; or more is gathered and the stamp rose; or an errand, and the cursor is the same
abbrev pub IsEventsTurn : (ℕ → Option BlockNode) → List Version → List (Placed Admitted) → EventsCursor → EventsCursor → EventsTurn → Type 0
IsEventsTurn blocks all ps c d (Done answer) = IsEventsAnswer ps c.question answer.events.items answer.more
IsEventsTurn blocks all ps c d Again = HasReportedSo all ps d × (d.question ≡ c.question) × Rose c.at d.at
IsEventsTurn blocks all ps c d (Historical errand) = (d ≡ c) × IsEventsErrandOf d errand × BothRepresent blocks all d errand

-- an answer is the cursor's, whose walk is over; if the walk goes on, the cursor is the same
abbrev pub IsReportedSo : EventsCursor → EventsCursor → EventsTurn → Type 0
IsReportedSo c d (Done answer) = (c.at ≡ None) × (answer.events.items ≡ c.reported.items) × (answer.more ≡ c.more)
IsReportedSo c d Again = d ≡ c
IsReportedSo c d (Historical errand) = ⊥
