-- What a turn of a question of a moment gives.
use Rattle.std.specs.Prelude.{◌≡◌, ℕ, List, Option, Some, None}
use Rattle.route_model.specs.Admission.{Admitted}
use Rattle.route_meaning.specs.Merged.{Placed}
use Rattle.route_meaning.specs.Rows.{IsAnswer}
use Rattle.version_model.specs.Versions.{Version}
use Rattle.version_model.specs.Ranges.{IsPoint, range_of}
use Rattle.version_model.specs.Blocks.{BlockNode, PlaceRepresents}
use Rattle.route_history.specs.declared.rows.RowsCursor.{RowsCursor}
use Rattle.route_history.specs.declared.rows_turn.RowsTurn.{RowsTurn}
use Rattle.route_history.specs.declared.rows_turn.RowsTurn.TheVariants.{Done, Again, Historical}
use Rattle.route_history.specs.declared.rows_turn.RowsErrand.{RowsErrand}
use Rattle.route_history.specs.Stamps.{last_stamp}
use Rattle.route_history.specs.Fronts.{front_number}
use Rattle.route_history.specs.Walks.{Gathered, Rose, NotBack}

-- the cursor is as the turn that returned the errand left it: the place is for the key where it stands, as of its moment
pub record IsErrandOf (c : RowsCursor) (errand : RowsErrand) : Type 0 where
  pub here : front_number c.front ≡ Some errand.from
  pub point : IsPoint (range_of errand.place.bounds) errand.from (last_stamp c.question.moment)

-- an errand of the turn fits the cursor
abbrev pub HasFit : RowsCursor → RowsTurn → Type 0
HasFit c (Done answer) = Unit {0}
HasFit c Again = Unit {0}
HasFit c (Historical errand) = IsErrandOf c errand

-- the whole answer; or more is gathered and the walk has come further; or an errand into the past, and what was gathered is as it was
abbrev pub IsTurn : (ℕ → Option BlockNode) → List Version → List (Placed Admitted) → RowsCursor → RowsCursor → RowsTurn → Type 0
IsTurn blocks all ps c d (Done answer) = IsAnswer ps c.question answer.rows.items answer.more
IsTurn blocks all ps c d Again = Gathered all ps d × (d.question ≡ c.question) × Rose (front_number c.front) (front_number d.front)
IsTurn blocks all ps c d (Historical errand) = Gathered all ps d × (d.question ≡ c.question) × IsErrandOf d errand × PlaceRepresents blocks all errand.place × NotBack (front_number c.front) (front_number d.front)

-- an answer is the cursor's, whose walk is over; if the walk goes on, the cursor is the same
abbrev pub IsReported : RowsCursor → RowsCursor → RowsTurn → Type 0
IsReported c d (Done answer) = (c.front ≡ None) × (answer.rows.items ≡ c.rows.items) × (answer.more ≡ c.more)
IsReported c d Again = (d ≡ c)
IsReported c d (Historical errand) = ⊥
