-- Which prefixes peers announced or withdrew in a span, over admissions in one order.
use Rattle.std.specs.Prelude.{ℕ, List, [], ◌∷◌, ◌≡◌, ◌<◌, ◌≤◌, ◌⊎◌, ⊤, Bool, true, length, Contains}
use Rattle.std.specs.List.{AllByRecursion}
use Rattle.route_model.specs.declared.change.Change.{Change}
use Rattle.route_model.specs.declared.change.Change.TheVariants.{Announce, Withdraw, Down}
use Rattle.route_model.specs.PeerKeys.{tail}
use Rattle.route_model.specs.Admission.{Admitted}
use Rattle.route_meaning.specs.declared.question.ChangedQuestion.{ChangedQuestion}
use Rattle.route_meaning.specs.declared.question.Event.{Event}
use Rattle.route_meaning.specs.declared.question.Spot.{Spot}
use Rattle.route_meaning.specs.Merged.{Placed}
use Rattle.route_meaning.specs.Events.{all_events, between}
use Rattle.route_meaning.specs.Rows.{IsAbove, spot_number, most_rows}

-- the change announces or withdraws a prefix; the end of a session is of none
abbrev pub IsOfPrefix : Change → Type 0
IsOfPrefix (Announce p x route) = ⊤
IsOfPrefix (Withdraw p x) = ⊤
IsOfPrefix (Down p) = ⊥

-- in the span the peer announced or withdrew the prefix, which is one from the first to the last that are asked for; and the spot lies above the one that the question names
pub record IsChanged (ps : List (Placed Admitted)) (q : ChangedQuestion) (spot : Spot) : Type 0 where
  pub event : Event
  pub reported : Contains (all_events spot.peer spot.prefix (between q.from q.to ps)) event
  pub of_prefix : IsOfPrefix event.change
  pub low : tail q.low ≤ tail spot.prefix
  pub high : tail spot.prefix ≤ tail q.high
  pub above : IsAbove q.after (spot_number spot)

-- each spot is below all that follow it, in the order of rows
abbrev pub AreSpotsRising : List Spot → Type 0
AreSpotsRising [] = Unit {0}
AreSpotsRising (spot ∷ spots) = AllByRecursion (λ next. spot_number spot < spot_number next) spots × AreSpotsRising spots

-- the spot is above all of these
abbrev pub IsAboveAll : List Spot → Spot → Type 0
IsAboveAll spots spot = AllByRecursion (λ other. spot_number other < spot_number spot) spots

-- some spot above all of these changed too
pub record HasMore (ps : List (Placed Admitted)) (q : ChangedQuestion) (spots : List Spot) : Type 0 where
  pub next : Spot
  pub changed : IsChanged ps q next
  pub above : IsAboveAll spots next

-- the answer: the lowest spots that changed, in their order, as many as an answer has if there are more, and whether there are
pub record IsChangedAnswer (ps : List (Placed Admitted)) (q : ChangedQuestion) (spots : List Spot) (more : Bool) : Type 0 where
  pub rising : AreSpotsRising spots
  pub only : AllByRecursion (IsChanged ps q) spots
  pub each : (spot : Spot) → IsChanged ps q spot → Contains spots spot ⊎ ((more ≡ true) × IsAboveAll spots spot)
  pub few : length spots ≤ most_rows
  pub full : more ≡ true → (length spots ≡ most_rows) × HasMore ps q spots
