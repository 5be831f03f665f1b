-- What is gathered of the spots that changed. Contracts of private functions alone cite this file.
use Rattle.std.specs.Prelude.{ℕ, List, ◌≡◌, ◌≤◌, Option, Some, None, Contains}
use Rattle.std.specs.BTreeMap.{BTreeMap, get}
use Rattle.std.specs.List.{AllByRecursion, filter_map}
use Rattle.std.specs.Ordering.{nat_cmp}
use Rattle.route_model.specs.declared.change.Change.{Change}
use Rattle.route_model.specs.declared.change.Change.TheVariants.{Announce, Withdraw, Down}
use Rattle.route_model.specs.Admission.{Admitted}
use Rattle.route_model.specs.Encoding.{IsPeer}
use Rattle.route_model.specs.PeerKeys.{tail}
use Rattle.route_model.specs.Prefix.{IsPrefix}
use Rattle.route_meaning.specs.declared.question.ChangedQuestion.{ChangedQuestion}
use Rattle.route_meaning.specs.declared.question.Spot.{Spot}
use Rattle.route_meaning.specs.Changed.{AreSpotsRising, IsChanged}
use Rattle.route_meaning.specs.Merged.{Placed}
use Rattle.route_meaning.specs.Rows.{IsAbove, spot_number}

-- the spot that the change announces or withdraws; the end of a session is of none
abbrev pub spot_of : Change → Option Spot
spot_of (Announce p x route) = Some (record { peer = p; prefix = x })
spot_of (Withdraw p x) = Some (record { peer = p; prefix = x })
spot_of (Down p) = None

-- the spots of the changes, in their order, each as often as it changed
abbrev pub spots_of : List Change → List Spot
spots_of changes = filter_map spot_of changes

-- the prefix is one from the first to the last that are asked for, and the spot lies above the one that the question names
pub record IsAskedFor (q : ChangedQuestion) (spot : Spot) : Type 0 where
  pub low : tail q.low ≤ tail spot.prefix
  pub high : tail spot.prefix ≤ tail q.high
  pub above : IsAbove q.after (spot_number spot)

-- a spot of values, which is asked for and which one of the changes is of; it stands at its number
pub record IsEntry (q : ChangedQuestion) (changes : List Change) (n : ℕ) (spot : Spot) : Type 0 where
  pub number : spot_number spot ≡ n
  pub peer : IsPeer spot.peer
  pub prefix : IsPrefix spot.prefix
  pub asked : IsAskedFor q spot
  pub changed : Contains (spots_of changes) spot

-- the table has each spot that is asked for and which one of the changes is of, and no other
pub record HasGathered (q : ChangedQuestion) (changes : List Change) (table : BTreeMap ℕ Spot) : Type 0 where
  pub only : (n : ℕ) (spot : Spot) → get nat_cmp table n ≡ Some spot → IsEntry q changes n spot
  pub each : (spot : Spot) → Contains (spots_of changes) spot → IsAskedFor q spot → get nat_cmp table (spot_number spot) ≡ Some spot

-- all spots that changed and no others, in their order
pub record AreAllChanged (ps : List (Placed Admitted)) (q : ChangedQuestion) (spots : List Spot) : Type 0 where
  pub rising : AreSpotsRising spots
  pub only : AllByRecursion (IsChanged ps q) spots
  pub each : (spot : Spot) → IsChanged ps q spot → Contains spots spot
