-- What the versions of applied changes say about the spots that changed in a span; and what a walk has gathered of these.
use Rattle.std.specs.Prelude.{◌≡◌, ℕ, suc, ◌<◌, ◌≤◌, Bool, true, false, List, Option, Some, None, length, Contains}
use Rattle.std.specs.List.{AllByRecursion}
use Rattle.route_model.specs.declared.peer.Peer.{Peer}
use Rattle.route_model.specs.Admission.{Admitted}
use Rattle.route_model.specs.Prefix.{IpPrefix, IsPrefix}
use Rattle.route_model.specs.Encoding.{IsPeer}
use Rattle.route_model.specs.Keys.{key_number}
use Rattle.route_model.specs.PeerKeys.{tail}
use Rattle.route_meaning.specs.declared.question.ChangedQuestion.{ChangedQuestion}
use Rattle.route_meaning.specs.declared.question.Spot.{Spot}
use Rattle.route_meaning.specs.Changed.{IsChanged, IsChangedAnswer, AreSpotsRising}
use Rattle.route_meaning.specs.Merged.{Placed}
use Rattle.route_meaning.specs.Rows.{IsAbove, spot_number, most_rows}
use Rattle.version_model.specs.Versions.{Version}
use Rattle.tsb_walk.specs.Touched.{AreTouched, HasWithin}
use Rattle.route_history.specs.Stamps.{stamp_of}
use Rattle.route_history.specs.declared.changed.ChangedCursor.{ChangedCursor}

-- the first stamp of the question's span
abbrev pub changed_from : ChangedQuestion → ℕ
changed_from q = stamp_of q.from 0

-- the stamp after the last of the span
abbrev pub changed_end : ChangedQuestion → ℕ
changed_end q = stamp_of (suc q.to) 0

-- the prefix is one from the first to the last that are asked for
abbrev pub IsAskedFor : ChangedQuestion → IpPrefix → Type 0
IsAskedFor q x = (tail q.low ≤ tail x) × (tail x ≤ tail q.high)

-- What follows if the versions are those of the applied changes: the spots that changed in the span are those whose keys have a version in it.
pub record ReportsChanged (all : List Version) (ps : List (Placed Admitted)) (q : ChangedQuestion) : Type 0 where
  pub fits : (spot : Spot) → IsChanged ps q spot → IsPeer spot.peer × IsPrefix spot.prefix
  pub each : (spot : Spot) → IsChanged ps q spot → HasWithin all (spot_number spot) (changed_from q) (changed_end q)
  pub only : (spot : Spot) → IsPeer spot.peer → IsPrefix spot.prefix → IsAskedFor q spot.prefix → IsAbove q.after (spot_number spot) → HasWithin all (spot_number spot) (changed_from q) (changed_end q) → IsChanged ps q spot

-- a spot that changed, below the key
pub record IsChangedBelow (ps : List (Placed Admitted)) (q : ChangedQuestion) (at : ℕ) (spot : Spot) : Type 0 where
  pub changed : IsChanged ps q spot
  pub below : spot_number spot < at

-- under way: the spots are all that changed below the key that the walk has come to, at most as many as an answer has
pub record IsChangedSoFar (ps : List (Placed Admitted)) (q : ChangedQuestion) (at : ℕ) (spots : List Spot) (more : Bool) : Type 0 where
  pub rising : AreSpotsRising spots
  pub only : AllByRecursion (IsChangedBelow ps q at) spots
  pub each : (spot : Spot) → IsChangedBelow ps q at spot → Contains spots spot
  pub few : length spots ≤ most_rows
  pub alone : more ≡ false

-- under way at a key, or over: then it is the whole answer
abbrev pub HasChanged : List (Placed Admitted) → ChangedQuestion → Option ℕ → List Spot → Bool → Type 0
HasChanged ps q None spots more = IsChangedAnswer ps q spots more
HasChanged ps q (Some at) spots more = IsChangedSoFar ps q at spots more

-- what the cursor has gathered is exactly what there is in the range that it has walked, or the whole answer
abbrev pub HasChangedSo : List (Placed Admitted) → ChangedCursor → Type 0
HasChangedSo ps c = HasChanged ps c.question c.front c.spots.items c.more

-- no key from `at` on and below `to` is of a prefix that is asked for
abbrev pub SkipsNone : ChangedQuestion → ℕ → ℕ → Type 0
SkipsNone q at to = (p : Peer) (x : IpPrefix) → IsPeer p → IsPrefix x → IsAskedFor q x → at ≤ key_number p x → key_number p x < to → ⊥

-- a leap over keys of prefixes that aren't asked for; or there are no others from here on
abbrev pub LeapsOver : ChangedQuestion → ℕ → Option ℕ → Type 0
LeapsOver q at None = (p : Peer) (x : IpPrefix) → IsPeer p → IsPrefix x → IsAskedFor q x → at ≤ key_number p x → ⊥
LeapsOver q at (Some to) = (at ≤ to) × SkipsNone q at to

-- all keys below are not above the spot after which is asked; if there is no key, none is above it
abbrev pub BeginsAfter : Option Spot → Option ℕ → Type 0
BeginsAfter after None = (p : Peer) (x : IpPrefix) → IsPeer p → IsPrefix x → IsAbove after (key_number p x) → ⊥
BeginsAfter after (Some at) = (n : ℕ) → n < at → IsAbove after n → ⊥

-- the spot of a key, if it is asked for
abbrev pub IsSpotAt : ChangedQuestion → ℕ → Option Spot → Type 0
IsSpotAt q key None = (p : Peer) (x : IpPrefix) → IsPeer p → IsPrefix x → key_number p x ≡ key → IsAskedFor q x → IsAbove q.after key → ⊥
IsSpotAt q key (Some spot) = (IsPeer spot.peer × IsPrefix spot.prefix) × (spot_number spot ≡ key) × IsAskedFor q spot.prefix × IsAbove q.after key
    × ((p : Peer) (x : IpPrefix) → IsPeer p → IsPrefix x → key_number p x ≡ key → (p ≡ spot.peer) × (x ≡ spot.prefix))

-- the walk goes on after the key, or is over with the whole answer
abbrev pub TakesKey : List (Placed Admitted) → ChangedQuestion → ℕ → ChangedCursor → Bool → Type 0
TakesKey ps q key d true = IsChangedSoFar ps q (suc key) d.spots.items d.more
TakesKey ps q key d false = (d.front ≡ None) × IsChangedAnswer ps q d.spots.items d.more

-- the keys that are left have a version in the span, from where the walk has come and below the high key
pub record IsTaking (all : List Version) (ps : List (Placed Admitted)) (q : ChangedQuestion) (high : ℕ) (rest : List ℕ) (spots : List Spot) (more : Bool) : Type 0 where
  pub at : ℕ
  pub within : at ≤ high
  pub touched : AreTouched all (changed_from q) (changed_end q) at high rest
  pub so : IsChangedSoFar ps q at spots more
