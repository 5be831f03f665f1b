-- What the versions of applied changes say about them, as far as questions of a moment need it; and what a cursor has gathered.
use Rattle.std.specs.Prelude.{◌≡◌, ◌↔◌, ℕ, suc, ◌+◌, ◌-◌, ◌^◌, ◌<◌, ◌≤◌, ◌⊎◌, List, ◌++◌, Bool, true, false, Option, Some, None, option_map, nat_lt, length, Contains, cond}
use Rattle.std.specs.List.{AllByRecursion}
use Rattle.route_model.specs.declared.peer.Peer.{Peer}
use Rattle.route_model.specs.declared.route.Route.{Route}
use Rattle.route_model.specs.declared.key.KeyParts.{KeyParts}
use Rattle.route_model.specs.declared.key.KeyParts.TheVariants.{Session, Prefix as OfPrefix}
use Rattle.route_model.specs.Admission.{Admitted}
use Rattle.route_model.specs.Prefix.{IpPrefix, IsPrefix, cleared_address}
use Rattle.route_model.specs.declared.address.Address.{Address}
use Rattle.route_model.specs.Encoding.{IsPeer, EncodesRoute}
use Rattle.route_model.specs.Keys.{key_number, session_number}
use Rattle.route_meaning.specs.declared.question.Spot.{Spot}
use Rattle.route_meaning.specs.declared.question.Row.{Row}
use Rattle.route_meaning.specs.declared.question.RowsQuestion.{RowsQuestion}
use Rattle.route_meaning.specs.Merged.{Placed}
use Rattle.route_meaning.specs.Holds.{Holds}
use Rattle.route_meaning.specs.declared.question.Select.{Select}
use Rattle.route_meaning.specs.Rows.{Selects, IsAbove, AreRising, AreRows, IsAnswer, row_number, most_rows}
use Rattle.version_model.specs.Versions.{Version, Found, Answers}
use Rattle.route_history.specs.Stamps.{last_stamp}
use Rattle.route_model.specs.PeerKeys.{first_key, tail}
use Rattle.route_history.specs.Fronts.{number_at, front_number}
use Rattle.route_history.specs.declared.front.Front.{Front}
use Rattle.route_history.specs.declared.rows.RowsCursor.{RowsCursor}

-- whether a value of this stamp counts, if the session ended last at that stamp, or never
abbrev pub counts : Option ℕ → ℕ → Bool
counts None stamp = true
counts (Some ended) stamp = nat_lt ended stamp

-- the stamp of what is found
abbrev pub stamp_of_found : Option Found → Option ℕ
stamp_of_found found = option_map (λ f. f.stamp) found

-- What follows for one moment if the versions are those of the applied changes: what holds is of peers and prefixes that have keys, has a value at its key, and is what two lookups return; and the rows of each range can be listed.
pub record Reports (versions : List Version) (ps : List (Placed Admitted)) (moment : ℕ) : Type 0 where
  pub fits : (p : Peer) (x : IpPrefix) (route : Route) → Holds ps moment p x route → IsPeer p × IsPrefix x
  pub listed : (select : Select) (low : Option Spot) → (rows : List Row) × AreRows ps moment select low None rows
  pub has_value : (p : Peer) (x : IpPrefix) (route : Route) → Holds ps moment p x route → Answers versions (key_number p x) (last_stamp moment) None → ⊥
  pub law : (p : Peer) (x : IpPrefix) (found : Found) (ended : Option Found) (route : Route) → IsPeer p → IsPrefix x
      → Answers versions (key_number p x) (last_stamp moment) (Some found) → Answers versions (session_number p) (last_stamp moment) ended
      → Holds ps moment p x route ↔ ((counts (stamp_of_found ended) found.stamp ≡ true) × EncodesRoute route found.value)

-- a row that holds at the moment, is selected, lies above the spot that the question names and below the key
pub record IsRowBelow (ps : List (Placed Admitted)) (q : RowsQuestion) (at : ℕ) (row : Row) : Type 0 where
  pub selected : Selects q.select row.peer row.prefix
  pub above : IsAbove q.after (row_number row)
  pub below : row_number row < at
  pub holds : Holds ps q.moment row.peer row.prefix row.route

-- all these rows and no others, in their order
pub record AreRowsBelow (ps : List (Placed Admitted)) (q : RowsQuestion) (at : ℕ) (rows : List Row) : Type 0 where
  pub rising : AreRising rows
  pub only : AllByRecursion (IsRowBelow ps q at) rows
  pub each : (row : Row) → IsRowBelow ps q at row → Contains rows row

-- what is found at the key has this stamp; None if nothing is found
abbrev pub EndedAt : List Version → ℕ → ℕ → Option ℕ → Type 0
EndedAt versions s key ended = (found : Option Found) × Answers versions key s found × (stamp_of_found found ≡ ended)

-- the session of the peer among whose keys `at` is ended last with this stamp, if the walk has passed the session's key
abbrev pub Ended : List Version → ℕ → ℕ → Option ℕ → Type 0
Ended versions s at ended = first_key at < at → EndedAt versions s (first_key at) ended

-- under way: the rows are all those below the key that the walk has come to, at most as many as an answer has
pub record IsUnderWay (versions : List Version) (ps : List (Placed Admitted)) (q : RowsQuestion) (at : ℕ) (ended : Option ℕ) (rows : List Row) (more : Bool) : Type 0 where
  pub are : AreRowsBelow ps q at rows
  pub few : length rows ≤ most_rows
  pub alone : more ≡ false
  pub session : Ended versions (last_stamp q.moment) at ended

-- under way at a key, or over: then it is the whole answer
abbrev pub IsGathered : List Version → List (Placed Admitted) → RowsQuestion → Option ℕ → Option ℕ → List Row → Bool → Type 0
IsGathered versions ps q None ended rows more = IsAnswer ps q rows more
IsGathered versions ps q (Some at) ended rows more = IsUnderWay versions ps q at ended rows more

-- what the cursor has gathered is exactly what there is in the range that it has walked, or the whole answer
abbrev pub Gathered : List Version → List (Placed Admitted) → RowsCursor → Type 0
Gathered versions ps c = IsGathered versions ps c.question (front_number c.front) c.ended c.rows.items c.more

-- the cursor holds the same
pub record IsSame (c d : RowsCursor) : Type 0 where
  pub question : d.question ≡ c.question
  pub front : d.front ≡ c.front
  pub ended : d.ended ≡ c.ended
  pub rows : d.rows.items ≡ c.rows.items
  pub more : d.more ≡ c.more

-- the walk has come further: to the end, or to a higher key
abbrev pub Rose : Option ℕ → Option ℕ → Type 0
Rose None new = ⊥
Rose (Some old) None = Unit {0}
Rose (Some old) (Some new) = old < new

-- the walk has not gone back
abbrev pub NotBack : Option ℕ → Option ℕ → Type 0
NotBack None new = ⊥
NotBack (Some old) None = Unit {0}
NotBack (Some old) (Some new) = old ≤ new

-- no row of the question has a key from `at` on and below `to`
abbrev pub Rowless : RowsQuestion → ℕ → ℕ → Type 0
Rowless q at to = (p : Peer) (x : IpPrefix) → IsPeer p → IsPrefix x → Selects q.select p x → IsAbove q.after (key_number p x) → at ≤ key_number p x → key_number p x < to → ⊥

-- none has a key from `at` on
abbrev pub RowlessFrom : RowsQuestion → ℕ → Type 0
RowlessFrom q at = (p : Peer) (x : IpPrefix) → IsPeer p → IsPrefix x → Selects q.select p x → IsAbove q.after (key_number p x) → at ≤ key_number p x → ⊥

-- a leap over keys that the question doesn't ask for: to the key of a session, or among the keys of one peer whose session's key is passed
abbrev pub LeapsTo : RowsQuestion → ℕ → ℕ → Type 0
LeapsTo q at to = (at ≤ to) × Rowless q at to × ((first_key to ≡ to) ⊎ ((first_key to ≡ first_key at) × (first_key at < at)))

-- the same, or no row of the question has a key from here on
abbrev pub Leaps : RowsQuestion → ℕ → Option ℕ → Type 0
Leaps q at None = RowlessFrom q at
Leaps q at (Some to) = LeapsTo q at to

-- the first key of the peer whose keys `at` is among, if `at` is above it; None if `at` is a first key
abbrev pub IsPeerFirst : ℕ → Option ℕ → Type 0
IsPeerFirst at None = first_key at ≡ at
IsPeerFirst at (Some first) = (first ≡ first_key at) × (first_key at < at)

-- the row that the question has at a key, or that it has none there
abbrev pub IsRowAt : List (Placed Admitted) → RowsQuestion → ℕ → Option Row → Type 0
IsRowAt ps q key None = (row : Row) → row_number row ≡ key → Selects q.select row.peer row.prefix → IsAbove q.after (row_number row) → Holds ps q.moment row.peer row.prefix row.route → ⊥
IsRowAt ps q key (Some row) = (row_number row ≡ key) × Selects q.select row.peer row.prefix × IsAbove q.after (row_number row) × Holds ps q.moment row.peer row.prefix row.route
    × ((other : Row) → row_number other ≡ key → Holds ps q.moment other.peer other.prefix other.route → other ≡ row)

-- the spot of a prefix's key
abbrev pub spot_in : KeyParts → Option Spot
spot_in (OfPrefix p x) = Some (record { peer = p; prefix = x })
spot_in (Session p) = None

-- the spot that has the key
abbrev pub IsSpotOf : ℕ → Option Spot → Type 0
IsSpotOf key None = (p : Peer) (x : IpPrefix) → IsPeer p → IsPrefix x → key_number p x ≡ key → ⊥
IsSpotOf key (Some spot) = (IsPeer spot.peer × IsPrefix spot.prefix) × (key_number spot.peer spot.prefix ≡ key)
    × ((p : Peer) (x : IpPrefix) → IsPeer p → IsPrefix x → key_number p x ≡ key → (p ≡ spot.peer) × (x ≡ spot.prefix))

-- the spot of a key, if the question selects it
abbrev pub IsAskedAt : RowsQuestion → ℕ → Option Spot → Type 0
IsAskedAt q key None = (p : Peer) (x : IpPrefix) → IsPeer p → IsPrefix x → key_number p x ≡ key → Selects q.select p x → IsAbove q.after key → ⊥
IsAskedAt q key (Some spot) = (IsPeer spot.peer × IsPrefix spot.prefix) × (key_number spot.peer spot.prefix ≡ key) × Selects q.select spot.peer spot.prefix × IsAbove q.after key
    × ((p : Peer) (x : IpPrefix) → IsPeer p → IsPrefix x → key_number p x ≡ key → (p ≡ spot.peer) × (x ≡ spot.prefix))

-- the route that octets of this stamp encode, if they count
abbrev pub IsRouteIn : Option ℕ → ℕ → List ℕ → Option Route → Type 0
IsRouteIn ended stamp octets None = (route : Route) → counts ended stamp ≡ true → EncodesRoute route octets → ⊥
IsRouteIn ended stamp octets (Some route) = (counts ended stamp ≡ true) × EncodesRoute route octets

-- a leap of the cursor
abbrev pub HasLeapt : RowsCursor → RowsCursor → Option Front → Type 0
HasLeapt c d None = (d.question ≡ c.question) × (d.rows.items ≡ c.rows.items) × (d.more ≡ c.more) × (d.front ≡ None)
    × ((c.front ≡ None) ⊎ ((at : ℕ) × (front_number c.front ≡ Some at) × RowlessFrom c.question at))
HasLeapt c d (Some front) = (d.question ≡ c.question) × (d.rows.items ≡ c.rows.items) × (d.more ≡ c.more) × (d.ended ≡ c.ended) × (d.front ≡ Some front)
    × ((at : ℕ) × (front_number c.front ≡ Some at) × LeapsTo c.question at (number_at front))

-- a first key, below which there is no row
abbrev pub IsStart : Option Spot → ℕ → Type 0
IsStart after at = (first_key at ≡ at) × ((p : Peer) (x : IpPrefix) → IsAbove after (key_number p x) → key_number p x < at → ⊥)

-- the versions with later ones, and the changes of all of them
pub record GoesOn (all new : List Version) (ps qs : List (Placed Admitted)) (moment : ℕ) : Type 0 where
  pub more : List Version
  pub added : new ≡ all ++ more
  pub later : AllByRecursion (λ v. last_stamp moment < v.stamp) more
  pub holds : (p : Peer) (x : IpPrefix) (route : Route) → Holds ps moment p x route ↔ Holds qs moment p x route

-- the key is no higher than the end of all keys
abbrev pub IsWithin : Option ℕ → Type 0
IsWithin None = Unit {0}
IsWithin (Some at) = at ≤ 2 ^ 320

-- how far a walk may still go
abbrev pub left_of : Option ℕ → ℕ
left_of None = 0
left_of (Some at) = suc (2 ^ 320 - at)

-- the prefix of this length that contains the address
abbrev pub containing : Address → ℕ → IpPrefix
containing address length = record { address = cleared_address length address; length = length }

-- where it stands among the keys of the peer with this first key
abbrev pub candidate : ℕ → Address → ℕ → ℕ
candidate first address length = first + tail (containing address length)

-- the least key from `at` on of the first n prefixes that contain the address
abbrev pub IsLeast : ℕ → ℕ → Address → ℕ → Option ℕ → Type 0
IsLeast at first address n None = (length : ℕ) → length < n → candidate first address length < at
IsLeast at first address n (Some key) = (at ≤ key) × ((length : ℕ) × IsPrefix (containing address length) × (key ≡ candidate first address length))
    × ((length : ℕ) → length < n → (candidate first address length < at) ⊎ (key ≤ candidate first address length))

-- the lesser of a key and another, if there is one
abbrev pub least_or : ℕ → Option ℕ → ℕ
least_or key None = key
least_or key (Some least) = cond (nat_lt key least) key least

-- the same key and stamp, and an end if the other is one
pub record IsSameVersion (v w : Version) : Type 0 where
  pub key : v.key ≡ w.key
  pub stamp : v.stamp ≡ w.stamp
  pub ends : (v.value ≡ None) ↔ (w.value ≡ None)
