-- The versions of a prefix and its peer's session, as events.
use Rattle.std.specs.Prelude.{◌≡◌, ◌++◌, ℕ, suc, ◌+◌, ◌-◌, ◌*◌, ◌/◌, ◌^◌, ◌<◌, ◌≤◌, ◌&&◌, Bool, true, false, List, [], ◌∷◌, Option, Some, None, option_map, map, filter, drop, length, nat_lt, nat_le, nat_eq}
use Rattle.route_model.specs.Moments.{IsMoment}
use Rattle.std.specs.List.{AllZip, AllByRecursion}
use Rattle.route_model.specs.declared.peer.Peer.{Peer}
use Rattle.route_model.specs.declared.change.Change.{Change}
use Rattle.route_model.specs.declared.change.Change.TheVariants.{Announce, Withdraw, Down}
use Rattle.route_model.specs.Admission.{Admitted}
use Rattle.route_model.specs.Prefix.{IpPrefix}
use Rattle.route_model.specs.Encoding.{EncodesRoute}
use Rattle.route_model.specs.Keys.{key_number, session_number}
use Rattle.route_meaning.specs.declared.question.Event.{Event}
use Rattle.route_meaning.specs.declared.question.EventsQuestion.{EventsQuestion}
use Rattle.route_meaning.specs.Merged.{Placed}
use Rattle.route_meaning.specs.Rows.{most_rows}
use Rattle.route_meaning.specs.Events.{all_events, between, events, IsEventsAnswer}
use Rattle.route_history.specs.declared.events.Stamped.{Stamped}
use Rattle.route_history.specs.declared.events.Subject.{Subject}
use Rattle.route_history.specs.declared.events.Subject.TheVariants.{OfPrefix, OfSession}
use Rattle.route_history.specs.declared.events.EventsCursor.{EventsCursor}
use Rattle.version_model.specs.declared.entry.Entry.{Entry}
use Rattle.version_model.specs.Versions.{Version}
use Rattle.route_history.specs.Stamps.{stamp_of, last_stamp}

-- the stamp of a version
abbrev pub stamp_in : Version → ℕ
stamp_in v = v.stamp

-- each stamp is below those that follow
abbrev pub AreStampsRising : List Version → Type 0
AreStampsRising [] = Unit {0}
AreStampsRising (v ∷ vs) = AllByRecursion (λ w. v.stamp < w.stamp) vs × AreStampsRising vs

-- is it of one of the two keys, from this stamp on and before that one?
abbrev pub is_of_two : ℕ → ℕ → ℕ → ℕ → Version → Bool
is_of_two a b from to v = Rattle.std.specs.Prelude.◌||◌ (nat_eq v.key a) (nat_eq v.key b) && (nat_le from v.stamp && nat_lt v.stamp to)

-- is it before the stamp?
abbrev pub before : ℕ → Version → Bool
before to v = nat_lt v.stamp to

-- the version that an entry is, at a key
abbrev pub version_at : ℕ → Entry → Version
version_at key e = record { key = key; stamp = e.stamp; value = option_map (λ v. v.items) e.value }

-- the change that the version of a prefix or a session stands for
abbrev pub IsChangeOf : Peer → IpPrefix → Version → Change → Type 0
IsChangeOf p x v (Announce q y route) = (q ≡ p) × (y ≡ x) × (v.key ≡ key_number p x) × ((octets : List ℕ) × (v.value ≡ Some octets) × EncodesRoute route octets)
IsChangeOf p x v (Withdraw q y) = (q ≡ p) × (y ≡ x) × (v.key ≡ key_number p x) × (v.value ≡ None)
IsChangeOf p x v (Down q) = (q ≡ p) × (v.key ≡ session_number p)

-- the event that the version stands for
pub record IsEventOf (p : Peer) (x : IpPrefix) (v : Version) (e : Event) : Type 0 where
  pub time : e.time ≡ v.stamp / 2 ^ 64
  pub change : IsChangeOf p x v e.change

-- the first stamp of the question's span
abbrev pub span_start : EventsQuestion → ℕ
span_start q = stamp_of q.from 0

-- the stamp after the last of the span
abbrev pub span_end : EventsQuestion → ℕ
span_end q = suc (last_stamp q.to)

-- the versions that the question asks for, before a stamp
abbrev pub asked : List Version → EventsQuestion → ℕ → List Version
asked all q at = filter (is_of_two (key_number q.peer q.prefix) (session_number q.peer) (span_start q) at) all

-- the version stands for an event of the prefix of the peer
abbrev pub HasEvent : Peer → IpPrefix → Version → Type 0
HasEvent p x v = (e : Event) × IsMoment e.time × IsEventOf p x v e

-- is it of one of the two keys?
abbrev pub is_at : ℕ → ℕ → Version → Bool
is_at a b v = Rattle.std.specs.Prelude.◌||◌ (nat_eq v.key a) (nat_eq v.key b)

-- the change that a value at the prefix's key stands for, or that there is none
abbrev pub IsChangeIn : Peer → IpPrefix → Option (List ℕ) → Option Change → Type 0
IsChangeIn p x value None = (stamp : ℕ) (c : Change) → (key_number p x ≡ session_number p → ⊥) → IsChangeOf p x (record { key = key_number p x; stamp = stamp; value = value }) c → ⊥
IsChangeIn p x value (Some c) = (stamp : ℕ) → IsChangeOf p x (record { key = key_number p x; stamp = stamp; value = value }) c

-- the event that the version stands for, or that there is none
abbrev pub IsEventIn : Peer → IpPrefix → Version → Option Event → Type 0
IsEventIn p x v None = HasEvent p x v → ⊥
IsEventIn p x v (Some e) = IsEventOf p x v e

-- whose key
abbrev pub subject_key : EventsQuestion → Subject → ℕ
subject_key q OfPrefix = key_number q.peer q.prefix
subject_key q OfSession = session_number q.peer

-- What follows if the versions are those of the applied changes: their stamps rise, each of the two keys stands for an event, and those that the question asks for are its events.
pub record ReportsEvents (all : List Version) (ps : List (Placed Admitted)) (q : EventsQuestion) : Type 0 where
  pub rising : AreStampsRising all
  pub each : AllByRecursion (HasEvent q.peer q.prefix) (filter (is_at (key_number q.peer q.prefix) (session_number q.peer)) all)
  pub reported : AllZip (IsEventOf q.peer q.prefix) (asked all q (span_end q)) (all_events q.peer q.prefix (between q.from q.to ps))

-- under way: the events are those before the stamp that the walk has come to, without the first ones, at most as many as an answer has
pub record IsReporting (all : List Version) (q : EventsQuestion) (at left : ℕ) (reported : List Event) (more : Bool) : Type 0 where
  pub low : span_start q ≤ at
  pub high : at < span_end q
  pub are : AllZip (IsEventOf q.peer q.prefix) (drop q.skip (asked all q at)) reported
  pub left_is : left ≡ q.skip - length (asked all q at)
  pub few : length reported ≤ most_rows
  pub alone : more ≡ false

-- an event with the stamp of its version
abbrev pub IsStamped : Peer → IpPrefix → Version → Stamped → Type 0
IsStamped p x v s = (s.stamp ≡ v.stamp) × IsEventOf p x v s.event

-- side by side
abbrev pub AreStamped : EventsQuestion → List Version → List Stamped → Type 0
AreStamped q vs news = AllZip (IsStamped q.peer q.prefix) vs news

-- the versions and their events side by side
abbrev pub AreReported : EventsQuestion → List Version → List Event → Type 0
AreReported q vs reported = AllZip (IsEventOf q.peer q.prefix) vs reported

-- under way at a stamp, or over: then it is the whole answer
abbrev pub HasReported : List Version → List (Placed Admitted) → EventsQuestion → Option ℕ → ℕ → List Event → Bool → Type 0
HasReported all ps q None left reported more = IsEventsAnswer ps q reported more
HasReported all ps q (Some at) left reported more = IsReporting all q at left reported more

-- the event without its stamp
abbrev pub event_in : Stamped → Event
event_in s = s.event

-- the events so far are exactly those of the span that was walked, or the whole answer
abbrev pub HasReportedSo : List Version → List (Placed Admitted) → EventsCursor → Type 0
HasReportedSo all ps c = HasReported all ps c.question c.at c.left c.reported.items c.more

-- the cursor holds the same
pub record IsSameReporting (c d : EventsCursor) : Type 0 where
  pub question : d.question ≡ c.question
  pub at : d.at ≡ c.at
  pub left : d.left ≡ c.left
  pub reported : d.reported.items ≡ c.reported.items
  pub more : d.more ≡ c.more

-- the versions with later ones, if the events of the span are the same
pub record EventsGoOn (all new : List Version) (ps qs : List (Placed Admitted)) (q : EventsQuestion) : Type 0 where
  pub more : List Version
  pub added : new ≡ all ++ more
  pub later : AllByRecursion (λ v. last_stamp q.to < v.stamp) more
  pub reported : events ps q ≡ events qs q
