-- BGP messages (RFC 4271 section 4), and what a reader of them returns.
use Rattle.std.specs.Prelude.{◌≡◌, ◌≢◌, ℕ, ◌<◌, ◌≤◌, ◌==◌, ◌⊎◌, true, List, [], ◌∷◌, ◌++◌, length, take, drop, slice_index, Option, Some, None, Result, Ok, Err}
use Rattle.std.specs.List.{list_all}
use Rattle.route_model.specs.Octets.{number_at}
use Rattle.route_model.specs.Sequence.{Sequence}
use Rattle.route_model.specs.Encoding.{route_octets}
use Rattle.route_model.specs.Prefix.{IpPrefix}
use Rattle.route_model.specs.PrefixFields.{IsPrefixField}
use Rattle.route_model.specs.declared.route.Route.{Route}
use Rattle.route_model.specs.declared.wire.AsWidth.{AsWidth}
use Rattle.route_model.specs.declared.wire.Family.TheVariants as families
use Rattle.bgp_update.specs.Readings.{AreAttributes}
use Rattle.bgp_update.specs.NextHops.{IsReached, AreReached, AreUnreached, hop_of}
use Rattle.bgp_update.specs.Routes.{route_of, four_hop}
use Rattle.bgp_update.specs.declared.reading.PathAttributes.{PathAttributes}
use Rattle.bgp_update.specs.declared.reach.Reach.{Reach}
use Rattle.bgp_update.specs.declared.update.Announcement.{Announcement}
use Rattle.bgp_update.specs.declared.update.Update as updates
use Rattle.bgp_update.specs.declared.message.Message.{Message}
use Rattle.bgp_update.specs.declared.message.Message.TheVariants as messages
use Rattle.bgp_update.specs.declared.fault.MessageFault.{MessageFault}
use Rattle.bgp_update.specs.declared.fault.MessageFault.TheVariants as faults

-- ---- what is reported, with lists for what a value owns

-- a route, and the prefixes that share it
pub record Announced : Type 0 where
  pub route : Route
  pub prefixes : List IpPrefix

-- what an UPDATE withdraws and announces, by the four places where prefixes are
pub record Changes : Type 0 where
  pub withdrawn : List IpPrefix
  pub unreachable : List IpPrefix
  pub announced : Option Announced
  pub reachable : Option Announced

-- what a message represents: an UPDATE its changes; a NOTIFICATION nothing more; another type the type alone
pub data Reported : Type 0 where
  Update : (changes : Changes) → Reported
  Notification : Reported
  Other : (kind : ℕ) → Reported

-- an announcement, with a list for its prefixes
abbrev pub announced_reported : Announcement → Announced
announced_reported a = record { route = a.route; prefixes = a.prefixes.items }

-- the same if there is one
abbrev pub option_reported : Option Announcement → Option Announced
option_reported None = None
option_reported (Some a) = Some (announced_reported a)

-- the changes of an UPDATE, with lists for its four places
abbrev pub changes_reported : updates.Update → Changes
changes_reported u = record {
  withdrawn = u.withdrawn.items;
  unreachable = u.unreachable.items;
  announced = option_reported u.announced;
  reachable = option_reported u.reachable;
}

-- what a message represents, with lists for what it owns
abbrev pub reported : Message → Reported
reported (messages.Update update) = Update (changes_reported update)
reported messages.Notification = Notification
reported (messages.Other kind) = Other kind

-- ---- what octets read as

-- the header (section 4.1): sixteen octets of ones, the message's own length, 19 to 4096, and its type
pub record IsHeader (bytes : List ℕ) (kind : ℕ) : Type 0 where
  pub room : 19 ≤ length bytes
  pub limit : length bytes ≤ 4096
  pub marker : list_all (λ b. b == 255) (take 16 bytes) ≡ true
  pub size : number_at 2 16 bytes ≡ length bytes
  pub is_kind : kind ≡ slice_index bytes 18

-- two octets with the number of octets in the field, the field, and the rest
pub record IsCounted (bytes field rest : List ℕ) : Type 0 where
  pub size : List ℕ
  pub two : length size ≡ 2
  pub reports : number_at 2 0 size ≡ length field
  pub parts : bytes ≡ size ++ (field ++ rest)

-- if there are prefixes there is a route, which all of them share; else nothing is announced
abbrev pub IsAnnounced : List IpPrefix → Option Route → Option Announced → Type 0
IsAnnounced [] route announced = announced ≡ None
IsAnnounced (p ∷ prefixes) route announced = (r : Route) × (route ≡ Some r) × (announced ≡ Some (record { route = r; prefixes = p ∷ prefixes }))

-- the withdrawn field, the attributes and the NLRI of an UPDATE: NLRI has the next hop of NEXT_HOP, MP_REACH_NLRI its own
pub record IsUpdateOf (width : AsWidth) (withdrawn_field attribute_field announced_field : List ℕ) (u : Changes) : Type 0 where
  pub attributes : PathAttributes
  pub reach : Option Reach
  pub announced : List IpPrefix
  pub reached : List IpPrefix
  pub withdrawn : Sequence (IsPrefixField families.Ipv4) withdrawn_field u.withdrawn
  pub are_attributes : AreAttributes width attribute_field attributes
  pub are_announced : Sequence (IsPrefixField families.Ipv4) announced_field announced
  pub unreachable : AreUnreached attributes.unreach u.unreachable
  pub is_reach : IsReached attributes.reach reach
  pub are_reached : AreReached reach reached
  pub by_next_hop : IsAnnounced announced (route_of attributes (four_hop attributes.next_hop)) u.announced
  pub by_reach : IsAnnounced reached (route_of attributes (hop_of reach)) u.reachable

-- the octets after the header of an UPDATE (section 4.3): two counted fields, and NLRI to the end
pub record IsUpdate (width : AsWidth) (bytes : List ℕ) (u : Changes) : Type 0 where
  pub withdrawn_field : List ℕ
  pub more : List ℕ
  pub attribute_field : List ℕ
  pub announced_field : List ℕ
  pub first : IsCounted bytes withdrawn_field more
  pub second : IsCounted more attribute_field announced_field
  pub parts : IsUpdateOf width withdrawn_field attribute_field announced_field u

-- the whole octets are a message: of types other than UPDATE the header is read, and a KEEPALIVE is nothing more
abbrev pub IsMessage : AsWidth → List ℕ → Reported → Type 0
IsMessage width bytes (Update changes) = IsHeader bytes 2 × IsUpdate width (drop 19 bytes) changes
IsMessage width bytes Notification = IsHeader bytes 3
IsMessage width bytes (Other kind) = IsHeader bytes kind × (kind ≢ 2) × (kind ≢ 3) × (kind ≡ 4 → length bytes ≡ 19)

-- ---- what the reader returns

-- a route of more octets than an admission may have
abbrev pub IsLarge : Option Announced → Type 0
IsLarge None = ⊥
IsLarge (Some a) = 3072 < length (route_octets a.route)

-- the message announces such a route
abbrev pub HasLarge : Reported → Type 0
HasLarge (Update changes) = IsLarge changes.announced ⊎ IsLarge changes.reachable
HasLarge Notification = ⊥
HasLarge (Other kind) = ⊥

-- a message whose routes all fit; or why there is none. Only an UPDATE needs memory
abbrev pub AnswersMessage : AsWidth → List ℕ → Result Message MessageFault → Type 0
AnswersMessage width bytes (Ok message) = IsMessage width bytes (reported message) × (HasLarge (reported message) → ⊥)
AnswersMessage width bytes (Err faults.Malformed) = (m : Reported) → IsMessage width bytes m → ⊥
AnswersMessage width bytes (Err faults.RouteTooLarge) = (m : Reported) × IsMessage width bytes m × HasLarge m
AnswersMessage width bytes (Err faults.OutOfMemory) = IsHeader bytes 2
