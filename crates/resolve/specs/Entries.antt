-- What the entries of a RIB record announce.
use Rattle.std.specs.Prelude.{◌≡◌, ◌⊎◌, ℕ, ◌<◌, ◌≤◌, List, [], ◌∷◌, ◌++◌, length, Option, Some, None, slice_get, Result, Ok, Err, Vec}
use Rattle.std.specs.declared.alloc.Global.{Global}
use Rattle.route_model.specs.Sequence.{Each}
use Rattle.route_model.specs.Encoding.{route_octets}
use Rattle.route_model.specs.Prefix.{IpPrefix}
use Rattle.route_model.specs.declared.address.Address.{Address}
use Rattle.route_model.specs.declared.address.Address.TheVariants.{V4, V6}
use Rattle.route_model.specs.declared.route.Route.{Route}
use Rattle.route_model.specs.declared.change.Change.{Change}
use Rattle.route_model.specs.declared.change.Change.TheVariants as changes
use Rattle.route_model.specs.declared.wire.Family.{Family}
use Rattle.route_model.specs.declared.wire.Family.TheVariants as families
use Rattle.route_model.specs.declared.wire.AsWidth.TheVariants as widths
use Rattle.mrt_records.specs.Entries.{Entry}
use Rattle.mrt_records.specs.declared.neighbor.Neighbor.{Neighbor}
use Rattle.bgp_update.specs.Readings.{AreAttributes}
use Rattle.bgp_update.specs.Entries.{IsEntryRoute}
use Rattle.bgp_update.specs.declared.fault.MessageFault.{MessageFault}
use Rattle.bgp_update.specs.declared.fault.MessageFault.TheVariants as messages
use Rattle.mrt_records.specs.declared.entries.RibEntry.{RibEntry}
use Rattle.resolve.specs.declared.entries.KnownRoute.{KnownRoute}
use Rattle.bgp_update.specs.declared.reading.PathAttributes.{PathAttributes}
use Rattle.resolve.specs.Changes.{peer_of_neighbor}
use Rattle.resolve.specs.declared.fault.ResolveFault.{ResolveFault}
use Rattle.resolve.specs.declared.fault.ResolveFault.TheVariants as faults
use Rattle.resolve.specs.declared.without_hop.WithoutHop.{WithoutHop}
use Rattle.resolve.specs.declared.without_hop.WithoutHop.TheVariants as rules

-- the family of a RIB record is that of its prefix
abbrev pub family_of : Address → Family
family_of (V4 octets) = families.Ipv4
family_of (V6 octets) = families.Ipv6

-- the attributes of an entry, with AS numbers of four octets, give the route
abbrev pub IsRouteOf : IpPrefix → Entry → Route → Type 0
IsRouteOf prefix entry route = (a : PathAttributes) × AreAttributes widths.Four entry.attributes a × IsEntryRoute (family_of prefix.address) a route

-- the entry announces the route that its attributes give, from the peer that it names
pub record IsChangeOf (collector : ℕ) (peers : List Neighbor) (prefix : IpPrefix) (entry : Entry) (change : Change) : Type 0 where
  pub neighbor : Neighbor
  pub route : Route
  pub named : slice_get peers entry.peer_index ≡ Some neighbor
  pub gives : IsRouteOf prefix entry route
  pub fits : length (route_octets route) ≤ 3072
  pub announces : change ≡ changes.Announce (peer_of_neighbor collector neighbor) prefix route

-- nothing gives a next hop: there is neither NEXT_HOP nor MP_REACH_NLRI
abbrev pub HasNoHop : PathAttributes → Type 0
HasNoHop a = (a.next_hop ≡ None) × (a.reach ≡ None)

-- nothing gives an entry with these attributes a next hop, and such entries are left out
abbrev pub IsWithoutHop : WithoutHop → PathAttributes → Type 0
IsWithoutHop rules.Refused a = ⊥
IsWithoutHop rules.LeftOut a = HasNoHop a

-- these octets are the attributes of an entry that is left out
abbrev pub LeavesOut : WithoutHop → List ℕ → Type 0
LeavesOut rule octets = (a : PathAttributes) × AreAttributes widths.Four octets a × IsWithoutHop rule a

-- the entry is left out; one that names no peer never is
abbrev pub IsLeftOut : WithoutHop → List Neighbor → Entry → Type 0
IsLeftOut rule peers entry = (entry.peer_index < length peers) × LeavesOut rule entry.attributes

-- why an entry announces nothing: the peer is looked at first, then the attributes; memory may run out at any entry
abbrev pub IsFaultOf : WithoutHop → List Neighbor → IpPrefix → Entry → ResolveFault → Type 0
IsFaultOf rule peers prefix entry faults.BadPeerIndex = length peers ≤ entry.peer_index
IsFaultOf rule peers prefix entry faults.Malformed = (entry.peer_index < length peers) × (LeavesOut rule entry.attributes → ⊥) × ((route : Route) → IsRouteOf prefix entry route → ⊥)
IsFaultOf rule peers prefix entry faults.RouteTooLarge = (entry.peer_index < length peers) × (route : Route) × IsRouteOf prefix entry route × (3072 < length (route_octets route))
IsFaultOf rule peers prefix entry faults.NoPeerTable = ⊥
IsFaultOf rule peers prefix entry faults.AdmissionTooLarge = ⊥
IsFaultOf rule peers prefix entry faults.OutOfMemory = Unit {0}

-- the list without the elements that have P, in its order
abbrev pub AreOthers : {X : Type 0} → (X → Type 0) → List X → List X → Type 0
AreOthers P [] others = others ≡ []
AreOthers {X = X} P (x ∷ xs) others = (P x × AreOthers P xs others) ⊎ ((P x → ⊥) × (more : List X) × (others ≡ x ∷ more) × AreOthers P xs more)

-- one announcement for each entry that isn't left out, in their order
abbrev pub AreChangesOf : WithoutHop → ℕ → List Neighbor → IpPrefix → List Entry → List Change → Type 0
AreChangesOf rule collector peers prefix entries changes = (kept : List Entry) × AreOthers (IsLeftOut rule peers) entries kept × Each (IsChangeOf collector peers prefix) kept changes

-- the first entry that announces nothing, and why
pub record IsFirstFault (rule : WithoutHop) (collector : ℕ) (peers : List Neighbor) (prefix : IpPrefix) (entries : List Entry) (fault : ResolveFault) : Type 0 where
  pub before : List Entry
  pub entry : Entry
  pub after : List Entry
  pub changes : List Change
  pub parts : entries ≡ before ++ entry ∷ after
  pub well : AreChangesOf rule collector peers prefix before changes
  pub faulty : IsFaultOf rule peers prefix entry fault

-- an entry's announcement, none if it is left out, or why there is none
abbrev pub EntryGives : WithoutHop → ℕ → List Neighbor → IpPrefix → Entry → Result (Option Change) ResolveFault → Type 0
EntryGives rule collector peers prefix entry (Ok (Some change)) = IsChangeOf collector peers prefix entry change
EntryGives rule collector peers prefix entry (Ok None) = IsLeftOut rule peers entry
EntryGives rule collector peers prefix entry (Err fault) = IsFaultOf rule peers prefix entry fault

-- the announcements of the entries, or the first fault among them
abbrev pub EntriesGive : WithoutHop → ℕ → List Neighbor → IpPrefix → List Entry → Result (Vec Change Global) ResolveFault → Type 0
EntriesGive rule collector peers prefix entries (Ok list) = AreChangesOf rule collector peers prefix entries list.items
EntriesGive rule collector peers prefix entries (Err faults.OutOfMemory) = Unit {0}
EntriesGive rule collector peers prefix entries (Err faults.NoPeerTable) = ⊥
EntriesGive rule collector peers prefix entries (Err faults.AdmissionTooLarge) = ⊥
EntriesGive rule collector peers prefix entries (Err faults.BadPeerIndex) = IsFirstFault rule collector peers prefix entries faults.BadPeerIndex
EntriesGive rule collector peers prefix entries (Err faults.Malformed) = IsFirstFault rule collector peers prefix entries faults.Malformed
EntriesGive rule collector peers prefix entries (Err faults.RouteTooLarge) = IsFirstFault rule collector peers prefix entries faults.RouteTooLarge

-- an entry as it is returned
abbrev pub entry_shown : RibEntry → Entry
entry_shown entry = record { peer_index = entry.peer_index; attributes = entry.attributes.now }

-- the route that the octets of attributes give, none if their entry is left out, or why they give none
abbrev pub RouteRead : WithoutHop → Family → List ℕ → Result (Option Route) MessageFault → Type 0
RouteRead rule family octets (Ok (Some route)) = (a : PathAttributes) × AreAttributes widths.Four octets a × IsEntryRoute family a route × (length (route_octets route) ≤ 3072)
RouteRead rule family octets (Ok None) = LeavesOut rule octets
RouteRead rule family octets (Err messages.Malformed) = (LeavesOut rule octets → ⊥) × ((a : PathAttributes) (route : Route) → AreAttributes widths.Four octets a → IsEntryRoute family a route → ⊥)
RouteRead rule family octets (Err messages.RouteTooLarge) = (a : PathAttributes) × (route : Route) × AreAttributes widths.Four octets a × IsEntryRoute family a route × (3072 < length (route_octets route))
RouteRead rule family octets (Err messages.OutOfMemory) = Unit {0}

-- the known attributes give the known route
abbrev pub IsKnown : WithoutHop → Family → Option KnownRoute → Type 0
IsKnown rule family None = Unit {0}
IsKnown rule family (Some known) = RouteRead rule family known.attributes.now (Ok (Some known.route))

-- these are the known attributes, and this is the known route
abbrev pub Gave : Option KnownRoute → List ℕ → Route → Type 0
Gave None octets route = ⊥
Gave (Some known) octets route = (known.attributes.now ≡ octets) × (route ≡ known.route)
