-- What a record means: an admission, nothing, or why it is refused.
use Rattle.std.specs.Prelude.{◌≡◌, ℕ, ◌+◌, min, ◌<◌, ◌-◌, ◌⊎◌, ◌==◌, if◌then◌else◌, List, [], ◌∷◌, length, Option, Some, None, Result, Ok, Err}
use Rattle.route_model.specs.Admission.{Admitted, admission_octets}
use Rattle.route_model.specs.Prefix.{IpPrefix}
use Rattle.route_model.specs.declared.peer.Peer.{Peer}
use Rattle.route_model.specs.declared.change.Change.{Change}
use Rattle.route_model.specs.declared.change.Change.TheVariants as changes
use Rattle.route_model.specs.declared.wire.AsWidth.{AsWidth}
use Rattle.mrt_records.specs.Entries.{Entry}
use Rattle.mrt_records.specs.Values as records
use Rattle.mrt_records.specs.declared.neighbor.Neighbor.{Neighbor}
use Rattle.bgp_update.specs.Messages.{Reported, IsMessage, HasLarge}
use Rattle.resolve.specs.Changes.{peer_of_neighbor, message_changes}
use Rattle.resolve.specs.Entries.{AreChangesOf, IsFirstFault}
use Rattle.resolve.specs.declared.fault.ResolveFault.{ResolveFault}
use Rattle.resolve.specs.declared.fault.ResolveFault.TheVariants as faults
use Rattle.resolve.specs.declared.without_hop.WithoutHop.{WithoutHop}

-- these changes at this time
abbrev pub admitted : ℕ → List Change → Admitted
admitted time list = record { time = time; changes = list }

-- more octets than an admission may have
abbrev pub IsLong : Admitted → Type 0
IsLong a = 131072 < length (admission_octets a)

-- the changes of a message, at the time of its record
abbrev pub MessageGives : Peer → ℕ → AsWidth → List ℕ → Result (Option Admitted) ResolveFault → Type 0
MessageGives peer time width octets (Ok None) = ⊥
MessageGives peer time width octets (Ok (Some a)) = (m : Reported) × IsMessage width octets m × (HasLarge m → ⊥) × (a ≡ admitted time (message_changes peer m)) × (IsLong a → ⊥)
MessageGives peer time width octets (Err faults.Malformed) = (m : Reported) → IsMessage width octets m → ⊥
MessageGives peer time width octets (Err faults.RouteTooLarge) = (m : Reported) × IsMessage width octets m × HasLarge m
MessageGives peer time width octets (Err faults.AdmissionTooLarge) = (m : Reported) × IsMessage width octets m × (HasLarge m → ⊥) × IsLong (admitted time (message_changes peer m))
MessageGives peer time width octets (Err faults.NoPeerTable) = ⊥
MessageGives peer time width octets (Err faults.BadPeerIndex) = ⊥
MessageGives peer time width octets (Err faults.OutOfMemory) = Unit {0}

-- a state change to another state than 6, Established, ends the peer's routes (RFC 4271 section 8.2.2)
abbrev pub state_changes : Peer → ℕ → List Change
state_changes peer state = if state == 6 then [] else changes.Down peer ∷ []

-- what a state change gives: the end of the routes of the peer, if that fits an admission; never nothing
abbrev pub StateGives : Peer → ℕ → ℕ → Result (Option Admitted) ResolveFault → Type 0
StateGives peer time state (Ok None) = ⊥
StateGives peer time state (Ok (Some a)) = (a ≡ admitted time (state_changes peer state)) × (IsLong a → ⊥)
StateGives peer time state (Err faults.AdmissionTooLarge) = IsLong (admitted time (state_changes peer state))
StateGives peer time state (Err faults.Malformed) = ⊥
StateGives peer time state (Err faults.RouteTooLarge) = ⊥
StateGives peer time state (Err faults.NoPeerTable) = ⊥
StateGives peer time state (Err faults.BadPeerIndex) = ⊥
StateGives peer time state (Err faults.OutOfMemory) = Unit {0}

-- the announcements of the entries, of which there are none only if there is no entry
abbrev pub AreAnnounced : WithoutHop → ℕ → List Neighbor → IpPrefix → List Entry → List Change → Type 0
AreAnnounced rule c peers prefix entries list = AreChangesOf rule c peers prefix entries list × (list ≡ [] → entries ≡ [])

-- one announcement for each entry that isn't left out, under the peers of the feed's peer table; nothing if there are entries and all are left out
abbrev pub RibGives : WithoutHop → ℕ → List Neighbor → ℕ → IpPrefix → List Entry → Result (Option Admitted) ResolveFault → Type 0
RibGives rule c peers time prefix entries (Ok None) = AreChangesOf rule c peers prefix entries [] × (entries ≡ [] → ⊥)
RibGives rule c peers time prefix entries (Ok (Some a)) = (list : List Change) × AreAnnounced rule c peers prefix entries list × (a ≡ admitted time list) × (IsLong a → ⊥)
RibGives rule c peers time prefix entries (Err faults.BadPeerIndex) = IsFirstFault rule c peers prefix entries faults.BadPeerIndex
RibGives rule c peers time prefix entries (Err faults.Malformed) = IsFirstFault rule c peers prefix entries faults.Malformed
RibGives rule c peers time prefix entries (Err faults.RouteTooLarge) = IsFirstFault rule c peers prefix entries faults.RouteTooLarge
RibGives rule c peers time prefix entries (Err faults.AdmissionTooLarge) = (list : List Change) × AreAnnounced rule c peers prefix entries list × IsLong (admitted time list)
RibGives rule c peers time prefix entries (Err faults.NoPeerTable) = ⊥
RibGives rule c peers time prefix entries (Err faults.OutOfMemory) = Unit {0}

-- a RIB record in a feed with this peer table, or with none
abbrev pub RibGivesUnder : WithoutHop → ℕ → Option (List Neighbor) → ℕ → IpPrefix → List Entry → Result (Option Admitted) ResolveFault → Type 0
RibGivesUnder rule c None time prefix entries result = result ≡ Err faults.NoPeerTable
RibGivesUnder rule c (Some peers) time prefix entries result = RibGives rule c peers time prefix entries result

-- what a record gives for the collector c, in a feed with this peer table, under this rule for entries without a next hop
abbrev pub Gives : WithoutHop → ℕ → Option (List Neighbor) → records.Reported → Result (Option Admitted) ResolveFault → Type 0
Gives rule c table (records.Read (records.Message time peer width octets)) result = MessageGives (peer_of_neighbor c peer) time width octets result
Gives rule c table (records.Read (records.StateChange time peer state)) result = StateGives (peer_of_neighbor c peer) time state result
Gives rule c table (records.Read (records.Rib time prefix entries)) result = RibGivesUnder rule c table time prefix entries result
Gives rule c table (records.Read (records.PeerTable peers)) result = (result ≡ Ok None) ⊎ (result ≡ Err faults.OutOfMemory)
Gives rule c table (records.Skipped kind subtype) result = result ≡ Ok None
Gives rule c table (records.Malformed kind subtype) result = result ≡ Err faults.Malformed

-- how many entries a record has beyond what it announces, if it isn't refused: those that are left out
abbrev pub left_out : records.Reported → Result (Option Admitted) ResolveFault → ℕ
left_out (records.Read (records.Rib time prefix entries)) (Ok (Some a)) = length entries - length a.changes
left_out (records.Read (records.Rib time prefix entries)) (Ok None) = length entries
left_out (records.Read (records.Rib time prefix entries)) (Err fault) = 0
left_out (records.Read (records.Message time peer width octets)) result = 0
left_out (records.Read (records.StateChange time peer state)) result = 0
left_out (records.Read (records.PeerTable peers)) result = 0
left_out (records.Skipped kind subtype) result = 0
left_out (records.Malformed kind subtype) result = 0

-- a count with more entries; it stops at 18446744073709551615
abbrev pub counted : ℕ → ℕ → ℕ
counted count more = min (count + more) 18446744073709551615
