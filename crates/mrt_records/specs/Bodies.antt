-- What a record is reported as.
use Rattle.std.specs.Prelude.{◌≡◌, ℕ, ◌⊎◌, List}
use Rattle.mrt_records.specs.Records.{moment_of, kind, subtype, body}
use Rattle.mrt_records.specs.Values.{Reading, Message, StateChange, PeerTable, Rib, Reported, Read, Skipped, Malformed}
use Rattle.mrt_records.specs.Sessions.{IsMessageBody, IsStateChange}
use Rattle.mrt_records.specs.PeerTables.{IsPeerTable}
use Rattle.mrt_records.specs.Ribs.{IsRib}
use Rattle.route_model.specs.declared.wire.AsWidth.{AsWidth}
use Rattle.route_model.specs.declared.wire.AsWidth.TheVariants as widths
use Rattle.route_model.specs.declared.wire.Family.{Family}
use Rattle.route_model.specs.declared.wire.Family.TheVariants as families
use Rattle.mrt_records.specs.declared.form.Form.{Form}
use Rattle.mrt_records.specs.declared.form.Form.TheVariants as forms

-- the types of messages and state changes, without microseconds and with them
abbrev pub IsSessionKind : ℕ → Type 0
IsSessionKind k = (k ≡ 16) ⊎ (k ≡ 17)

-- the types and subtypes that are read, and as what
abbrev pub IsListedType : ℕ → ℕ → Form → Type 0
IsListedType k s (forms.StateChange widths.Two) = IsSessionKind k × (s ≡ 0)
IsListedType k s (forms.StateChange widths.Four) = IsSessionKind k × (s ≡ 5)
IsListedType k s (forms.Message widths.Two) = IsSessionKind k × (s ≡ 1)
IsListedType k s (forms.Message widths.Four) = IsSessionKind k × (s ≡ 4)
IsListedType k s forms.PeerTable = (k ≡ 13) × (s ≡ 1)
IsListedType k s (forms.Rib families.Ipv4) = (k ≡ 13) × (s ≡ 2)
IsListedType k s (forms.Rib families.Ipv6) = (k ≡ 13) × (s ≡ 4)

-- a record of this form and time, whose body is the octets, represents this
abbrev pub HasReading : Form → ℕ → List ℕ → Reading → Type 0
HasReading form t bytes (Message time peer width octets) = (form ≡ forms.Message width) × (time ≡ t) × IsMessageBody width bytes peer octets
HasReading form t bytes (StateChange time peer state) = (width : AsWidth) × (form ≡ forms.StateChange width) × (time ≡ t) × IsStateChange width bytes peer state
HasReading form t bytes (PeerTable peers) = (form ≡ forms.PeerTable) × IsPeerTable bytes peers
HasReading form t bytes (Rib time prefix entries) = (family : Family) × (form ≡ forms.Rib family) × (time ≡ t) × IsRib family bytes prefix entries

-- a listed record is what its body represents, or malformed if that is nothing; one that isn't listed is skipped
abbrev pub Body : List ℕ → Reported → Type 0
Body bytes (Read reading) = (form : Form) × IsListedType (kind bytes) (subtype bytes) form × HasReading form (moment_of bytes) (body bytes) reading
Body bytes (Skipped k s) = (k ≡ kind bytes) × (s ≡ subtype bytes) × ((form : Form) → IsListedType (kind bytes) (subtype bytes) form → ⊥)
Body bytes (Malformed k s) =
    (k ≡ kind bytes) × (s ≡ subtype bytes) × (form : Form) × IsListedType (kind bytes) (subtype bytes) form
    × ((reading : Reading) → HasReading form (moment_of bytes) (body bytes) reading → ⊥)

-- what is reported is a body of the form
abbrev pub IsReported : Form → ℕ → List ℕ → Reported → Type 0
IsReported form t bytes (Read reading) = HasReading form t bytes reading
IsReported form t bytes (Skipped k s) = ⊥
IsReported form t bytes (Malformed k s) = ⊥
