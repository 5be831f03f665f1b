-- Laws of whole bodies.
use Rattle.std.proofs.Common.{◌≡◌, ℕ, ◌+◌, ◌<◌, List, ◌++◌, length, take, drop, sym, ap, subst, ◌∙◌, arith}
use Rattle.std.proofs.lemmas.List.{append_cancel_left, drop_at, take-append-drop}
use Rattle.route_model.specs.Octets.{number_at}
use Rattle.route_model.specs.Sequence.{Sequence}
use Rattle.route_model.specs.Reading.{BeginsWith, NoReading}
use Rattle.route_model.specs.Prefix.{IpPrefix}
use Rattle.route_model.specs.declared.octets.ReadFault.{ReadFault}
use Rattle.route_model.specs.declared.octets.ReadFault.TheVariants as faults
use Rattle.route_model.proofs.api.Sequences.{sequence_one}
use Rattle.mrt_records.specs.declared.neighbor.Neighbor.{Neighbor}
use Rattle.route_model.specs.declared.wire.AsWidth.{AsWidth}
use Rattle.route_model.specs.declared.wire.Family.{Family}
use Rattle.mrt_records.specs.declared.form.Form.{Form}
use Rattle.mrt_records.specs.declared.form.Form.TheVariants as forms
use Rattle.mrt_records.specs.Entries.{Entry, IsEntryField}
use Rattle.route_model.specs.PrefixFields.{IsPrefixField}
use Rattle.mrt_records.specs.Sessions.{IsMessageBody, IsStateChange}
use Rattle.mrt_records.specs.PeerTables.{IsPeerField, IsPeerTable}
use Rattle.mrt_records.specs.Ribs.{IsRib}
use Rattle.mrt_records.specs.Values.{Message, StateChange, PeerTable, Rib, Reported, Read, Skipped, Malformed}
use Rattle.mrt_records.specs.Records.{moment_of, kind, subtype, body}
use Rattle.mrt_records.specs.Bodies.{HasReading, IsReported, IsListedType, Body}
use Rattle.mrt_records.proofs.Peers.{peers_free}
use Rattle.mrt_records.proofs.EntryFields.{entries_free}
use Rattle.route_model.proofs.api.PrefixFields.{prefixes_free}

-- ---- peer tables

-- the peers of a table follow its count
pub table_peers : (bytes rest : List ℕ) (at : ℕ) (ws : List Neighbor) → at ≡ 6 + number_at 2 4 bytes → rest ≡ drop (at + 2) bytes → IsPeerTable bytes ws → Sequence IsPeerField rest ws
table_peers bytes rest at ws at_is rest_is q =
    subst (λ (t : List ℕ). Sequence IsPeerField t ws) (ap (λ (n : ℕ). drop n bytes) (omega (arith, at_is)) ∙ sym rest_is) q.fields

-- a count that isn't that of the peers
pub table_none : (bytes rest : List ℕ) (at count : ℕ) (peers ws : List Neighbor) → at ≡ 6 + number_at 2 4 bytes → rest ≡ drop (at + 2) bytes → count ≡ number_at 2 at bytes
    → Sequence IsPeerField rest peers → (length peers ≡ count → ⊥) → IsPeerTable bytes ws → ⊥
table_none bytes rest at count peers ws at_is rest_is count_is p other q =
    let same = sequence_one IsPeerField peers_free rest peers ws p (table_peers bytes rest at ws at_is rest_is q) in
    let expected : number_at 2 (6 + number_at 2 4 bytes) bytes ≡ number_at 2 at bytes = ap (λ (n : ℕ). number_at 2 n bytes) (sym at_is) in
    other (ap length same ∙ q.count ∙ expected ∙ sym count_is)

-- ---- RIB records

pub rib_parts : (family : Family) (bytes beyond : List ℕ) (p : IpPrefix) (es : List Entry) → beyond ≡ drop 4 bytes → (q : IsRib family bytes p es) → beyond ≡ q.field ++ q.rest
rib_parts family bytes beyond p es after_is q = after_is ∙ ap (λ (t : List ℕ). drop 4 t) q.parts ∙ drop_at q.number (q.field ++ q.rest) 4 q.four

-- the prefix of a record follows its first four octets
pub rib_begins : (family : Family) (bytes beyond : List ℕ) (p : IpPrefix) (es : List Entry) → beyond ≡ drop 4 bytes → IsRib family bytes p es → BeginsWith (IsPrefixField family) beyond
rib_begins family bytes beyond p es after_is q = record {
  field = q.field;
  value = p;
  more = q.rest;
  is_field = q.is_prefix;
  parts = rib_parts family bytes beyond p es after_is q;
}

-- what follows the prefix is determined by the prefix that was read
pub rib_rest : (family : Family) (bytes beyond : List ℕ) (size : ℕ) (found p : IpPrefix) (es : List Entry) → beyond ≡ drop 4 bytes → IsPrefixField family (take size beyond) found
    → (q : IsRib family bytes p es) → q.rest ≡ drop size beyond
rib_rest family bytes beyond size found p es after_is f q =
    let whole : q.field ++ q.rest ≡ take size beyond ++ drop size beyond = sym (rib_parts family bytes beyond p es after_is q) ∙ sym (take-append-drop size beyond) in
    let same = (prefixes_free family).one q.field (take size beyond) q.rest (drop size beyond) p found q.is_prefix f whole in
    append_cancel_left q.field q.rest (drop size beyond) (whole ∙ ap (λ (t : List ℕ). t ++ drop size beyond) (sym same.0))

pub rib_short : (family : Family) (bytes beyond rest : List ℕ) (size : ℕ) (found p : IpPrefix) (es : List Entry) → beyond ≡ drop 4 bytes → rest ≡ drop size beyond
    → IsPrefixField family (take size beyond) found → length rest < 2 → IsRib family bytes p es → ⊥
rib_short family bytes beyond rest size found p es after_is rest_is f short q =
    let same = rib_rest family bytes beyond size found p es after_is f q in
    omega (arith, q.room, ap length (same ∙ sym rest_is))

pub rib_entries : (family : Family) (bytes beyond rest last : List ℕ) (size count : ℕ) (found p : IpPrefix) (es : List Entry) → beyond ≡ drop 4 bytes → rest ≡ drop size beyond
    → last ≡ drop 2 rest → count ≡ number_at 2 0 rest → IsPrefixField family (take size beyond) found → IsRib family bytes p es
    → Sequence IsEntryField last es × (length es ≡ count)
rib_entries family bytes beyond rest last size count found p es after_is rest_is last_is count_is f q =
    let same : q.rest ≡ rest = rib_rest family bytes beyond size found p es after_is f q ∙ sym rest_is in (
      subst (λ (t : List ℕ). Sequence IsEntryField t es) (ap (λ (t : List ℕ). drop 2 t) same ∙ sym last_is) q.are_entries,
      q.count ∙ ap (λ (t : List ℕ). number_at 2 0 t) same ∙ sym count_is,
    )

pub entries_none : (bytes : List ℕ) (count : ℕ) (es ws : List Entry) → Sequence IsEntryField bytes es → (length es ≡ count → ⊥) → Sequence IsEntryField bytes ws → length ws ≡ count → ⊥
entries_none bytes count es ws p other q e = other (ap length (sequence_one IsEntryField entries_free bytes es ws p q) ∙ e)

-- ---- by the form

pub message_none : (form : Form) (width : AsWidth) (t : ℕ) (bytes : List ℕ) (v : Reported) → form ≡ forms.Message width
    → ((m : Neighbor × List ℕ) → IsMessageBody width bytes m.0 m.1 → ⊥) → IsReported form t bytes v → ⊥
message_none form width t bytes (Skipped k s) e none q = q
message_none form width t bytes (Malformed k s) e none q = q
message_none form width t bytes (Read (Message time peer w octets)) e none q =
    let same : w ≡ width = cc (q.0, e) in
    none (peer, octets) (subst (λ (x : AsWidth). IsMessageBody x bytes peer octets) same q.2)
message_none form width t bytes (Read (StateChange time peer state)) e none q = absurd (cc (q.1, e))
message_none form width t bytes (Read (PeerTable peers)) e none q = absurd (cc (q.0, e))
message_none form width t bytes (Read (Rib time prefix entries)) e none q = absurd (cc (q.1, e))

pub reported_message : (form : Form) (width : AsWidth) (t : ℕ) (bytes : List ℕ) (fault : ReadFault) → form ≡ forms.Message width
    → NoReading (λ (m : Neighbor × List ℕ). IsMessageBody width bytes m.0 m.1) fault → NoReading (IsReported form t bytes) fault
reported_message form width t bytes faults.OutOfMemory e none = tt
reported_message form width t bytes faults.Malformed e none = λ v q. message_none form width t bytes v e none q

pub reported_state_change : (form : Form) (width : AsWidth) (t : ℕ) (bytes : List ℕ) (v : Reported) → form ≡ forms.StateChange width
    → ((peer : Neighbor) (state : ℕ) → IsStateChange width bytes peer state → ⊥) → IsReported form t bytes v → ⊥
reported_state_change form width t bytes (Skipped k s) e none q = q
reported_state_change form width t bytes (Malformed k s) e none q = q
reported_state_change form width t bytes (Read (Message time peer w octets)) e none q = absurd (cc (q.0, e))
reported_state_change form width t bytes (Read (StateChange time peer state)) e none q =
    let same : q.0 ≡ width = cc (q.1, e) in
    none peer state (subst (λ (x : AsWidth). IsStateChange x bytes peer state) same q.3)
reported_state_change form width t bytes (Read (PeerTable peers)) e none q = absurd (cc (q.0, e))
reported_state_change form width t bytes (Read (Rib time prefix entries)) e none q = absurd (cc (q.1, e))

pub table_reported_none : (form : Form) (t : ℕ) (bytes : List ℕ) (v : Reported) → form ≡ forms.PeerTable → ((ws : List Neighbor) → IsPeerTable bytes ws → ⊥) → IsReported form t bytes v → ⊥
table_reported_none form t bytes (Skipped k s) e none q = q
table_reported_none form t bytes (Malformed k s) e none q = q
table_reported_none form t bytes (Read (Message time peer w octets)) e none q = absurd (cc (q.0, e))
table_reported_none form t bytes (Read (StateChange time peer state)) e none q = absurd (cc (q.1, e))
table_reported_none form t bytes (Read (PeerTable peers)) e none q = none peers q.1
table_reported_none form t bytes (Read (Rib time prefix entries)) e none q = absurd (cc (q.1, e))

pub reported_table : (form : Form) (t : ℕ) (bytes : List ℕ) (fault : ReadFault) → form ≡ forms.PeerTable → NoReading (IsPeerTable bytes) fault → NoReading (IsReported form t bytes) fault
reported_table form t bytes faults.OutOfMemory e none = tt
reported_table form t bytes faults.Malformed e none = λ v q. table_reported_none form t bytes v e none q

pub rib_reported_none : (form : Form) (family : Family) (t : ℕ) (bytes : List ℕ) (v : Reported) → form ≡ forms.Rib family
    → ((r : IpPrefix × List Entry) → IsRib family bytes r.0 r.1 → ⊥) → IsReported form t bytes v → ⊥
rib_reported_none form family t bytes (Skipped k s) e none q = q
rib_reported_none form family t bytes (Malformed k s) e none q = q
rib_reported_none form family t bytes (Read (Message time peer w octets)) e none q = absurd (cc (q.0, e))
rib_reported_none form family t bytes (Read (StateChange time peer state)) e none q = absurd (cc (q.1, e))
rib_reported_none form family t bytes (Read (PeerTable peers)) e none q = absurd (cc (q.0, e))
rib_reported_none form family t bytes (Read (Rib time prefix entries)) e none q =
    let same : q.0 ≡ family = cc (q.1, e) in
    none (prefix, entries) (subst (λ (x : Family). IsRib x bytes prefix entries) same q.3)

pub reported_rib : (form : Form) (family : Family) (t : ℕ) (bytes : List ℕ) (fault : ReadFault) → form ≡ forms.Rib family
    → NoReading (λ (r : IpPrefix × List Entry). IsRib family bytes r.0 r.1) fault → NoReading (IsReported form t bytes) fault
reported_rib form family t bytes faults.OutOfMemory e none = tt
reported_rib form family t bytes faults.Malformed e none = λ v q. rib_reported_none form family t bytes v e none q

-- a listed record whose body has no reading is malformed
pub malformed_body : (bytes b : List ℕ) (k s t : ℕ) (form : Form) (fault : ReadFault) → k ≡ kind bytes → s ≡ subtype bytes → t ≡ moment_of bytes → b ≡ body bytes
    → IsListedType k s form → NoReading (IsReported form t b) fault → fault ≡ faults.Malformed → Body bytes (Malformed k s)
malformed_body bytes b k s t form fault k_is s_is t_is b_is listed none fault_is =
    let no : (v : Reported) → IsReported form t b v → ⊥ = subst (λ (f : ReadFault). NoReading (IsReported form t b) f) fault_is none in
    let there = subst (λ (x : ℕ). IsListedType (kind bytes) x form) s_is (subst (λ (x : ℕ). IsListedType x s form) k_is listed) in (
      k_is,
      s_is,
      form,
      there,
      λ reading q. no (Read reading) (subst (λ (x : ℕ). HasReading form x b reading) (sym t_is) (subst (λ (x : List ℕ). HasReading form (moment_of bytes) x reading) (sym b_is) q)),
    )
