-- A record is reported as one item only.
use Rattle.std.proofs.Common.{◌≡◌, ℕ, inl, inr, ◌+◌, ◌*◌, ◌==◌, Bool, List, ◌++◌, take, drop, refl, sym, ap, subst, ◌∙◌, arith}
use Rattle.std.specs.Prelude.{if◌then◌else◌}
use Rattle.std.proofs.lemmas.List.{append_cancel_left}
use Rattle.route_model.specs.Octets.{number_at}
use Rattle.route_model.specs.Sequence.{Sequence}
use Rattle.route_model.specs.Prefix.{IpPrefix}
use Rattle.route_model.specs.declared.address.Address.{Address}
use Rattle.route_model.proofs.api.Sequences.{sequence_one}
use Rattle.mrt_records.specs.declared.neighbor.Neighbor.{Neighbor}
use Rattle.route_model.specs.declared.wire.AsWidth.{AsWidth}
use Rattle.route_model.specs.declared.wire.AsWidth.TheVariants as widths
use Rattle.route_model.specs.declared.wire.Family.{Family}
use Rattle.route_model.specs.declared.wire.Family.TheVariants as families
use Rattle.mrt_records.specs.declared.form.Form.{Form}
use Rattle.mrt_records.specs.declared.form.Form.TheVariants as forms
use Rattle.mrt_records.specs.Entries.{Entry, IsEntryField}
use Rattle.route_model.specs.PrefixFields.{address_size}
use Rattle.mrt_records.specs.Sessions.{family_code, IsAddressOf, IsSession, IsMessageBody, IsStateChange}
use Rattle.route_model.specs.Widths.{width_of}
use Rattle.mrt_records.specs.PeerTables.{IsPeerField}
use Rattle.mrt_records.specs.Ribs.{IsRib}
use Rattle.mrt_records.specs.Values.{Reading, Message, StateChange, PeerTable, Rib, Reported, Read, Skipped, Malformed}
use Rattle.mrt_records.specs.Records.{moment_of, kind, subtype, body}
use Rattle.mrt_records.specs.Bodies.{IsListedType, HasReading, Body}
use Rattle.mrt_records.proofs.Peers.{made, address_one, peers_free}
use Rattle.mrt_records.proofs.EntryFields.{entries_free}
use Rattle.route_model.proofs.api.PrefixFields.{prefixes_free}
use Rattle.mrt_records.proofs.Bodies.{rib_parts}

-- ---- a type and subtype have one form

abbrev form_from : Bool → ℕ → Form
form_from table s =
    if table then (if s == 1 then forms.PeerTable else if s == 2 then forms.Rib families.Ipv4 else forms.Rib families.Ipv6)
    else (if s == 0 then forms.StateChange widths.Two else if s == 5 then forms.StateChange widths.Four else if s == 1 then forms.Message widths.Two else forms.Message widths.Four)

form_is : (k s : ℕ) (form : Form) → IsListedType k s form → form ≡ form_from (k == 13) s
form_is k s (forms.StateChange widths.Two) p = elim p.0 [ inl e ↦ rw (e, p.1) refl | inr e ↦ rw (e, p.1) refl ]
form_is k s (forms.StateChange widths.Four) p = elim p.0 [ inl e ↦ rw (e, p.1) refl | inr e ↦ rw (e, p.1) refl ]
form_is k s (forms.Message widths.Two) p = elim p.0 [ inl e ↦ rw (e, p.1) refl | inr e ↦ rw (e, p.1) refl ]
form_is k s (forms.Message widths.Four) p = elim p.0 [ inl e ↦ rw (e, p.1) refl | inr e ↦ rw (e, p.1) refl ]
form_is k s forms.PeerTable p = rw (p.0, p.1) refl
form_is k s (forms.Rib families.Ipv4) p = rw (p.0, p.1) refl
form_is k s (forms.Rib families.Ipv6) p = rw (p.0, p.1) refl

form_one : (k s : ℕ) (f g : Form) → IsListedType k s f → IsListedType k s g → f ≡ g
form_one k s f g p q = form_is k s f p ∙ sym (form_is k s g q)

-- ---- a body has one reading

pub family_one : (f g : Family) → family_code f ≡ family_code g → f ≡ g
family_one families.Ipv4 families.Ipv4 e = refl
family_one families.Ipv4 families.Ipv6 e = absurd (omega (arith, e))
family_one families.Ipv6 families.Ipv4 e = absurd (omega (arith, e))
family_one families.Ipv6 families.Ipv6 e = refl

pub session_one : (width : AsWidth) (bytes : List ℕ) (v w : Neighbor) (x y : List ℕ) → IsSession width bytes v x → IsSession width bytes w y → (v ≡ w) × (x ≡ y)
session_one width bytes v w x y p q =
    let family = family_one p.family q.family (sym p.code ∙ q.code) in
    let there = subst (λ (f : Family). IsAddressOf f (take (address_size f) (drop (2 * width_of width + 4) bytes)) v.address) family p.address in
    let addresses = address_one q.family (take (address_size q.family) (drop (2 * width_of width + 4) bytes)) v.address w.address there q.address in
    let numbers : v.as_number ≡ w.as_number = p.as_number ∙ sym q.as_number in
    let rests : x ≡ y = p.beyond ∙ ap (λ (f : Family). drop (2 * width_of width + 4 + 2 * address_size f) bytes) family ∙ sym q.beyond in
    (ap (λ (a : Address). made a v.as_number) addresses ∙ ap (λ (n : ℕ). made w.address n) numbers, rests)

rib_one : (family : Family) (bytes : List ℕ) (v w : IpPrefix) (x y : List Entry) → IsRib family bytes v x → IsRib family bytes w y → (v ≡ w) × (x ≡ y)
rib_one family bytes v w x y p q =
    let whole = sym (rib_parts family bytes (drop 4 bytes) v x refl p) ∙ rib_parts family bytes (drop 4 bytes) w y refl q in
    let same = (prefixes_free family).one p.field q.field p.rest q.rest v w p.is_prefix q.is_prefix whole in
    let rests : p.rest ≡ q.rest = append_cancel_left p.field p.rest q.rest (whole ∙ ap (λ (t : List ℕ). t ++ q.rest) (sym same.0)) in
    let there = subst (λ (t : List ℕ). Sequence IsEntryField (drop 2 t) x) rests p.are_entries in
    (same.1, sequence_one IsEntryField entries_free (drop 2 q.rest) x y there q.are_entries)

reads_one : (form : Form) (t : ℕ) (bytes : List ℕ) (v w : Reading) → HasReading form t bytes v → HasReading form t bytes w → v ≡ w
reads_one form t bytes (Message time peer width octets) (Message time' peer' width' octets') p q =
    let widths : width ≡ width' = cc (p.0, q.0) in
    let there = subst (λ (x : AsWidth). IsMessageBody x bytes peer octets) widths p.2 in
    let same = session_one width' bytes peer peer' octets octets' there.session q.2.session in
    let times : time ≡ time' = p.1 ∙ sym q.1 in
    cc (widths, same.0, same.1, times)
reads_one form t bytes (Message time peer width octets) (StateChange time' peer' state) p q = absurd (cc (p.0, q.1))
reads_one form t bytes (Message time peer width octets) (PeerTable peers) p q = absurd (cc (p.0, q.0))
reads_one form t bytes (Message time peer width octets) (Rib time' prefix entries) p q = absurd (cc (p.0, q.1))
reads_one form t bytes (StateChange time peer state) (Message time' peer' width' octets) p q = absurd (cc (p.1, q.0))
reads_one form t bytes (StateChange time peer state) (StateChange time' peer' state') p q =
    let widths : p.0 ≡ q.0 = cc (p.1, q.1) in
    let there = subst (λ (x : AsWidth). IsStateChange x bytes peer state) widths p.3 in
    let same = session_one q.0 bytes peer peer' there.states q.3.states there.session q.3.session in
    let states : state ≡ state' = there.new ∙ ap (λ (x : List ℕ). number_at 2 2 x) same.1 ∙ sym q.3.new in
    let times : time ≡ time' = p.2 ∙ sym q.2 in
    cc (same.0, states, times)
reads_one form t bytes (StateChange time peer state) (PeerTable peers) p q = absurd (cc (p.1, q.0))
reads_one form t bytes (StateChange time peer state) (Rib time' prefix entries) p q = absurd (cc (p.1, q.1))
reads_one form t bytes (PeerTable peers) (Message time' peer' width' octets) p q = absurd (cc (p.0, q.0))
reads_one form t bytes (PeerTable peers) (StateChange time' peer' state) p q = absurd (cc (p.0, q.1))
reads_one form t bytes (PeerTable peers) (PeerTable peers') p q =
    let same = sequence_one IsPeerField peers_free (drop (8 + number_at 2 4 bytes) bytes) peers peers' p.1.fields q.1.fields in
    ap (λ (x : List Neighbor). PeerTable x) same
reads_one form t bytes (PeerTable peers) (Rib time' prefix entries) p q = absurd (cc (p.0, q.1))
reads_one form t bytes (Rib time prefix entries) (Message time' peer' width' octets) p q = absurd (cc (p.1, q.0))
reads_one form t bytes (Rib time prefix entries) (StateChange time' peer' state) p q = absurd (cc (p.1, q.1))
reads_one form t bytes (Rib time prefix entries) (PeerTable peers) p q = absurd (cc (p.1, q.0))
reads_one form t bytes (Rib time prefix entries) (Rib time' prefix' entries') p q =
    let families : p.0 ≡ q.0 = cc (p.1, q.1) in
    let there = subst (λ (x : Family). IsRib x bytes prefix entries) families p.3 in
    let same = rib_one q.0 bytes prefix prefix' entries entries' there q.3 in
    let times : time ≡ time' = p.2 ∙ sym q.2 in
    cc (same.0, same.1, times)

-- ---- a record is reported as one item only

reported_one : (k s t : ℕ) (b : List ℕ) (f g : Form) (v w : Reading) → IsListedType k s f → IsListedType k s g → HasReading f t b v → HasReading g t b w → v ≡ w
reported_one k s t b f g v w lf lg p q =
    let same = form_one k s f g lf lg in
    reads_one g t b v w (subst (λ (x : Form). HasReading x t b v) same p) q

pub item_one : (bytes : List ℕ) (v w : Reported) → Body bytes v → Body bytes w → v ≡ w
item_one bytes (Read v) (Read w) p q =
    ap (λ (r : Reading). Read r) (reported_one (kind bytes) (subtype bytes) (moment_of bytes) (body bytes) p.0 q.0 v w p.1 q.1 p.2 q.2)
item_one bytes (Read v) (Skipped k s) p q = absurd (q.2 p.0 p.1)
item_one bytes (Read v) (Malformed k s) p q =
    let same = form_one (kind bytes) (subtype bytes) p.0 q.2 p.1 q.3 in
    absurd (q.4 v (subst (λ (x : Form). HasReading x (moment_of bytes) (body bytes) v) same p.2))
item_one bytes (Skipped k s) (Read w) p q = absurd (p.2 q.0 q.1)
item_one bytes (Skipped k s) (Skipped k' s') p q =
    let kinds : k ≡ k' = p.0 ∙ sym q.0 in
    let subtypes : s ≡ s' = p.1 ∙ sym q.1 in
    cc (kinds, subtypes)
item_one bytes (Skipped k s) (Malformed k' s') p q = absurd (p.2 q.2 q.3)
item_one bytes (Malformed k s) (Read w) p q =
    let same = form_one (kind bytes) (subtype bytes) q.0 p.2 q.1 p.3 in
    absurd (p.4 w (subst (λ (x : Form). HasReading x (moment_of bytes) (body bytes) w) same q.2))
item_one bytes (Malformed k s) (Skipped k' s') p q = absurd (q.2 p.2 p.3)
item_one bytes (Malformed k s) (Malformed k' s') p q =
    let kinds : k ≡ k' = p.0 ∙ sym q.0 in
    let subtypes : s ≡ s' = p.1 ∙ sym q.1 in
    cc (kinds, subtypes)
