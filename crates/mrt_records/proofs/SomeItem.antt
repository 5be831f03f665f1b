-- Each record is reported as an item: whether octets have a reading can be decided.
use Rattle.std.proofs.Common.{◌≡◌, ℕ, zero, suc, inl, inr, ◌+◌, ◌-◌, ◌*◌, ◌/◌, ◌<◌, ◌≤◌, List, [], ◌∷◌, ◌++◌, length, take, drop, get_or, replicate, refl, sym, ap, subst, ◌∙◌, arith}
use Rattle.std.specs.Prelude.{◌⊎◌}
use Rattle.std.proofs.lemmas.Bool.{cases_lt}
use Rattle.std.proofs.lemmas.List.{append_cancel_left, length-append, length-take, take-append-drop}
use Rattle.route_model.specs.Octets.{number_at}
use Rattle.route_model.specs.Sequence.{joined, Each, Sequence}
use Rattle.route_model.specs.Reading.{BeginsWith}
use Rattle.route_model.specs.Prefix.{IpPrefix, cleared}
use Rattle.route_model.specs.declared.address.Address.{Address}
use Rattle.route_model.specs.declared.address.Address.TheVariants.{V4, V6}
use Rattle.route_model.proofs.api.Sequences.{IsPrefixFree, empty_is, read_start, read_none, sequence_one}
use Rattle.mrt_records.specs.declared.neighbor.Neighbor.{Neighbor}
use Rattle.route_model.specs.declared.wire.AsWidth.{AsWidth}
use Rattle.route_model.specs.declared.wire.AsWidth.TheVariants as widths
use Rattle.route_model.specs.declared.wire.Family.{Family}
use Rattle.route_model.specs.declared.wire.Family.TheVariants as families
use Rattle.mrt_records.specs.declared.form.Form.{Form}
use Rattle.mrt_records.specs.declared.form.Form.TheVariants as forms
use Rattle.mrt_records.specs.Entries.{Entry, IsEntryField}
use Rattle.route_model.specs.PrefixFields.{IsPrefixField, address_size}
use Rattle.mrt_records.specs.Sessions.{family_code, IsAddressOf, IsSession, IsMessageBody, IsStateChange}
use Rattle.route_model.specs.Widths.{width_of}
use Rattle.mrt_records.specs.PeerTables.{IsPeerField, IsPeerTable, family_of_type, width_of_type}
use Rattle.mrt_records.specs.Ribs.{IsRib}
use Rattle.mrt_records.specs.Values.{Reading, Message, StateChange, PeerTable, Rib, Reported, Read, Skipped, Malformed}
use Rattle.mrt_records.specs.Records.{moment_of, kind, subtype, body}
use Rattle.mrt_records.specs.Bodies.{IsSessionKind, IsListedType, HasReading, Body}
use Rattle.route_model.proofs.api.Fronts.{number_at-append, first_octet}
use Rattle.mrt_records.proofs.Peers.{made, peers_free, peer_front}
use Rattle.mrt_records.proofs.EntryFields.{entries_free, entry_front}
use Rattle.route_model.proofs.api.PrefixFields.{prefixes_free}
use Rattle.mrt_records.proofs.Bodies.{rib_parts, rib_begins, message_none, reported_state_change, table_reported_none, rib_reported_none}
use Rattle.mrt_records.proofs.OneItem.{family_one, session_one}

same_or : (m n : ℕ) → (m ≡ n) ⊎ (m ≡ n → ⊥)
same_or m n = elim (cases_lt m n) [
  | inl less ↦ inr (λ e. omega (arith, less, e))
  | inr most ↦ elim (cases_lt n m) [ inl less ↦ inr (λ e. omega (arith, less, e)) | inr least ↦ inl (omega (arith, most, least)) ]
]

-- ---- the form

session_none : (k s : ℕ) (form : Form) → IsSessionKind k → (s ≡ 0 → ⊥) → (s ≡ 5 → ⊥) → (s ≡ 1 → ⊥) → (s ≡ 4 → ⊥) → IsListedType k s form → ⊥
session_none k s (forms.StateChange widths.Two) is a b c d p = a p.1
session_none k s (forms.StateChange widths.Four) is a b c d p = b p.1
session_none k s (forms.Message widths.Two) is a b c d p = c p.1
session_none k s (forms.Message widths.Four) is a b c d p = d p.1
session_none k s forms.PeerTable is a b c d p = elim is [ inl e ↦ omega (arith, e, p.0) | inr e ↦ omega (arith, e, p.0) ]
session_none k s (forms.Rib families.Ipv4) is a b c d p = elim is [ inl e ↦ omega (arith, e, p.0) | inr e ↦ omega (arith, e, p.0) ]
session_none k s (forms.Rib families.Ipv6) is a b c d p = elim is [ inl e ↦ omega (arith, e, p.0) | inr e ↦ omega (arith, e, p.0) ]

no_table : (k : ℕ) → k ≡ 13 → IsSessionKind k → ⊥
no_table k e is = elim is [ inl f ↦ omega (arith, e, f) | inr f ↦ omega (arith, e, f) ]

table_none : (k s : ℕ) (form : Form) → k ≡ 13 → (s ≡ 1 → ⊥) → (s ≡ 2 → ⊥) → (s ≡ 4 → ⊥) → IsListedType k s form → ⊥
table_none k s (forms.StateChange widths.Two) e a b c p = no_table k e p.0
table_none k s (forms.StateChange widths.Four) e a b c p = no_table k e p.0
table_none k s (forms.Message widths.Two) e a b c p = no_table k e p.0
table_none k s (forms.Message widths.Four) e a b c p = no_table k e p.0
table_none k s forms.PeerTable e a b c p = a p.1
table_none k s (forms.Rib families.Ipv4) e a b c p = b p.1
table_none k s (forms.Rib families.Ipv6) e a b c p = c p.1

other_none : (k s : ℕ) (form : Form) → (IsSessionKind k → ⊥) → (k ≡ 13 → ⊥) → IsListedType k s form → ⊥
other_none k s (forms.StateChange widths.Two) a b p = a p.0
other_none k s (forms.StateChange widths.Four) a b p = a p.0
other_none k s (forms.Message widths.Two) a b p = a p.0
other_none k s (forms.Message widths.Four) a b p = a p.0
other_none k s forms.PeerTable a b p = b p.0
other_none k s (forms.Rib families.Ipv4) a b p = b p.0
other_none k s (forms.Rib families.Ipv6) a b p = b p.0

abbrev Listing : ℕ → ℕ → Type 0
Listing k s = ((form : Form) × IsListedType k s form) ⊎ ((form : Form) → IsListedType k s form → ⊥)

session_listing : (k s : ℕ) → IsSessionKind k → Listing k s
session_listing k s is = elim (same_or s 0) [
  | inl e ↦ inl (forms.StateChange widths.Two, (is, e))
  | inr a ↦ elim (same_or s 5) [
    | inl e ↦ inl (forms.StateChange widths.Four, (is, e))
    | inr b ↦ elim (same_or s 1) [
      | inl e ↦ inl (forms.Message widths.Two, (is, e))
      | inr c ↦ elim (same_or s 4) [
        | inl e ↦ inl (forms.Message widths.Four, (is, e))
        | inr d ↦ inr (λ form p. session_none k s form is a b c d p)
      ]
    ]
  ]
]

table_listing : (k s : ℕ) → k ≡ 13 → Listing k s
table_listing k s is = elim (same_or s 1) [
  | inl e ↦ inl (forms.PeerTable, (is, e))
  | inr a ↦ elim (same_or s 2) [
    | inl e ↦ inl (forms.Rib families.Ipv4, (is, e))
    | inr b ↦ elim (same_or s 4) [
      | inl e ↦ inl (forms.Rib families.Ipv6, (is, e))
      | inr c ↦ inr (λ form p. table_none k s form is a b c p)
    ]
  ]
]

listing : (k s : ℕ) → Listing k s
listing k s = elim (same_or k 16) [
  | inl e ↦ session_listing k s (inl e)
  | inr a ↦ elim (same_or k 17) [
    | inl e ↦ session_listing k s (inr e)
    | inr b ↦ elim (same_or k 13) [
      | inl e ↦ table_listing k s e
      | inr c ↦ inr (λ form p. other_none k s form (λ is. elim is [ inl e ↦ a e | inr e ↦ b e ]) c p)
    ]
  ]
]

-- ---- messages and state changes

address_of : (family : Family) (bytes : List ℕ) → (a : Address) × IsAddressOf family bytes a
address_of families.Ipv4 bytes = (V4 bytes, refl)
address_of families.Ipv6 bytes = (V6 bytes, refl)

no_family : (code : ℕ) (f : Family) → (code ≡ 1 → ⊥) → (code ≡ 2 → ⊥) → code ≡ family_code f → ⊥
no_family code families.Ipv4 a b e = a e
no_family code families.Ipv6 a b e = b e

family_some : (code : ℕ) → ((f : Family) × (code ≡ family_code f)) ⊎ ((f : Family) → code ≡ family_code f → ⊥)
family_some code = elim (same_or code 1) [
  | inl e ↦ inl (families.Ipv4, e)
  | inr a ↦ elim (same_or code 2) [ inl e ↦ inl (families.Ipv6, e) | inr b ↦ inr (λ f e. no_family code f a b e) ]
]

abbrev SessionOf : AsWidth → List ℕ → Type 0
SessionOf width bytes = ((v : Neighbor) × (x : List ℕ) × IsSession width bytes v x) ⊎ ((v : Neighbor) (x : List ℕ) → IsSession width bytes v x → ⊥)

session_in : (width : AsWidth) (bytes : List ℕ) (f : Family) → number_at 2 (2 * width_of width + 2) bytes ≡ family_code f → SessionOf width bytes
session_in width bytes f code = elim (cases_lt (length bytes) (2 * width_of width + 4 + 2 * address_size f)) [
  | inl short ↦ inr (λ v x q.
      let same = family_one q.family f (sym q.code ∙ code) in
      let sizes = ap address_size same in
      omega (arith, short, q.room, sizes))
  | inr room ↦
      let there = address_of f (take (address_size f) (drop (2 * width_of width + 4) bytes)) in
      inl (
        made there.0 (number_at (width_of width) 0 bytes),
        drop (2 * width_of width + 4 + 2 * address_size f) bytes,
        record { family = f; code = code; room = room; as_number = refl; address = there.1; beyond = refl },
      )
]

session_some : (width : AsWidth) (bytes : List ℕ) → SessionOf width bytes
session_some width bytes = elim (family_some (number_at 2 (2 * width_of width + 2) bytes)) [
  | inl f ↦ session_in width bytes f.0 f.1
  | inr none ↦ inr (λ v x q. none q.family q.code)
]

message_some : (width : AsWidth) (bytes : List ℕ) → ((m : Neighbor × List ℕ) × IsMessageBody width bytes m.0 m.1) ⊎ ((m : Neighbor × List ℕ) → IsMessageBody width bytes m.0 m.1 → ⊥)
message_some width bytes = elim (session_some width bytes) [
  | inr none ↦ inr (λ m q. none m.0 m.1 q.session)
  | inl s ↦ elim (cases_lt (length s.1) 19) [
    | inl short ↦ inr (λ m q.
        let same = (session_one width bytes m.0 s.0 m.1 s.1 q.session s.2).1 in
        omega (arith, short, q.message.header, ap length same))
    | inr header ↦ elim (same_or (number_at 2 16 s.1) (length s.1)) [
      | inl e ↦ inl ((s.0, s.1), record { session = s.2; message = record { header = header; length = e } })
      | inr other ↦ inr (λ m q.
          let same = (session_one width bytes m.0 s.0 m.1 s.1 q.session s.2).1 in
          other (ap (λ (t : List ℕ). number_at 2 16 t) (sym same) ∙ q.message.length ∙ ap length same))
    ]
  ]
]

state_change_some : (width : AsWidth) (bytes : List ℕ) → ((v : Neighbor) × (n : ℕ) × IsStateChange width bytes v n) ⊎ ((v : Neighbor) (n : ℕ) → IsStateChange width bytes v n → ⊥)
state_change_some width bytes = elim (session_some width bytes) [
  | inr none ↦ inr (λ v n q. none v q.states q.session)
  | inl s ↦ elim (same_or (length s.1) 4) [
    | inl e ↦ inl (s.0, number_at 2 2 s.1, record { states = s.1; session = s.2; two = e; new = refl })
    | inr other ↦ inr (λ v n q.
        let same = (session_one width bytes v s.0 q.states s.1 q.session s.2).1 in
        other (ap length (sym same) ∙ q.two))
  ]
]

-- ---- fields that stand one after another

tail_of : {V : Type 0} (Field : List ℕ → V → Type 0) (free : IsPrefixFree Field) (f : List ℕ) (v : V) (more : List ℕ) → Field f v
    → (gs : List (List ℕ)) (ws : List V) → Each Field gs ws → f ++ more ≡ joined gs → (us : List V) × Sequence Field more us
tail_of Field free f v more is [] [] p e =
    let none : length f ≡ 0 = omega (arith, ap length e, length-append f more) in
    absurd (free.some v (subst (λ (t : List ℕ). Field t v) (empty_is f none) is))
tail_of Field free f v more is [] (w ∷ ws) p e = absurd p
tail_of Field free f v more is (g ∷ gs) [] p e = absurd p
tail_of Field free f v more is (g ∷ gs) (w ∷ ws) p e =
    let heads = free.one f g more (joined gs) v w is p.0 e in
    let tails : more ≡ joined gs = append_cancel_left f more (joined gs) (e ∙ ap (λ (t : List ℕ). t ++ joined gs) (sym heads.0)) in
    (ws, (gs, p.1, tails))

sequence_some : {V : Type 0} (Field : List ℕ → V → Type 0) (free : IsPrefixFree Field) → ((bytes : List ℕ) → BeginsWith Field bytes ⊎ (BeginsWith Field bytes → ⊥))
    → (fuel : ℕ) (bytes : List ℕ) → length bytes ≤ fuel → ((vs : List V) × Sequence Field bytes vs) ⊎ ((vs : List V) → Sequence Field bytes vs → ⊥)
sequence_some Field free front zero bytes le = inl ([], ([], tt, empty_is bytes (omega (arith, le))))
sequence_some Field free front (suc fuel) bytes le = elim (cases_lt 0 (length bytes)) [
  | inr none ↦ inl ([], ([], tt, empty_is bytes (omega (arith, none))))
  | inl some ↦ elim (front bytes) [
    | inr none ↦ inr (λ vs q. read_none Field free bytes bytes [] (read_start Field bytes) none some vs q)
    | inl b ↦
        let size : length bytes ≡ length b.field + length b.more = ap length b.parts ∙ length-append b.field b.more in
        let taken : 0 < length b.field = elim (cases_lt 0 (length b.field)) [
          | inl lt ↦ lt
          | inr ge ↦ absurd (free.some b.value (subst (λ (t : List ℕ). Field t b.value) (empty_is b.field (omega (arith, ge))) b.is_field))
        ] in
        elim (sequence_some Field free front fuel b.more (omega (arith, le, size, taken))) [
          | inl s ↦ inl (b.value ∷ s.0, (b.field ∷ s.1.0, (b.is_field, s.1.1), b.parts ∙ ap (λ (t : List ℕ). b.field ++ t) s.1.2))
          | inr none ↦ inr (λ vs q.
              let tail = tail_of Field free b.field b.value b.more b.is_field q.0 vs q.1 (sym b.parts ∙ q.2) in
              none tail.0 tail.1)
        ]
  ]
]

-- ---- peer tables

peer_some : (bytes : List ℕ) → BeginsWith IsPeerField bytes ⊎ (BeginsWith IsPeerField bytes → ⊥)
peer_some bytes =
    let family = family_of_type (get_or bytes 0 0) in
    let width = width_of_type (get_or bytes 0 0) in
    let size = 5 + address_size family + width_of width in
    elim (cases_lt (length bytes) size) [
      | inl short ↦ inr (λ b.
          let room : length bytes ≡ length b.field + length b.more = ap length b.parts ∙ length-append b.field b.more in
          let first : get_or bytes 0 0 ≡ get_or b.field 0 0 = ap (λ (t : List ℕ). get_or t 0 0) b.parts ∙ first_octet b.field b.more (omega (arith, b.is_field.size)) in
          let sizes = ap (λ (t : ℕ). 5 + address_size (family_of_type t) + width_of (width_of_type t)) first in
          omega (arith, short, room, b.is_field.size, sizes))
      | inr room ↦
          let there = address_of family (take (address_size family) (drop 5 bytes)) in inl (record {
            field = take size bytes;
            value = made there.0 (number_at (width_of width) (5 + address_size family) bytes);
            more = drop size bytes;
            is_field = peer_front bytes family width there.0 (number_at (width_of width) (5 + address_size family) bytes) room refl refl there.1 refl;
            parts = sym (take-append-drop size bytes);
          })
    ]

peer_table_some : (bytes : List ℕ) → ((ws : List Neighbor) × IsPeerTable bytes ws) ⊎ ((ws : List Neighbor) → IsPeerTable bytes ws → ⊥)
peer_table_some bytes = elim (cases_lt (length bytes) (8 + number_at 2 4 bytes)) [
  | inl short ↦ inr (λ ws q. omega (arith, short, q.name))
  | inr name ↦
      let rest = drop (8 + number_at 2 4 bytes) bytes in
      elim (sequence_some IsPeerField peers_free peer_some (length rest) rest (omega arith)) [
        | inr none ↦ inr (λ ws q. none ws q.fields)
        | inl s ↦ elim (same_or (length s.0) (number_at 2 (6 + number_at 2 4 bytes) bytes)) [
          | inl e ↦ inl (s.0, record { name = name; count = e; fields = s.1 })
          | inr other ↦ inr (λ ws q. other (ap length (sequence_one IsPeerField peers_free rest s.0 ws s.1 q.fields) ∙ q.count))
        ]
      ]
]

-- ---- RIB records

entry_some : (bytes : List ℕ) → BeginsWith IsEntryField bytes ⊎ (BeginsWith IsEntryField bytes → ⊥)
entry_some bytes =
    let size = number_at 2 6 bytes in
    elim (cases_lt (length bytes) (8 + size)) [
      | inl short ↦ inr (λ b.
          let room : length bytes ≡ length b.field + length b.more = ap length b.parts ∙ length-append b.field b.more in
          let same : number_at 2 6 bytes ≡ number_at 2 6 b.field = ap (λ (t : List ℕ). number_at 2 6 t) b.parts ∙ number_at-append 2 6 b.field b.more (omega (arith, b.is_field.room)) in
          omega (arith, short, room, same, b.is_field.size))
      | inr room ↦ inl (record {
        field = take (8 + size) bytes;
        value = record { peer_index = number_at 2 0 bytes; attributes = take size (drop 8 bytes) };
        more = drop (8 + size) bytes;
        is_field = entry_front bytes size (number_at 2 0 bytes) room refl refl;
        parts = sym (take-append-drop (8 + size) bytes);
      })
    ]

abbrev prefix_in : Family → ℕ → List ℕ → IpPrefix
prefix_in families.Ipv4 n bytes = record { address = V4 (cleared n bytes); length = n }
prefix_in families.Ipv6 n bytes = record { address = V6 (cleared n bytes); length = n }

abbrev filled_front : Family → ℕ → List ℕ → List ℕ
filled_front of n field = drop 1 field ++ replicate (address_size of - (n + 7) / 8) 0

prefix_there : (of : Family) (field : List ℕ) → 0 < length field → get_or field 0 0 ≤ 8 * address_size of → length field ≡ 1 + (get_or field 0 0 + 7) / 8
    → IsPrefixField of field (prefix_in of (get_or field 0 0) (filled_front of (get_or field 0 0) field))
prefix_there families.Ipv4 field some limit size = record { some = some; family = refl; bits = refl; limit = limit; size = size; address = refl }
prefix_there families.Ipv6 field some limit size = record { some = some; family = refl; bits = refl; limit = limit; size = size; address = refl }

prefix_fits : (of : Family) (bytes : List ℕ) → (b : BeginsWith (IsPrefixField of) bytes) → (get_or bytes 0 0 ≤ 8 * address_size of) × (1 + (get_or bytes 0 0 + 7) / 8 ≤ length bytes)
prefix_fits of bytes b =
    let first : get_or bytes 0 0 ≡ get_or b.field 0 0 = ap (λ (t : List ℕ). get_or t 0 0) b.parts ∙ first_octet b.field b.more b.is_field.some in
    let bits : get_or bytes 0 0 ≡ b.value.length = first ∙ sym b.is_field.bits in
    let need : (get_or bytes 0 0 + 7) / 8 ≡ (b.value.length + 7) / 8 = ap (λ (n : ℕ). (n + 7) / 8) bits in
    let room : length bytes ≡ length b.field + length b.more = ap length b.parts ∙ length-append b.field b.more in
    (omega (arith, bits, b.is_field.limit), omega (arith, need, room, b.is_field.size))

prefix_some : (of : Family) (bytes : List ℕ) → BeginsWith (IsPrefixField of) bytes ⊎ (BeginsWith (IsPrefixField of) bytes → ⊥)
prefix_some of bytes =
    let n = get_or bytes 0 0 in
    let size = 1 + (n + 7) / 8 in
    elim (cases_lt (8 * address_size of) n) [
      | inl above ↦ inr (λ b. omega (arith, above, (prefix_fits of bytes b).0))
      | inr limit ↦ elim (cases_lt (length bytes) size) [
        | inl short ↦ inr (λ b. omega (arith, short, (prefix_fits of bytes b).1))
        | inr room ↦
            let len : length (take size bytes) ≡ size = omega (arith, length-take size bytes, room) in
            let first : get_or (take size bytes) 0 0 ≡ n = sym (first_octet (take size bytes) (drop size bytes) (omega (arith, len))) ∙ ap (λ (t : List ℕ). get_or t 0 0) (take-append-drop size bytes) in
            let need : (get_or (take size bytes) 0 0 + 7) / 8 ≡ (n + 7) / 8 = ap (λ (m : ℕ). (m + 7) / 8) first in inl (record {
              field = take size bytes;
              value = prefix_in of (get_or (take size bytes) 0 0) (filled_front of (get_or (take size bytes) 0 0) (take size bytes));
              more = drop size bytes;
              is_field = prefix_there of (take size bytes) (omega (arith, len)) (omega (arith, limit, first)) (omega (arith, len, need));
              parts = sym (take-append-drop size bytes);
            })
      ]
    ]

abbrev RibOf : Family → List ℕ → Type 0
RibOf of bytes = ((r : IpPrefix × List Entry) × IsRib of bytes r.0 r.1) ⊎ ((r : IpPrefix × List Entry) → IsRib of bytes r.0 r.1 → ⊥)

-- the rest after a prefix is one
rest_one : (of : Family) (bytes : List ℕ) (b : BeginsWith (IsPrefixField of) (drop 4 bytes)) (r : IpPrefix × List Entry) → (q : IsRib of bytes r.0 r.1) → q.rest ≡ b.more
rest_one of bytes b r q =
    let whole : b.field ++ b.more ≡ q.field ++ q.rest = sym b.parts ∙ rib_parts of bytes (drop 4 bytes) r.0 r.1 refl q in
    let same = (prefixes_free of).one b.field q.field b.more q.rest b.value r.0 b.is_field q.is_prefix whole in
    append_cancel_left b.field q.rest b.more (ap (λ (t : List ℕ). t ++ q.rest) same.0 ∙ sym whole)

rib_in : (of : Family) (bytes : List ℕ) → 4 ≤ length bytes → BeginsWith (IsPrefixField of) (drop 4 bytes) → RibOf of bytes
rib_in of bytes least b = elim (cases_lt (length b.more) 2) [
  | inl short ↦ inr (λ r q. omega (arith, short, q.room, ap length (rest_one of bytes b r q)))
  | inr room ↦ elim (sequence_some IsEntryField entries_free entry_some (length (drop 2 b.more)) (drop 2 b.more) (omega arith)) [
    | inr none ↦ inr (λ r q. none r.1 (subst (λ (t : List ℕ). Sequence IsEntryField (drop 2 t) r.1) (rest_one of bytes b r q) q.are_entries))
    | inl s ↦ elim (same_or (length s.0) (number_at 2 0 b.more)) [
      | inl e ↦ inl (
        (b.value, s.0),
        record {
          number = take 4 bytes;
          field = b.field;
          rest = b.more;
          parts = sym (take-append-drop 4 bytes) ∙ ap (λ (t : List ℕ). take 4 bytes ++ t) b.parts;
          four = omega (arith, length-take 4 bytes, least);
          is_prefix = b.is_field;
          room = room;
          count = e;
          are_entries = s.1;
        },
      )
      | inr other ↦ inr (λ r q.
          let rests = rest_one of bytes b r q in
          let there = subst (λ (t : List ℕ). Sequence IsEntryField (drop 2 t) r.1) rests q.are_entries in
          let same = sequence_one IsEntryField entries_free (drop 2 b.more) s.0 r.1 s.1 there in
          other (ap length same ∙ q.count ∙ ap (λ (t : List ℕ). number_at 2 0 t) rests))
    ]
  ]
]

rib_some : (of : Family) (bytes : List ℕ) → RibOf of bytes
rib_some of bytes = elim (cases_lt (length bytes) 4) [
  | inl short ↦ inr (λ r q. omega (arith, short, q.four, ap length q.parts, length-append q.number (q.field ++ q.rest)))
  | inr least ↦ elim (prefix_some of (drop 4 bytes)) [
    | inr none ↦ inr (λ r q. none (rib_begins of bytes (drop 4 bytes) r.0 r.1 refl q))
    | inl b ↦ rib_in of bytes least b
  ]
]

-- ---- a body, and a record

abbrev Outcome : Form → ℕ → List ℕ → Type 0
Outcome form t bytes = ((r : Reading) × HasReading form t bytes r) ⊎ ((r : Reading) → HasReading form t bytes r → ⊥)

reads_some : (form : Form) (t : ℕ) (bytes : List ℕ) → Outcome form t bytes
reads_some (forms.Message width) t bytes = elim (message_some width bytes) [
  | inl m ↦ inl (Message t m.0.0 width m.0.1, (refl, refl, m.1))
  | inr none ↦ inr (λ r q. message_none (forms.Message width) width t bytes (Read r) refl none q)
]
reads_some (forms.StateChange width) t bytes = elim (state_change_some width bytes) [
  | inl s ↦ inl (StateChange t s.0 s.1, (width, refl, refl, s.2))
  | inr none ↦ inr (λ r q. reported_state_change (forms.StateChange width) width t bytes (Read r) refl none q)
]
reads_some forms.PeerTable t bytes = elim (peer_table_some bytes) [
  | inl p ↦ inl (PeerTable p.0, (refl, p.1))
  | inr none ↦ inr (λ r q. table_reported_none forms.PeerTable t bytes (Read r) refl none q)
]
reads_some (forms.Rib family) t bytes = elim (rib_some family bytes) [
  | inl b ↦ inl (Rib t b.0.0 b.0.1, (family, refl, refl, b.1))
  | inr none ↦ inr (λ r q. rib_reported_none (forms.Rib family) family t bytes (Read r) refl none q)
]

pub item_some : (bytes : List ℕ) → (v : Reported) × Body bytes v
item_some bytes = elim (listing (kind bytes) (subtype bytes)) [
  | inr none ↦ (Skipped (kind bytes) (subtype bytes), (refl, refl, none))
  | inl f ↦ elim (reads_some f.0 (moment_of bytes) (body bytes)) [
    | inl r ↦ (Read r.0, (f.0, f.1, r.1))
    | inr none ↦ (Malformed (kind bytes) (subtype bytes), (refl, refl, f.0, f.1, none))
  ]
]
