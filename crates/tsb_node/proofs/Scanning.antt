-- Going over the entries of a leaf from the first on.
use Rattle.std.proofs.Common.{◌≡◌, ℕ, zero, suc, ◌+◌, ◌<◌, ◌≤◌, List, [], ◌∷◌, ◌++◌, length, take, drop, slice_get, slice_index, append_assoc, Option, Some, None, refl, sym, ap, subst, ◌∙◌, arith}
use Rattle.std.specs.List.{AllByRecursion}
use Rattle.std.proofs.lemmas.List.{length-append}
use Rattle.std.proofs.lemmas.Option.{slice_get_within}
use Rattle.tsb_node.specs.inner.Fields.{number_in}
use Rattle.version_model.specs.Versions.{Version, AsOf, IsRising}
use Rattle.version_model.specs.declared.bounds.Bounds.{Bounds}
use Rattle.tsb_node.specs.Leaves.{LeafNode, BeginsAsWrittenLeaf, entry, entries, IsVersionOf}
use Rattle.tsb_node.specs.inner.Reading.{value_size, value_in, version_in, versions_in, after, after_version, area}
use Rattle.std.specs.Ordering.{nat_cmp, is_le}
use Rattle.std.proofs.Common.{inl, inr, true}
use Rattle.std.proofs.lemmas.Bool.{eq-eqb, ne_eqb, cases_order, lt-ltb, le-ltb}
use Rattle.tsb_node.specs.declared.leaf.FoundVersion.{FoundVersion}
use Rattle.tsb_node.specs.Finding.{version_found}
use Rattle.tsb_node.specs.inner.Scanning.{Counts, NoneFrom, IsLast, IsWholeVersion, IsBroken}
use Rattle.tsb_node.proofs.Entries.{entry-size, entry_read, after-next, version_at, versions_in-size}
use Rattle.tsb_node.proofs.Places.{NoneFrom-more, holds_last}
use Rattle.tsb_node.proofs.Leaves.{pad_of, leaf_represents, leaf_area, leaf_versions}

pub key_decoded : (bytes : List ℕ) → (version_in bytes).key ≡ number_in 40 0 bytes
unfolding version_in
key_decoded bytes = refl

pub stamp_decoded : (bytes : List ℕ) → (version_in bytes).stamp ≡ number_in 16 40 bytes
unfolding version_in
stamp_decoded bytes = refl

pub value_decoded : (bytes : List ℕ) → (version_in bytes).value ≡ value_in bytes
unfolding version_in
value_decoded bytes = refl

pub is_le_to : (a b : ℕ) → a ≤ b → is_le (nat_cmp a b) ≡ true
is_le_to a b le = elim (cases_order a b) [
  | inl same ↦ rw (le-ltb a b (omega arith), eq-eqb a b same) refl
  | inr other ↦ elim other [ inl lt ↦ rw (lt-ltb a b lt) refl | inr gt ↦ absurd (omega arith) ]
]

pub value_none : (bytes : List ℕ) → slice_index bytes 56 ≡ 0 → value_in bytes ≡ None
value_none bytes e = rw (eq-eqb (slice_index bytes 56) 0 e) refl

pub value_some : (bytes : List ℕ) → (slice_index bytes 56 ≡ 0 → ⊥) → value_in bytes ≡ Some (take (value_size bytes) (drop 59 bytes))
value_some bytes never = rw (ne_eqb (slice_index bytes 56) 0 never) refl

-- what is read of the entry at the front is a version of the key
pub found_is : (vs : List Version) (key s : ℕ) (rest : List ℕ) (found : FoundVersion) (bytes : List ℕ) → bytes ≡ rest → found.stamp ≡ (version_in bytes).stamp → found.value ≡ (version_in bytes).value
    → AsOf vs key s (version_in rest) → AsOf vs key s (version_found key found)
found_is vs key s rest found bytes e stamp value holds =
    let k : key ≡ (version_in rest).key = sym holds.of_key in
    let st : found.stamp ≡ (version_in rest).stamp = stamp ∙ ap (λ (t : List ℕ). (version_in t).stamp) e in
    let va : found.value ≡ (version_in rest).value = value ∙ ap (λ (t : List ℕ). (version_in t).value) e in
    let same : version_found key found ≡ version_in rest = λ i. record { key = k i; stamp = st i; value = va i } in
    subst (λ (v : Version). AsOf vs key s v) (sym same) holds

pub counts : (key s : ℕ) (bytes : List ℕ) → number_in 40 0 bytes ≡ key → number_in 16 40 bytes ≤ s → Counts key s (version_in bytes)
counts key s bytes k le = record { of_key = key_decoded bytes ∙ k; not_after = omega (arith, stamp_decoded bytes) }

pub counted : (key s : ℕ) (bytes : List ℕ) → Counts key s (version_in bytes) → (number_in 40 0 bytes ≡ key) × (number_in 16 40 bytes ≤ s)
counted key s bytes c = (sym (key_decoded bytes) ∙ c.of_key, omega (arith, stamp_decoded bytes, c.not_after))

pub scan_start : (count key s : ℕ) (bytes : List ℕ) → (bytes ≡ after 0 bytes) × IsLast (versions_in count bytes) bytes key s 0 None
unfolding after
scan_start count key s bytes = (refl, record { none = λ k v above below at counts. absurd (omega arith) })

pub scan_on : (i : ℕ) (rest bytes : List ℕ) → rest ≡ after i bytes → drop (59 + value_size rest) rest ≡ after (i + 1) bytes
scan_on i rest bytes e =
    let next : after (suc i) bytes ≡ after_version (after i bytes) = after-next i bytes in
    let one : suc i ≡ i + 1 = omega arith in
    ap after_version e ∙ sym next ∙ ap (λ (n : ℕ). after n bytes) one

at_place : (count i : ℕ) (rest bytes : List ℕ) → i < count → rest ≡ after i bytes → slice_get (versions_in count bytes) i ≡ Some (version_in rest)
at_place count i rest bytes lt e = version_at count i bytes lt ∙ ap (λ (t : List ℕ). Some (version_in t)) (sym e)

pub scan_yes : (count i key s : ℕ) (rest bytes : List ℕ) → i < count → rest ≡ after i bytes → Counts key s (version_in rest) → IsWholeVersion rest
    → IsLast (versions_in count bytes) bytes key s (i + 1) (Some rest)
scan_yes count i key s rest bytes lt e is whole = record {
  place = i;
  below = omega arith;
  at = e;
  counts = is;
  none = record { none = λ k v above below at c. absurd (omega arith) };
  whole = whole;
}

pub scan_no : (count i key s : ℕ) (rest bytes : List ℕ) (best : Option (List ℕ)) → i < count → rest ≡ after i bytes → (Counts key s (version_in rest) → ⊥)
    → IsLast (versions_in count bytes) bytes key s i best → IsLast (versions_in count bytes) bytes key s (i + 1) best
scan_no count i key s rest bytes None lt e never h = NoneFrom-more (versions_in count bytes) key s 0 i (version_in rest) h (at_place count i rest bytes lt e) never
scan_no count i key s rest bytes (Some found) lt e never h = record {
  place = h.place;
  below = omega (arith, h.below);
  at = h.at;
  counts = h.counts;
  none = NoneFrom-more (versions_in count bytes) key s (h.place + 1) i (version_in rest) h.none (at_place count i rest bytes lt e) never;
  whole = h.whole;
}

-- ---- of a leaf

-- what was scanned to the end holds
pub scanned : (leaf : LeafNode) (octets : List ℕ) (key s : ℕ) (rest : List ℕ) → BeginsAsWrittenLeaf leaf octets
    → IsLast (versions_in (number_in 2 4 octets) (area octets)) (area octets) key s (number_in 2 4 octets) (Some rest) → AsOf leaf.versions key s (version_in rest)
scanned leaf octets key s rest is h =
    let count : ℕ = number_in 2 4 octets in
    let vs : List Version = versions_in count (area octets) in
    let same : vs ≡ leaf.versions = leaf_versions leaf octets is in
    let rising : IsRising vs = subst IsRising (sym same) is.valid.rising in
    let all : length vs ≡ count = versions_in-size count (area octets) in
    let none : NoneFrom vs key s (h.place + 1) (length vs) = subst (λ (n : ℕ). NoneFrom vs key s (h.place + 1) n) (sym all) h.none in
    subst (λ (t : List Version). AsOf t key s (version_in rest)) same
    (holds_last vs key s h.place (version_in rest) rising (at_place count h.place rest (area octets) h.below h.at) h.counts none)

pub scanned_none : (leaf : LeafNode) (octets : List ℕ) (key s : ℕ) → BeginsAsWrittenLeaf leaf octets
    → NoneFrom (versions_in (number_in 2 4 octets) (area octets)) key s 0 (number_in 2 4 octets) → (v : Version) → AsOf leaf.versions key s v → ⊥
scanned_none leaf octets key s is none v holds =
    let count : ℕ = number_in 2 4 octets in
    let vs : List Version = versions_in count (area octets) in
    let same : vs ≡ leaf.versions = leaf_versions leaf octets is in
    let here : slice_get vs holds.has.place ≡ Some v = ap (λ (t : List Version). slice_get t holds.has.place) same ∙ holds.has.is in
    let below : holds.has.place < count = omega (arith, slice_get_within vs holds.has.place v here, versions_in-size count (area octets)) in
    none.none holds.has.place v (omega arith) below here (record { of_key = holds.of_key; not_after = holds.not_after })

-- each version of a leaf is whole
whole_encoded : (b : Bounds) (n : ℕ) (vs : List Version) (rest : List ℕ) → AllByRecursion (IsVersionOf b) vs → n < length vs → IsWholeVersion (after n (entries vs ++ rest))
unfolding after entries
whole_encoded b n [] rest all lt = absurd (omega arith)
whole_encoded b zero (v ∷ vs) rest all lt =
    let e : entries (v ∷ vs) ++ rest ≡ entry v ++ (entries vs ++ rest) = append_assoc (entry v) (entries vs) rest in
    let r = entry_read b v (entries vs ++ rest) all.0 in
    let long = length-append (entry v) (entries vs ++ rest) in
    subst IsWholeVersion (sym e) (omega (arith, r.size, long, entry-size v))
whole_encoded b (suc n) (v ∷ vs) rest all lt =
    let e : entries (v ∷ vs) ++ rest ≡ entry v ++ (entries vs ++ rest) = append_assoc (entry v) (entries vs) rest in
    let r = entry_read b v (entries vs ++ rest) all.0 in
    let same : after (suc n) (entries (v ∷ vs) ++ rest) ≡ after n (entries vs ++ rest) = ap (after (suc n)) e ∙ ap (after n) r.beyond in
    subst IsWholeVersion (sym same) (whole_encoded b n vs rest all.1 (omega arith))

pub leaf_whole : (leaf : LeafNode) (octets : List ℕ) (k : ℕ) → BeginsAsWrittenLeaf leaf octets → k < number_in 2 4 octets → IsWholeVersion (after k (area octets))
leaf_whole leaf octets k is lt =
    let represents_node = leaf_represents leaf octets is in
    subst (λ (t : List ℕ). IsWholeVersion (after k t)) (sym (leaf_area leaf octets is)) (whole_encoded leaf.bounds k leaf.versions (pad_of leaf) is.valid.each (omega (arith, lt, represents_node.count_is)))

-- so what has one that isn't whole is no leaf
pub broken_none : (leaf : LeafNode) (octets : List ℕ) → IsBroken (area octets) (number_in 2 4 octets) → BeginsAsWrittenLeaf leaf octets → ⊥
broken_none leaf octets broken is = broken.broken (leaf_whole leaf octets broken.place is broken.below)
