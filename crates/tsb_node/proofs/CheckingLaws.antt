-- Entries are checked from the first on.
use Rattle.std.proofs.Common.{◌≡◌, ℕ, zero, suc, ◌+◌, ◌<◌, ◌≤◌, ◌⊎◌, inl, inr, List, [], ◌∷◌, ◌++◌, length, take, drop, slice_index, slice_get, Option, Some, None, refl, sym, ap, subst, ◌∙◌, append_assoc, arith}
use Rattle.std.specs.List.{flat_map, AllByRecursion}
use Rattle.std.specs.Option.{IfSome}
use Rattle.std.proofs.lemmas.Bool.{cases_order}
use Rattle.std.proofs.lemmas.List.{append-nil, length-append, length-take, length-drop, take-append-drop, take_at}
use Rattle.std.proofs.lemmas.Option.{slice_get_within, same_Some, none-some}
use Rattle.route_model.specs.Octets.{AreOctets}
use Rattle.tsb_node.specs.Numbers.{octets_of}
use Rattle.tsb_node.specs.inner.Fields.{number_in}
use Rattle.version_model.specs.declared.bounds.Bounds.{Bounds}
use Rattle.version_model.specs.Versions.{Version, Has, IsRising, IsAbove}
use Rattle.tsb_node.specs.Leaves.{tag, value_encoded, entry, entries, IsVersionOf}
use Rattle.tsb_node.specs.inner.Reading.{value_size, value_in, version_in, versions_in, after_version, after}
use Rattle.tsb_node.specs.inner.Scanning.{IsWholeVersion}
use Rattle.tsb_node.specs.inner.Checking.{IsEncoded, AreEntries, IsAfter}
use Rattle.tsb_node.proofs.Entries.{entry_read, entry-size, entries_read, after-next, after_encoded, version_at, versions_in-size}
use Rattle.tsb_node.proofs.HeaderLaws.{are-drop, are-take, again_in, number_in-lt, take_on}
use Rattle.version_model.proofs.api.Pushed.{IsRising-push}
use Rattle.tsb_node.proofs.Laying.{entries-push, all_push}
use Rattle.tsb_node.proofs.Scanning.{key_decoded, stamp_decoded, value_decoded, value_none, value_some}

-- ---- one entry

pub tag-le : (o : Option (List ℕ)) → tag o ≤ 1
tag-le None = omega arith
tag-le (Some v) = omega arith

-- what the value at the front is, by its tag
pub record ValueIs (bytes : List ℕ) : Type 0 where
  pub octets : value_encoded (value_in bytes) ≡ take (value_size bytes) (drop 59 bytes)
  pub tagged : tag (value_in bytes) ≡ slice_index bytes 56

take_none : (n : ℕ) (xs : List ℕ) → n ≡ 0 → take n xs ≡ []
take_none n xs e = ap (λ (m : ℕ). take m xs) e

pub value_is : (bytes : List ℕ) → slice_index bytes 56 ≤ 1 → (slice_index bytes 56 ≡ 0 → value_size bytes ≡ 0) → ValueIs bytes
value_is bytes le end = elim (cases_order (slice_index bytes 56) 0) [
  | inl zero_tag ↦ record {
    octets = ap value_encoded (value_none bytes zero_tag) ∙ sym (take_none (value_size bytes) (drop 59 bytes) (end zero_tag));
    tagged = ap tag (value_none bytes zero_tag) ∙ sym zero_tag;
  }
  | inr other ↦ (let some = value_some bytes (λ e. omega (arith, e, other)) in record { octets = ap value_encoded some; tagged = ap tag some ∙ (let e : 1 ≡ slice_index bytes 56 = omega (arith, other) in e) })
]

pub one_octet : (xs : List ℕ) (n : ℕ) → n < length xs → take 1 (drop n xs) ≡ slice_index xs n ∷ []
one_octet [] n lt = absurd (omega arith)
one_octet (x ∷ xs) zero lt = refl
one_octet (x ∷ xs) (suc n) lt = one_octet xs n (omega arith)

pub encoded_here : (b : Bounds) (bytes : List ℕ) → AreOctets bytes → IsWholeVersion bytes → value_size bytes ≤ 3072 → slice_index bytes 56 ≤ 1 → (slice_index bytes 56 ≡ 0 → value_size bytes ≡ 0)
    → b.low ≤ number_in 40 0 bytes → IfSome b.high (λ n. number_in 40 0 bytes < n) → IsEncoded b bytes
unfolding entry
encoded_here b bytes are whole small le end low high =
    let v : ValueIs bytes = value_is bytes le end in
    let n : ℕ = value_size bytes in
    let len : length (take n (drop 59 bytes)) ≡ n = omega (arith, length-take n (drop 59 bytes), length-drop 59 bytes, whole) in
    let size : length (value_encoded (value_in bytes)) ≡ n = ap length v.octets ∙ len in
    let k = again_in 40 0 bytes are (omega (arith, whole)) in
    let s = again_in 16 40 bytes are (omega (arith, whole)) in
    let t : take 1 (drop 56 bytes) ≡ tag (value_in bytes) ∷ [] = one_octet bytes 56 (omega (arith, whole)) ∙ ap (λ (x : ℕ). x ∷ []) (sym v.tagged) in
    let l : octets_of 2 (length (value_encoded (value_in bytes))) ≡ take 2 (drop 57 bytes) = ap (octets_of 2) size ∙ again_in 2 57 bytes are (omega (arith, whole)) in
    record {
      whole = whole;
      valid = record {
        short = record { low = rw (key_decoded bytes) low; high = rw (key_decoded bytes) high; size = rw (value_decoded bytes) (omega (arith, size)) };
        key = rw (key_decoded bytes) (number_in-lt 40 0 bytes are (omega (arith, whole)));
        stamp = rw (stamp_decoded bytes) (number_in-lt 16 40 bytes are (omega (arith, whole)));
        octets = rw (value_decoded bytes, v.octets) (are-take n (drop 59 bytes) (are-drop 59 bytes are));
      };
      encoded = rw (key_decoded bytes, stamp_decoded bytes, value_decoded bytes)
          (rw (take_on 59 n bytes, take_on 57 2 bytes, take_on 56 1 bytes, take_on 40 16 bytes, k, s, t, l, v.octets) refl);
    }

-- the octets are the entry and what follows it
pub is_front : (b : Bounds) (bytes : List ℕ) → IsEncoded b bytes → bytes ≡ entry (version_in bytes) ++ after_version bytes
is_front b bytes sp = sym (take-append-drop (59 + value_size bytes) bytes) ∙ ap (λ (t : List ℕ). t ++ after_version bytes) sp.encoded

pub encoded_reads : (b : Bounds) (bytes : List ℕ) → IsEncoded b bytes → (slice_index bytes 56 ≡ tag (version_in bytes).value) × (value_size bytes ≡ length (value_encoded (version_in bytes).value))
encoded_reads b bytes sp =
    let r = entry_read b (version_in bytes) (after_version bytes) sp.valid in
    let e = is_front b bytes sp in
    (ap (λ (t : List ℕ). slice_index t 56) e ∙ r.tagged, ap value_size e ∙ r.size)

pub end_is_empty : (o : Option (List ℕ)) → tag o ≡ 0 → length (value_encoded o) ≡ 0
end_is_empty None e = refl
end_is_empty (Some v) e = absurd (omega (arith, e))

-- an encoded version is an entry
pub is_encoded : (b : Bounds) (v : Version) (rest : List ℕ) → IsVersionOf b v → IsEncoded b (entry v ++ rest)
is_encoded b v rest is =
    let r = entry_read b v rest is in
    let size : 59 + value_size (entry v ++ rest) ≡ length (entry v) = omega (arith, r.size, entry-size v) in
    record {
      whole = omega (arith, size, length-append (entry v) rest);
      valid = subst (IsVersionOf b) (sym r.is) is;
      encoded = take_at (entry v) rest (59 + value_size (entry v ++ rest)) (sym size) ∙ ap entry (sym r.is);
    }

-- ---- many

pub versions_more : (n : ℕ) (bytes : List ℕ) → versions_in (suc n) bytes ≡ versions_in n bytes ++ version_in (after n bytes) ∷ []
unfolding versions_in after
versions_more zero bytes = refl
versions_more (suc n) bytes = ap (λ (t : List Version). version_in bytes ∷ t) (versions_more n (after_version bytes))

-- the last stamp of those that were read
abbrev pub LastIs : List Version → Option ℕ → Type 0
LastIs vs None = vs ≡ []
LastIs vs (Some s) = ((v : Version) → Has vs v → v.stamp ≤ s) × ((w : Version) × Has vs w × (w.stamp ≡ s))

pub record Checked (b : Bounds) (bytes rest : List ℕ) (n : ℕ) (last : Option ℕ) : Type 0 where
  pub at : rest ≡ after n bytes
  pub whole : bytes ≡ entries (versions_in n bytes) ++ rest
  pub each : AllByRecursion (IsVersionOf b) (versions_in n bytes)
  pub rising : IsRising (versions_in n bytes)
  pub newest : LastIs (versions_in n bytes) last

pub check_start : (b : Bounds) (bytes : List ℕ) → Checked b bytes bytes 0 None
unfolding after versions_in entries
check_start b bytes = record { at = refl; whole = refl; each = tt; rising = record { rises = λ i j v w lt at_i. absurd (none-some v at_i) }; newest = refl }

above_last : (vs : List Version) (last : Option ℕ) (s : ℕ) → LastIs vs last → IsAfter s last → IsAbove vs s
above_last vs None s e is = record { above = λ v h. absurd (none-some v (sym (ap (λ (t : List Version). slice_get t h.place) e) ∙ h.is)) }
above_last vs (Some l) s e is = record { above = λ v h. omega (arith, e.0 v h, is) }

get_last : (vs : List Version) (v : Version) → slice_get (vs ++ v ∷ []) (length vs) ≡ Some v
get_last [] v = refl
get_last (w ∷ vs) v = get_last vs v

get_cases : (vs : List Version) (v w : Version) (k : ℕ) → slice_get (vs ++ v ∷ []) k ≡ Some w → (slice_get vs k ≡ Some w) ⊎ (w ≡ v)
get_cases [] v w zero e = inr (sym (same_Some v w e))
get_cases [] v w (suc k) e = absurd (none-some w e)
get_cases (x ∷ vs) v w zero e = inl e
get_cases (x ∷ vs) v w (suc k) e = get_cases vs v w k e

pub check_on : (b : Bounds) (bytes rest : List ℕ) (n : ℕ) (last : Option ℕ) → Checked b bytes rest n last → IsEncoded b rest → IsAfter (number_in 16 40 rest) last
    → Checked b bytes (after_version rest) (n + 1) (Some (number_in 16 40 rest))
check_on b bytes rest n last c sp is =
    let vs : List Version = versions_in n bytes in
    let v : Version = version_in rest in
    let s : ℕ = number_in 16 40 rest in
    let next : suc n ≡ n + 1 = omega arith in
    let more : versions_in (n + 1) bytes ≡ vs ++ v ∷ [] =
    ap (λ (m : ℕ). versions_in m bytes) (sym next) ∙ versions_more n bytes ∙ ap (λ (t : List ℕ). vs ++ version_in t ∷ []) (sym c.at) in
    let above : IsAbove vs v.stamp = rw (stamp_decoded rest) (above_last vs last s c.newest is) in
    record {
      at = ap after_version c.at ∙ sym (after-next n bytes) ∙ ap (λ (m : ℕ). after m bytes) next;
      whole = c.whole ∙ ap (λ (t : List ℕ). entries vs ++ t) (is_front b rest sp) ∙ sym (append_assoc (entries vs) (entry v) (after_version rest))
          ∙ ap (λ (t : List ℕ). t ++ after_version rest) (sym (entries-push vs v) ∙ ap entries (sym more));
      each = subst (AllByRecursion (IsVersionOf b)) (sym more) (all_push (IsVersionOf b) vs v c.each sp.valid);
      rising = subst IsRising (sym more) (IsRising-push vs v c.rising above);
      newest = subst (λ (t : List Version). LastIs t (Some s)) (sym more) (
        λ w h. elim (get_cases vs v w h.place h.is) [
          | inl old ↦ (let lt = above.above w (record { place = h.place; is = old }) in omega (arith, stamp_decoded rest))
          | inr new ↦ omega (arith, ap (λ (x : Version). x.stamp) new, stamp_decoded rest)
        ],
        (v, record { place = length vs; is = get_last vs v }, stamp_decoded rest),
      );
    }

pub check_end : (b : Bounds) (bytes rest : List ℕ) (count : ℕ) (last : Option ℕ) → Checked b bytes rest count last → length rest ≡ 0 → AreEntries b count bytes
check_end b bytes rest count last c none = record {
  versions = versions_in count bytes;
  each = c.each;
  rising = c.rising;
  counted = versions_in-size count bytes;
  encoded = c.whole ∙ ap (λ (t : List ℕ). entries (versions_in count bytes) ++ t) (empty rest none) ∙ append-nil (entries (versions_in count bytes));
}
  where
    empty : (xs : List ℕ) → length xs ≡ 0 → xs ≡ []
    empty [] e = refl
    empty (x ∷ xs) e = absurd (omega (arith, e))

-- what follows the first n entries
represents_at : (b : Bounds) (count n : ℕ) (bytes : List ℕ) (are : AreEntries b count bytes) → n ≤ count → after n bytes ≡ entries (drop n are.versions)
represents_at b count n bytes are le =
    ap (after n) (are.encoded ∙ sym (append-nil (entries are.versions))) ∙ after_encoded b n are.versions [] are.each (omega (arith, are.counted)) ∙ append-nil (entries (drop n are.versions))

drop_cons : (n : ℕ) (vs : List Version) → n < length vs → (v : Version) × (more : List Version) × (drop n vs ≡ v ∷ more)
drop_cons n [] lt = absurd (omega arith)
drop_cons zero (v ∷ vs) lt = (v, vs, refl)
drop_cons (suc n) (v ∷ vs) lt = drop_cons n vs (omega arith)

all_drop : (P : Version → Type 0) (n : ℕ) (vs : List Version) → AllByRecursion P vs → AllByRecursion P (drop n vs)
all_drop P zero vs all = all
all_drop P (suc n) [] all = all
all_drop P (suc n) (v ∷ vs) all = all_drop P n vs all.1

entries-cons : (v : Version) (vs : List Version) → entries (v ∷ vs) ≡ entry v ++ entries vs
unfolding entries
entries-cons v vs = refl

pub entry_represents : (b : Bounds) (count n : ℕ) (bytes rest : List ℕ) → AreEntries b count bytes → n < count → rest ≡ after n bytes → IsEncoded b rest
entry_represents b count n bytes rest are lt at =
    let d = drop_cons n are.versions (omega (arith, are.counted)) in
    let here : rest ≡ entry d.0 ++ entries d.1 = at ∙ represents_at b count n bytes are (omega arith) ∙ ap entries d.2 ∙ entries-cons d.0 d.1 in
    let all = subst (AllByRecursion (IsVersionOf b)) d.2 (all_drop (IsVersionOf b) n are.versions are.each) in
    subst (IsEncoded b) (sym here) (is_encoded b d.0 (entries d.1) all.0)

pub stamp_represents : (b : Bounds) (count n : ℕ) (bytes rest : List ℕ) (last : Option ℕ) → AreEntries b count bytes → n < count → Checked b bytes rest n last → IsAfter (number_in 16 40 rest) last
stamp_represents b count n bytes rest None are lt c = tt
stamp_represents b count n bytes rest (Some l) are lt c =
    let same : versions_in count bytes ≡ are.versions =
    ap (versions_in count) (are.encoded ∙ sym (append-nil (entries are.versions))) ∙ ap (λ (m : ℕ). versions_in m (entries are.versions ++ [])) (sym are.counted) ∙ entries_read b are.versions [] are.each in
    let rising : IsRising (versions_in count bytes) = subst IsRising (sym same) are.rising in
    let w = c.newest.1.0 in
    let has : Has (versions_in n bytes) w = c.newest.1.1 in
    let below : has.place < n = omega (arith, slice_get_within (versions_in n bytes) has.place w has.is, versions_in-size n bytes) in
    let is : version_in (after has.place bytes) ≡ w = same_Some (version_in (after has.place bytes)) w (sym (version_at n has.place bytes below) ∙ has.is) in
    let first : slice_get (versions_in count bytes) has.place ≡ Some w = version_at count has.place bytes (omega arith) ∙ ap Some is in
    let second : slice_get (versions_in count bytes) n ≡ Some (version_in rest) = version_at count n bytes lt ∙ ap (λ (t : List ℕ). Some (version_in t)) (sym c.at) in
    let h : w.stamp < (version_in rest).stamp = rising.rises has.place n w (version_in rest) below first second in
    omega (arith, h, stamp_decoded rest, c.newest.1.2)

pub nothing_after : (b : Bounds) (count : ℕ) (bytes rest : List ℕ) → AreEntries b count bytes → rest ≡ after count bytes → length rest ≡ 0
unfolding entries
nothing_after b count bytes rest are at =
    ap length (at ∙ represents_at b count count bytes are (omega arith)) ∙ ap (λ (t : List Version). length (flat_map entry t)) (drop_all count are.versions are.counted)
  where
    drop_all : (n : ℕ) (vs : List Version) → length vs ≡ n → drop n vs ≡ []
    drop_all zero [] e = refl
    drop_all zero (v ∷ vs) e = absurd (omega (arith, e))
    drop_all (suc n) [] e = refl
    drop_all (suc n) (v ∷ vs) e = drop_all n vs (omega (arith, e))

pub high_along : (k l : ℕ) (high : Option ℕ) → k ≡ l → IfSome high (λ n. k < n) → IfSome high (λ n. l < n)
high_along k l None e is = tt
high_along k l (Some n) e is = omega (arith, e, is)
