-- The entries of a leaf: what is encoded is read again.
use Rattle.std.proofs.Common.{◌≡◌, ℕ, zero, suc, ◌+◌, ◌<◌, ◌≤◌, List, [], ◌∷◌, ◌++◌, length, take, drop, slice_index, slice_get, Option, Some, None, refl, ap, ◌∙◌, append_assoc, arith}
use Rattle.std.specs.List.{AllByRecursion}
use Rattle.std.proofs.lemmas.List.{length-append, take_at, drop_at, get_or-append_right}
use Rattle.route_model.specs.Keys.{number_of}
use Rattle.tsb_node.specs.Numbers.{octets_of}
use Rattle.tsb_node.specs.inner.Fields.{number_in}
use Rattle.version_model.specs.Versions.{Version}
use Rattle.version_model.specs.declared.bounds.Bounds.{Bounds}
use Rattle.tsb_node.specs.Leaves.{tag, value_encoded, entry, entries, IsVersionOf}
use Rattle.tsb_node.specs.inner.Reading.{value_size, value_in, version_in, after_version, versions_in, after}
use Rattle.tsb_node.proofs.NumberLaws.{octets_of-size, octets_of-number, field_in}

pub entry-size : (v : Version) → length (entry v) ≡ 59 + length (value_encoded v.value)
unfolding entry
entry-size v =
    let k = octets_of-size 40 v.key in
    let s = octets_of-size 16 v.stamp in
    let n = octets_of-size 2 (length (value_encoded v.value)) in
    let o : List ℕ = value_encoded v.value in
    let p1 : List ℕ = octets_of 40 v.key ++ octets_of 16 v.stamp in
    let p2 : List ℕ = p1 ++ (tag v.value ∷ []) in
    let p3 : List ℕ = p2 ++ octets_of 2 (length o) in
    let e1 : length p1 ≡ 56 = omega (arith, k, s, length-append (octets_of 40 v.key) (octets_of 16 v.stamp)) in
    let e2 : length p2 ≡ 57 = omega (arith, e1, length-append p1 (tag v.value ∷ [])) in
    let e3 : length p3 ≡ 59 = omega (arith, e2, n, length-append p2 (octets_of 2 (length o))) in
    omega (arith, e3, length-append p3 o)

tagged_value : (o : Option (List ℕ)) (n : ℕ) (bytes : List ℕ) → slice_index bytes 56 ≡ tag o → take (value_size bytes) (drop 59 bytes) ≡ value_encoded o → value_in bytes ≡ o
tagged_value None n bytes t e = rw t refl
tagged_value (Some value) n bytes t e = rw (t, e) refl

-- the version at the front is read
pub record Reads (v : Version) (rest bytes : List ℕ) : Type 0 where
  pub is : version_in bytes ≡ v
  pub size : value_size bytes ≡ length (value_encoded v.value)
  pub beyond : after_version bytes ≡ rest
  pub tagged : slice_index bytes 56 ≡ tag v.value

pub entry_read : (b : Bounds) (v : Version) (rest : List ℕ) → IsVersionOf b v → Reads v rest (entry v ++ rest)
unfolding entry version_in
entry_read b v rest is =
    let o : List ℕ = value_encoded v.value in
    let k : List ℕ = octets_of 40 v.key in
    let s : List ℕ = octets_of 16 v.stamp in
    let t : List ℕ = tag v.value ∷ [] in
    let n : List ℕ = octets_of 2 (length o) in
    let ksize : length k ≡ 40 = octets_of-size 40 v.key in
    let ssize : length s ≡ 16 = octets_of-size 16 v.stamp in
    let nsize : length n ≡ 2 = octets_of-size 2 (length o) in
    let bytes : List ℕ = ((((k ++ s) ++ t) ++ n) ++ o) ++ rest in
    let four : bytes ≡ (((k ++ s) ++ t) ++ n) ++ (o ++ rest) = append_assoc (((k ++ s) ++ t) ++ n) o rest in
    let three : bytes ≡ ((k ++ s) ++ t) ++ (n ++ (o ++ rest)) = four ∙ append_assoc ((k ++ s) ++ t) n (o ++ rest) in
    let two : bytes ≡ (k ++ s) ++ (t ++ (n ++ (o ++ rest))) = three ∙ append_assoc (k ++ s) t (n ++ (o ++ rest)) in
    let whole : bytes ≡ k ++ (s ++ (t ++ (n ++ (o ++ rest)))) = two ∙ append_assoc k s (t ++ (n ++ (o ++ rest))) in
    let size2 : length (k ++ s) ≡ 56 = omega (arith, length-append k s) in
    let size3 : length ((k ++ s) ++ t) ≡ 57 = omega (arith, length-append (k ++ s) t) in
    let size4 : length (((k ++ s) ++ t) ++ n) ≡ 59 = omega (arith, length-append ((k ++ s) ++ t) n) in
    let key : number_in 40 0 bytes ≡ v.key = ap (number_in 40 0) whole ∙ ap number_of (take_at k (s ++ (t ++ (n ++ (o ++ rest)))) 40 ksize) ∙ octets_of-number 40 v.key is.key in
    let stamp : number_in 16 40 bytes ≡ v.stamp = ap (number_in 16 40) whole ∙ field_in 16 40 k s (t ++ (n ++ (o ++ rest))) ksize ssize ∙ octets_of-number 16 v.stamp is.stamp in
    let len : value_size bytes ≡ length o = ap (number_in 2 57) three ∙ field_in 2 57 ((k ++ s) ++ t) n (o ++ rest) size3 nsize ∙ octets_of-number 2 (length o) (omega (arith, is.short.size)) in
    let tags : slice_index bytes 56 ≡ tag v.value = ap (λ (l : List ℕ). slice_index l 56) two ∙ get_or-append_right (k ++ s) (t ++ (n ++ (o ++ rest))) 56 56 0 size2 (omega arith) in
    let tail : drop 59 bytes ≡ o ++ rest = ap (drop 59) four ∙ drop_at (((k ++ s) ++ t) ++ n) (o ++ rest) 59 size4 in
    let value : take (value_size bytes) (drop 59 bytes) ≡ o = ap (λ (m : ℕ). take m (drop 59 bytes)) len ∙ ap (take (length o)) tail ∙ take_at o rest (length o) refl in
    let is_value : value_in bytes ≡ v.value = tagged_value v.value 0 bytes tags value in
    let size5 : length ((((k ++ s) ++ t) ++ n) ++ o) ≡ 59 + value_size bytes = omega (arith, len, length-append (((k ++ s) ++ t) ++ n) o) in
    record {
      is = λ i. record { key = key i; stamp = stamp i; value = is_value i };
      size = len;
      beyond = drop_at ((((k ++ s) ++ t) ++ n) ++ o) rest (59 + value_size bytes) size5;
      tagged = tags;
    }

-- all of them are
pub entries_read : (b : Bounds) (vs : List Version) (rest : List ℕ) → AllByRecursion (IsVersionOf b) vs → versions_in (length vs) (entries vs ++ rest) ≡ vs
unfolding entries versions_in
entries_read b [] rest all = refl
entries_read b (v ∷ vs) rest all =
    let e : entries (v ∷ vs) ++ rest ≡ entry v ++ (entries vs ++ rest) = append_assoc (entry v) (entries vs) rest in
    let r = entry_read b v (entries vs ++ rest) all.0 in
    let tail = entries_read b vs rest all.1 in
    rw (e, r.is, r.beyond, tail) refl

pub after-next : (n : ℕ) (bytes : List ℕ) → after (suc n) bytes ≡ after_version (after n bytes)
unfolding after
after-next zero bytes = refl
after-next (suc n) bytes = after-next n (after_version bytes)

pub version_at : (count i : ℕ) (bytes : List ℕ) → i < count → slice_get (versions_in count bytes) i ≡ Some (version_in (after i bytes))
unfolding after versions_in
version_at zero i bytes lt = absurd (omega arith)
version_at (suc n) zero bytes lt = refl
version_at (suc n) (suc i) bytes lt = version_at n i (after_version bytes) (omega arith)

pub versions_in-size : (count : ℕ) (bytes : List ℕ) → length (versions_in count bytes) ≡ count
unfolding versions_in
versions_in-size zero bytes = refl
versions_in-size (suc n) bytes = ap suc (versions_in-size n (after_version bytes))

-- after the first n encoded versions the others follow
pub after_encoded : (b : Bounds) (n : ℕ) (vs : List Version) (rest : List ℕ) → AllByRecursion (IsVersionOf b) vs → n ≤ length vs → after n (entries vs ++ rest) ≡ entries (drop n vs) ++ rest
unfolding after entries
after_encoded b zero vs rest all le = refl
after_encoded b (suc n) [] rest all le = absurd (omega arith)
after_encoded b (suc n) (v ∷ vs) rest all le =
    let e : entries (v ∷ vs) ++ rest ≡ entry v ++ (entries vs ++ rest) = append_assoc (entry v) (entries vs) rest in
    let r = entry_read b v (entries vs ++ rest) all.0 in
    ap (after (suc n)) e ∙ ap (after n) r.beyond ∙ after_encoded b n vs rest all.1 (omega arith)
