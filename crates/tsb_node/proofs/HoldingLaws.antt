-- Octets that begin with a count of entries: each of these is whole.
use Rattle.std.proofs.Common.{◌≡◌, ℕ, zero, suc, ◌+◌, ◌<◌, ◌≤◌, List, [], ◌∷◌, ◌++◌, length, take, drop, refl, sym, ap, subst, ◌∙◌, append_assoc, arith}
use Rattle.std.specs.List.{flat_map, AllByRecursion}
use Rattle.std.proofs.Common.{inl, inr}
use Rattle.std.proofs.lemmas.Bool.{cases_lt}
use Rattle.std.proofs.lemmas.List.{length-append, length-take, take-append-drop, take-append-le, drop-append-le, length-drop, drop_at}
use Rattle.route_model.specs.Keys.{number_of}
use Rattle.tsb_node.specs.Leaves.{LeafNode, BeginsAsWrittenLeaf}
use Rattle.tsb_node.specs.Holding.{IsSomeEntry, BeginsWithEntries, HasItsEntries}
use Rattle.tsb_node.specs.inner.Fields.{number_in}
use Rattle.tsb_node.specs.inner.Reading.{value_size, after, area, after_version}
use Rattle.tsb_node.specs.inner.Scanning.{IsWholeVersion}
use Rattle.tsb_node.proofs.Scanning.{leaf_whole}

-- each of the first n entries is whole
pub record AreWhole (n : ℕ) (bytes : List ℕ) : Type 0 where
  pub whole : (k : ℕ) → k < n → IsWholeVersion (after k bytes)

abbrev joined : List (List ℕ) → List ℕ
joined pieces = flat_map (λ one. one) pieces

-- the length that an entry represents stands in the entry
size_in_front : (one rest : List ℕ) → 59 ≤ length one → value_size (one ++ rest) ≡ value_size one
size_in_front one rest le =
    let long = length-drop 57 one in
    ap (λ (t : List ℕ). number_of (take 2 t)) (drop-append-le 57 one rest (omega (arith, le)))
    ∙ ap number_of (take-append-le 2 (drop 57 one) rest (omega (arith, le, long)))

whole_pieces : (pieces : List (List ℕ)) (rest : List ℕ) (k : ℕ) → AllByRecursion IsSomeEntry pieces → k < length pieces → IsWholeVersion (after k (joined pieces ++ rest))
unfolding after
whole_pieces [] rest k all lt = absurd (omega arith)
whole_pieces (one ∷ more) rest zero all lt =
    let e : joined (one ∷ more) ++ rest ≡ one ++ (joined more ++ rest) = append_assoc one (joined more) rest in
    let size = size_in_front one (joined more ++ rest) (omega (arith, all.0)) in
    let long = length-append one (joined more ++ rest) in
    subst IsWholeVersion (sym e) (omega (arith, size, long, all.0))
whole_pieces (one ∷ more) rest (suc k) all lt =
    let e : joined (one ∷ more) ++ rest ≡ one ++ (joined more ++ rest) = append_assoc one (joined more) rest in
    let size = size_in_front one (joined more ++ rest) (omega (arith, all.0)) in
    let beyond : after_version (one ++ (joined more ++ rest)) ≡ joined more ++ rest = drop_at one (joined more ++ rest) (59 + value_size (one ++ (joined more ++ rest))) (omega (arith, size, all.0)) in
    let same : after (suc k) (joined (one ∷ more) ++ rest) ≡ after k (joined more ++ rest) = ap (after (suc k)) e ∙ ap (after k) beyond in
    subst IsWholeVersion (sym same) (whole_pieces more rest k all.1 (omega arith))

pub whole_of : (n : ℕ) (bytes : List ℕ) → BeginsWithEntries n bytes → AreWhole n bytes
whole_of n bytes is = record {
  whole = λ k lt. subst (λ (t : List ℕ). IsWholeVersion (after k t)) (sym is.encoded) (whole_pieces is.some is.rest k is.each (omega (arith, is.counted)));
}

pub begins_of : (n : ℕ) (bytes : List ℕ) → AreWhole n bytes → BeginsWithEntries n bytes
unfolding after
begins_of zero bytes are = record { some = []; counted = refl; each = tt; rest = bytes; encoded = refl }
begins_of (suc n) bytes are =
    let here : IsWholeVersion bytes = are.whole 0 (omega arith) in
    let tail = begins_of n (after_version bytes) (record { whole = λ k lt. are.whole (suc k) (omega arith) }) in
    let one : List ℕ = take (59 + value_size bytes) bytes in
    let long : length one ≡ 59 + value_size bytes = omega (arith, length-take (59 + value_size bytes) bytes, here) in
    let cut : one ++ after_version bytes ≡ bytes = take-append-drop (59 + value_size bytes) bytes in
    let size : value_size bytes ≡ value_size one = ap value_size (sym cut) ∙ size_in_front one (after_version bytes) (omega (arith, long)) in
    record {
      some = one ∷ tail.some;
      counted = ap suc tail.counted;
      each = (long ∙ ap (λ (k : ℕ). 59 + k) size, tail.each);
      rest = tail.rest;
      encoded = sym cut ∙ ap (λ (t : List ℕ). one ++ t) tail.encoded ∙ sym (append_assoc one (joined tail.some) tail.rest);
    }

pub whole_more : (n : ℕ) (rest bytes : List ℕ) → rest ≡ after n bytes → IsWholeVersion rest → AreWhole n bytes → AreWhole (n + 1) bytes
whole_more n rest bytes at is are = record {
  whole = λ k lt. elim (cases_lt k n) [
    | inl below ↦ are.whole k below
    | inr above ↦ subst (λ (m : ℕ). IsWholeVersion (after m bytes)) (let e : n ≡ k = omega arith in e) (subst IsWholeVersion at is)
  ];
}

-- the octets of a leaf do
pub leaf_holds : (leaf : LeafNode) (octets : List ℕ) → BeginsAsWrittenLeaf leaf octets → HasItsEntries octets
leaf_holds leaf octets is = begins_of (number_in 2 4 octets) (area octets) (record { whole = λ k lt. leaf_whole leaf octets k is lt })

-- what a node holds, its entries begin with
pub held_by : (octets front : List ℕ) (count : ℕ) → count ≡ number_in 2 4 octets → front ≡ area octets → HasItsEntries octets → BeginsWithEntries count front
held_by octets front count n there is = subst (λ (k : ℕ). BeginsWithEntries k front) (sym n) (subst (BeginsWithEntries (number_in 2 4 octets)) (sym there) is)

pub whole_here : (octets front rest : List ℕ) (count i : ℕ) → front ≡ area octets → BeginsWithEntries count front → i < count → rest ≡ after i (area octets) → IsWholeVersion rest
whole_here octets front rest count i there is lt at =
    subst IsWholeVersion (sym at) (subst (λ (t : List ℕ). IsWholeVersion (after i t)) there ((whole_of count front is).whole i lt))
