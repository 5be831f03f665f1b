-- Laws of the entries of a RIB record.
use Rattle.std.proofs.Common.{◌≡◌, ℕ, ◌+◌, ◌≤◌, List, [], ◌∷◌, ◌++◌, length, take, drop, sym, ap, subst, ◌∙◌, arith}
use Rattle.std.proofs.lemmas.List.{length-take, drop-take, drop-drop, map_push}
use Rattle.route_model.specs.Octets.{number_at}
use Rattle.route_model.proofs.api.Sequences.{IsPrefixFree, same_fronts, ReadSoFar, read_on}
use Rattle.mrt_records.specs.Entries.{Entry, IsEntryField}
use Rattle.mrt_records.specs.Places.{entry_in, entries_in, IsWithin, AreWithin}
use Rattle.mrt_records.specs.declared.entries.Place.{Place}
use Rattle.route_model.proofs.api.Fronts.{number_at-take, same_number}

abbrev pub made : ℕ → List ℕ → Entry
made p a = record { peer_index = p; attributes = a }

pub entries_free : IsPrefixFree IsEntryField
entries_free = record {
  one = λ a b x y v w p q e.
      let sizes = same_number 2 6 a b x y (omega (arith, p.room)) (omega (arith, q.room)) e in
      let fronts = same_fronts a b x y (omega (arith, p.size, q.size, sizes)) e in
      let peers : v.peer_index ≡ w.peer_index = p.peer_index ∙ ap (λ (t : List ℕ). number_at 2 0 t) fronts.0 ∙ sym q.peer_index in
      let values : v.attributes ≡ w.attributes = p.attributes ∙ ap (λ (t : List ℕ). drop 8 t) fronts.0 ∙ sym q.attributes in
      (fronts.0, ap (λ (n : ℕ). made n v.attributes) peers ∙ ap (λ (t : List ℕ). made w.peer_index t) values);
  some = λ v p. omega (arith, p.room);
}

-- the octets have room for the entry at their front
pub entry_front : (bytes : List ℕ) (size peer : ℕ) → 8 + size ≤ length bytes → size ≡ number_at 2 6 bytes → peer ≡ number_at 2 0 bytes
    → IsEntryField (take (8 + size) bytes) (made peer (take size (drop 8 bytes)))
entry_front bytes size peer room size_is peer_is =
    let len = length-take (8 + size) bytes in
    record {
      room = omega (arith, len, room);
      peer_index = peer_is ∙ sym (number_at-take 2 0 (8 + size) bytes (omega arith) room);
      size = omega (arith, len, room, size_is, number_at-take 2 6 (8 + size) bytes (omega arith) room);
      attributes = sym (drop-take 8 size bytes);
    }

-- one more place
within_push : (bytes : List ℕ) (places : List Place) (place : Place) → AreWithin bytes places → IsWithin bytes place → AreWithin bytes (places ++ place ∷ [])
within_push bytes [] place p q = (q, tt)
within_push bytes (x ∷ places) place p q = (p.0, within_push bytes places place p.1 q)

pub places_within : (bytes : List ℕ) (places new : List Place) (place : Place) → new ≡ places ++ place ∷ [] → AreWithin bytes places → IsWithin bytes place → AreWithin bytes new
places_within bytes places new place e p q = subst (λ (t : List Place). AreWithin bytes t) (sym e) (within_push bytes places place p q)

-- one more entry was read
pub places_on : (bytes : List ℕ) (next size : ℕ) (places new : List Place) (place : Place) → ReadSoFar IsEntryField bytes (drop next bytes) (entries_in bytes places)
    → IsEntryField (take (8 + size) (drop next bytes)) (made place.peer_index (take size (drop 8 (drop next bytes))))
    → place.size ≡ size → place.start ≡ next + 8 → new ≡ places ++ place ∷ []
    → ReadSoFar IsEntryField bytes (drop (next + 8 + size) bytes) (entries_in bytes new)
places_on bytes next size places new place p f size_is start_is new_is =
    let before = made place.peer_index (take size (drop 8 (drop next bytes))) in
    let on = read_on IsEntryField bytes (drop next bytes) (entries_in bytes places) before (8 + size) p f in
    let rest : drop (8 + size) (drop next bytes) ≡ drop (next + 8 + size) bytes = drop-drop (8 + size) next bytes ∙ ap (λ (n : ℕ). drop n bytes) (omega arith) in
    let attributes : take size (drop 8 (drop next bytes)) ≡ take place.size (drop place.start bytes) =
    ap (λ (t : List ℕ). take size t) (drop-drop 8 next bytes ∙ ap (λ (n : ℕ). drop n bytes) (sym start_is)) ∙ ap (λ (n : ℕ). take n (drop place.start bytes)) (sym size_is) in
    let entry : before ≡ entry_in bytes place = ap (λ (t : List ℕ). made place.peer_index t) attributes in
    let values : entries_in bytes places ++ before ∷ [] ≡ entries_in bytes new =
    ap (λ (t : Entry). entries_in bytes places ++ t ∷ []) entry ∙ sym (map_push (entry_in bytes) places place) ∙ ap (λ (t : List Place). entries_in bytes t) (sym new_is) in
    subst (λ (t : List Entry). ReadSoFar IsEntryField bytes (drop (next + 8 + size) bytes) t) values
    (subst (λ (t : List ℕ). ReadSoFar IsEntryField bytes t (entries_in bytes places ++ before ∷ [])) rest on)
