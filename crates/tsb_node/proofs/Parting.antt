-- What is kept of the entries of a leaf.
use Rattle.std.proofs.Common.{◌≡◌, ℕ, zero, suc, ◌+◌, ◌≤◌, ◌++◌, ◌∷◌, [], List, length, drop, append_assoc, refl, Some, slice_get, sym, ap, ◌∙◌, arith}
use Rattle.version_model.specs.Versions.{Version}
use Rattle.tsb_node.specs.Leaves.{LeafNode}
use Rattle.tsb_node.specs.inner.Reading.{version_in}
use Rattle.tsb_node.proofs.SplittingLaws.{IsNext}
use Rattle.std.proofs.lemmas.List.{map-append, append-nil}
use Rattle.std.proofs.lemmas.Option.{same_Some, none-some}
use Rattle.version_model.specs.declared.entry.Entry.{Entry}
use Rattle.version_model.specs.Entries.{version_of, versions_of}
use Rattle.tsb_node.specs.declared.decoded_leaf.DecodedLeaf.{DecodedLeaf}
use Rattle.tsb_node.specs.Decoded.{decoded_leaf}
use Rattle.tsb_node.specs.inner.Fields.{number_in}
use Rattle.tsb_node.proofs.Scanning.{key_decoded, stamp_decoded}
use Rattle.tsb_node.proofs.Entries.{entry_read}

-- versions of the same parts are one
pub version_is : (v w : Version) → v.key ≡ w.key → v.stamp ≡ w.stamp → v.value ≡ w.value → v ≡ w
version_is v w k s o = λ i. record { key = k i; stamp = s i; value = o i }

-- the version at the front is that of the leaf there
pub version_next : (leaf : LeafNode) (n : ℕ) (rest : List ℕ) → (next : IsNext leaf n rest) → version_in rest ≡ next.v
version_next leaf n rest next = ap version_in next.encoded ∙ (entry_read leaf.bounds next.v next.more next.valid).is

-- the versions of entries with one more after them
pub versions_more : (kept new : List Entry) (e : Entry) (v : Version) → new ≡ kept ++ e ∷ [] → version_of e ≡ v → versions_of new ≡ versions_of kept ++ v ∷ []
versions_more kept new e v items same = ap versions_of items ∙ map-append version_of kept (e ∷ []) ∙ ap (λ x. versions_of kept ++ x ∷ []) same

-- the fields of the entry at the front, and those of its version
pub key_there : (bytes : List ℕ) (v : Version) → version_in bytes ≡ v → number_in 40 0 bytes ≡ v.key
key_there bytes v is = sym (key_decoded bytes) ∙ ap (λ (w : Version). w.key) is

pub stamp_there : (bytes : List ℕ) (v : Version) → version_in bytes ≡ v → number_in 16 40 bytes ≡ v.stamp
stamp_there bytes v is = sym (stamp_decoded bytes) ∙ ap (λ (w : Version). w.stamp) is

drop_here : (vs : List Version) (i : ℕ) (v : Version) → slice_get vs i ≡ Some v → drop i vs ≡ v ∷ drop (i + 1) vs
drop_here [] i v at = absurd (none-some v at)
drop_here (w ∷ vs) zero v at = ap (λ (x : Version). x ∷ vs) (same_Some w v at)
drop_here (w ∷ vs) (suc i) v at = drop_here vs i v at ∙ ap (λ (n : ℕ). v ∷ drop n (w ∷ vs)) (let e : suc (i + 1) ≡ suc i + 1 = omega arith in e)

drop_none : (vs : List Version) (i : ℕ) → length vs ≤ i → drop i vs ≡ []
drop_none [] zero le = refl
drop_none [] (suc i) le = refl
drop_none (w ∷ vs) zero le = absurd (omega arith)
drop_none (w ∷ vs) (suc i) le = drop_none vs i (omega arith)

-- one version more of all
pub all_more : (vs kept new : List Version) (i : ℕ) (v : Version) → slice_get vs i ≡ Some v → new ≡ kept ++ v ∷ [] → kept ++ drop i vs ≡ vs → new ++ drop (i + 1) vs ≡ vs
all_more vs kept new i v at pushed so = ap (λ (t : List Version). t ++ drop (i + 1) vs) pushed ∙ append_assoc kept (v ∷ []) (drop (i + 1) vs) ∙ ap (λ (t : List Version). kept ++ t) (sym (drop_here vs i v at)) ∙ so

pub all_kept : (vs kept : List Version) (i : ℕ) → length vs ≤ i → kept ++ drop i vs ≡ vs → kept ≡ vs
all_kept vs kept i done so = sym (append-nil kept) ∙ ap (λ (t : List Version). kept ++ t) (sym (drop_none vs i done)) ∙ so

-- a leaf of the same bounds and versions is the leaf
pub decoded_is : (decoded : DecodedLeaf) (leaf : LeafNode) → leaf.bounds ≡ decoded.bounds → versions_of decoded.entries.items ≡ leaf.versions → leaf ≡ decoded_leaf decoded
decoded_is decoded leaf b v = λ i. record { bounds = b i; versions = sym v i }
