-- A leaf that is written version by version.
use Rattle.std.proofs.Common.{◌≡◌, ℕ, zero, suc, ◌+◌, ◌<◌, ◌≤◌, List, [], ◌∷◌, ◌++◌, length, take, drop, Some, slice_get, refl, sym, ap, subst, ◌∙◌, arith}
use Rattle.std.specs.List.{AllByRecursion}
use Rattle.std.proofs.lemmas.List.{length-append, take-append-drop}
use Rattle.std.proofs.lemmas.Option.{same_Some, none-some, slice_get-map, slice_get_read}
use Rattle.std.specs.Option.{option_map}
use Rattle.std.proofs.Common.{get_or}
use Rattle.version_model.specs.declared.entry.Entry.{Entry}
use Rattle.version_model.specs.Versions.{Version, IsAbove}
use Rattle.version_model.specs.Entries.{version_of, versions_of}
use Rattle.tsb_node.specs.Leaves.{LeafNode, CanBeLeaf, IsShortOf, entry, entries}
use Rattle.tsb_node.specs.Children.{IsKeyWithin}
use Rattle.tsb_node.proofs.Laying.{entries-push}
use Rattle.tsb_node.proofs.SplittingLaws.{take_version}

-- the entry at a place represents the version there
pub version_read : (es : List Entry) (i : ℕ) (e : Entry) → i < length es → e ≡ get_or es i e → slice_get (versions_of es) i ≡ Some (version_of e)
version_read es i e lt is = slice_get-map version_of es i ∙ ap (option_map version_of) (slice_get_read es (length es) i e refl lt is)

valid_at : (P : Version → Type 0) (vs : List Version) (n : ℕ) (v : Version) → AllByRecursion P vs → slice_get vs n ≡ Some v → P v
valid_at P [] n v all e = absurd (none-some v e)
valid_at P (w ∷ vs) zero v all e = subst P (same_Some w v e) all.0
valid_at P (w ∷ vs) (suc n) v all e = valid_at P vs n v all.1 e

in_front : (vs : List Version) (n k : ℕ) (w : Version) → slice_get (take n vs) k ≡ Some w → (k < n) × (slice_get vs k ≡ Some w)
in_front [] zero k w e = absurd (none-some w e)
in_front [] (suc n) k w e = absurd (none-some w e)
in_front (x ∷ vs) zero k w e = absurd (none-some w e)
in_front (x ∷ vs) (suc n) zero w e = (omega arith, e)
in_front (x ∷ vs) (suc n) (suc k) w e = (let h = in_front vs n k w e in (omega (arith, h.0), h.1))

entries-append : (vs ws : List Version) → length (entries (vs ++ ws)) ≡ length (entries vs) + length (entries ws)
unfolding entries
entries-append [] ws = omega arith
entries-append (v ∷ vs) ws = omega (arith, length-append (entry v) (entries (vs ++ ws)), length-append (entry v) (entries vs), entries-append vs ws)

module _ (leaf : LeafNode) (valid : CanBeLeaf leaf) (n : ℕ) (v : Version) (at : slice_get leaf.versions n ≡ Some v) where
  pub whole_valid : IsShortOf leaf.bounds v
  whole_valid = valid_at (IsShortOf leaf.bounds) leaf.versions n v valid.each at

  pub whole_within : IsKeyWithin leaf.bounds v.key
  whole_within = record { low = whole_valid.low; high = whole_valid.high }

  pub whole_above : IsAbove (take n leaf.versions) v.stamp
  whole_above = record { above = λ w has. (let h = in_front leaf.versions n has.place w has.is in valid.rising.rises has.place n w v h.0 h.1 at) }

  -- there is room for the version after those before it
  pub whole_fits : length (entries (take n leaf.versions)) + length (entry v) ≤ 16232
  whole_fits =
      let front = ap (λ (t : List Version). length (entries t)) (take_version leaf.versions n v at) ∙ ap length (entries-push (take n leaf.versions) v) ∙ length-append (entries (take n leaf.versions)) (entry v) in
      let all = ap (λ (t : List Version). length (entries t)) (sym (take-append-drop (n + 1) leaf.versions)) ∙ entries-append (take (n + 1) leaf.versions) (drop (n + 1) leaf.versions) in
      omega (arith, front, all, valid.fits)
