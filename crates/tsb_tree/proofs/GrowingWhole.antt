-- A column in memory whose leaf took a version.
use Rattle.std.proofs.Common.{◌≡◌, ℕ, ◌<◌, ◌≤◌, ◌⊎◌, List, [], ◌∷◌, ◌++◌, length, Option, Some, None, IfSome, refl, sym, ap, subst, arith}
use Rattle.disk_models.specs.declared.once.OnceDisk.{Ghosts}
use Rattle.once_store.specs.declared.shelf.Shelf.{Shelf}
use Rattle.once_store.specs.Shelves.{next_of}
use Rattle.version_model.specs.Blocks.{BlockNode}
use Rattle.version_model.specs.Ranges.{high_or}
use Rattle.version_model.specs.LeafVersions.{IsFrom}
use Rattle.version_model.specs.Sizes.{octets, entry_octets, value_octets}
use Rattle.version_model.specs.Versions.{Version, Has, IsAbove}
use Rattle.version_model.proofs.api.Pushed.{Has-push_cases}
use Rattle.tsb_node.specs.Leaves.{IsLeafPage, IsShortOf, value_encoded}
use Rattle.tsb_node.proofs.ViewLaws.{entries-octets}
use Rattle.worm_migration.specs.Settled.{ShelfRepresents}
use Rattle.tsb_tree.specs.declared.whole.Whole.{Whole}
use Rattle.tsb_tree.specs.Needs.{IsWhatStays}
use Rattle.tsb_tree.specs.Outlived.{HasOutlived}
use Rattle.tsb_tree.specs.Shapes.{IsWhole, bounds_from, leaf_in_page}
use Rattle.tsb_tree.specs.Shelves.{TakesOn}
use Rattle.tsb_tree.specs.Wholes.{Takes}
use Rattle.tsb_tree.proofs.Outliving.{none_outlived}
use Rattle.tsb_tree.proofs.Shaping.{whole_with, short_push}
use Rattle.tsb_tree.proofs.Taking.{takes_in_leaf, octets-push}

pub value_size : (value : Option (List ℕ)) → length (value_encoded value) ≡ value_octets value
value_size None = refl
value_size (Some value) = refl

pub below_or : (high : Option ℕ) (key : ℕ) → key < high_or high → IfSome high (λ n. key < n)
below_or None key lt = tt
below_or (Some n) key lt = lt

short_of : (low : ℕ) (high : Option ℕ) (v : Version) → low ≤ v.key → v.key < high_or high → entry_octets v ≤ 3131 → IsShortOf (bounds_from low high 0) v
short_of low high v from to small = record { low = from; high = below_or high v.key to; size = omega (arith, value_size v.value, small) }

module _ (w w' : Whole) (v : Version) (taken : w' ≡ record w { leaf = w.leaf ++ v ∷ [] }) where
  leaf_is : w'.leaf ≡ w.leaf ++ v ∷ []
  leaf_is = ap (λ (x : Whole). x.leaf) taken

  pub taken_whole : IsWhole w → w.low ≤ v.key → v.key < high_or w.high → entry_octets v ≤ 3131 → IsWhole w'
  taken_whole whole low high small =
      rw taken (whole_with w (w.leaf ++ v ∷ []) whole (short_push w.low w.high w.leaf (w.leaf ++ v ∷ []) v refl whole.each (short_of w.low w.high v low high small)))

  pub taken_most : (image : List ℕ) → IsLeafPage (leaf_in_page w) image → entry_octets v ≤ 3131 → octets w'.leaf ≤ 19363
  taken_most image leaf small = omega (arith, ap octets leaf_is, octets-push w.leaf v, entries-octets w.leaf, leaf.valid.fits, small)

  pub taken_only : (x : Version) → Has w'.leaf x → Has w.leaf x ⊎ (x ≡ v)
  taken_only x h = Has-push_cases w.leaf v x (subst (λ (l : List Version). Has l x) leaf_is h)

  pub taken_stays : (stays : List Version) → IsWhatStays w'.leaf v.stamp stays → IsWhatStays (w.leaf ++ v ∷ []) v.stamp stays
  taken_stays stays what = subst (λ (l : List Version). IsWhatStays l v.stamp stays) leaf_is what

  -- where all of it stays, nothing was outlived
  pub taken_none : IsAbove w.leaf v.stamp → IsWhatStays w'.leaf v.stamp w'.leaf → HasOutlived w.leaf v → ⊥
  taken_none above what = none_outlived w.leaf v above (subst (λ (l : List Version). IsFrom l v.stamp l) leaf_is what.from)

  pub taken_on : {O Pen Seen : Type 0} (device : Ghosts O Pen Seen) (shelf : Shelf O Pen Seen) (blocks : ℕ → Option BlockNode) → ShelfRepresents device shelf blocks → TakesOn device shelf blocks blocks (next_of shelf) v w w'
  taken_on device shelf blocks represents_node = record {
    represents_node = represents_node;
    grows = λ n node h. h;
    takes = subst (λ (x : Whole). Takes blocks (next_of shelf) blocks (next_of shelf) v w x) (sym taken) (takes_in_leaf blocks (next_of shelf) w (w.leaf ++ v ∷ []) v refl);
  }
