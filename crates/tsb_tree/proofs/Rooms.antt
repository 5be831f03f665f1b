-- A column has room for a part more, and its leaf goes into its past.
use Rattle.std.proofs.Common.{◌≡◌, ℕ, ◌<◌, ◌≤◌, inl, List, [], ◌∷◌, ◌++◌, Option, Some, refl, sym, subst, arith}
use Rattle.disk_models.specs.declared.once.OnceDisk.{Ghosts}
use Rattle.once_store.specs.declared.shelf.Shelf.{Shelf}
use Rattle.once_store.specs.Shelves.{next_of}
use Rattle.version_model.specs.declared.part.Part.{Part}
use Rattle.version_model.specs.Versions.{Version, Adds}
use Rattle.version_model.specs.Ranges.{Range, until, stamp_end}
use Rattle.version_model.specs.LeafVersions.{LeafRepresents, IsFrom}
use Rattle.version_model.specs.Blocks.{BlockNode}
use Rattle.version_model.specs.Pages.{Keys, PartsRepresent, current_range}
use Rattle.version_model.proofs.api.Pushed.{Adds-push}
use Rattle.version_model.proofs.api.Shown.{LeafRepresents-cut, LeafRepresents-from, LeafRepresents-adds, LeafRepresents-outside}
use Rattle.worm_migration.specs.Columns.{old_column, old_leaf}
use Rattle.worm_migration.specs.Settled.{ShelfRepresents, with_block}
use Rattle.worm_migration.specs.Shelves.{SettlesAs}
use Rattle.tsb_tree.specs.declared.whole.Whole.{Whole}
use Rattle.tsb_tree.specs.Wholes.{Takes, keys_of_whole}
use Rattle.tsb_tree.specs.Shapes.{with_leaf}
use Rattle.tsb_tree.specs.Shelves.{MakesRoom, TakesOn, burnt, packed}
use Rattle.tsb_tree.proofs.Taking.{past_later}

-- the whole past as a block
pub room_of : {O Pen Seen : Type 0} (device : Ghosts O Pen Seen) (old new : Shelf O Pen Seen) (n : ℕ) (w : Whole) (parts left : List Part) (part : Part) → parts ≡ w.parts.items → left ≡ part ∷ []
    → SettlesAs device old new n (old_column (keys_of_whole w) w.start parts)
    → ((blocks : ℕ → Option BlockNode) (all : List Version) → ShelfRepresents device old blocks → PartsRepresent blocks (next_of old) all (keys_of_whole w) w.start parts
    → PartsRepresent (with_block n (old_column (keys_of_whole w) w.start parts) blocks) (next_of new) all (keys_of_whole w) w.start (part ∷ []))
    → (blocks : ℕ → Option BlockNode) → ShelfRepresents device old blocks → MakesRoom device new blocks (packed w (Some n) blocks) (next_of old) w left
room_of device old new n w parts left part is left_is settled past blocks represents_node =
    let k : Keys = keys_of_whole w in
    let settled' = subst (λ (ps : List Part). SettlesAs device old new n (old_column k w.start ps)) is settled in
    let past' = subst (λ (ps : List Part). (blocks : ℕ → Option BlockNode) (all : List Version) → ShelfRepresents device old blocks → PartsRepresent blocks (next_of old) all k w.start ps
    → PartsRepresent (with_block n (old_column k w.start ps) blocks) (next_of new) all k w.start (part ∷ [])) is past in
    record {
      represents_node = settled'.represents_node blocks represents_node;
      grows = settled'.grows blocks represents_node;
      moves = λ all was. subst (λ (ps : List Part). PartsRepresent (packed w (Some n) blocks) (next_of new) all k w.start ps) (sym left_is) (past' blocks all represents_node was);
    }

-- A time split at the version's stamp. First the column's past makes room, then it takes the leaf as it was.
pub takes_split : (blocks more burnt : ℕ → Option BlockNode) (next next' next'' : ℕ) (w w' : Whole) (leaf' : List Version) (parts : List Part) (v : Version) (at : ℕ)
    → leaf' ≡ w.leaf ++ v ∷ [] → v.stamp ≡ at → IsFrom leaf' at w'.leaf → at < stamp_end → w.start < at → w'.low ≡ w.low → w'.high ≡ w.high → w'.start ≡ at
    → ((all : List Version) → PartsRepresent blocks next all (keys_of_whole w) w.start w.parts.items → PartsRepresent more next' all (keys_of_whole w) w.start parts)
    → ((all : List Version) → LeafRepresents all (until (current_range (keys_of_whole w) w.start) at) w.leaf → PartsRepresent more next' all (keys_of_whole w) w.start parts → PartsRepresent burnt next'' all (keys_of_whole w) at w'.parts.items)
    → Takes blocks next burnt next'' v w w'
takes_split blocks more burnt next next' next'' w w' leaf' parts v at is stamp from in_time forward low high start moves puts = record {
  low = low;
  high = high;
  takes = λ all after above adds has.
      (let k : Keys = keys_of_whole w in
      let r : Range = until (current_range k w.start) at in
      let later : w.start < v.stamp = omega (arith, forward, stamp) in
      let adds' : Adds w.leaf v leaf' = rw is (Adds-push w.leaf v) in
      let past : PartsRepresent more next' after k w.start parts = moves after (past_later blocks next all after v k w.start w.parts.items above adds (inl later) has.column.past) in
      let old : LeafRepresents after r w.leaf = LeafRepresents-outside all after r w.leaf v adds (inl later) (λ _. omega (arith, stamp))
      (LeafRepresents-cut all (current_range k w.start) r w.leaf (omega arith) (omega arith) refl (let h : at ≤ stamp_end = omega arith in h) has.column.shows) in
      record {
        column = rw (low, high, start) (record {
          shows = LeafRepresents-from after (current_range k w.start) leaf' w'.leaf at (omega arith) in_time from (LeafRepresents-adds all after (current_range k w.start) w.leaf leaf' v adds adds' (inl later) has.column.shows);
          past = puts after old past;
        });
        started = λ s up. rw start (inl (omega (arith, up v adds.has, stamp)));
      });
}

-- the same with what both calls of a shelf leave
pub took : {O Pen Seen : Type 0} (device : Ghosts O Pen Seen) (old mid new : Shelf O Pen Seen) (column : Option ℕ) (n : ℕ) (w w' : Whole) (leaf : List Version) (parts : List Part) (v : Version) (at start : ℕ)
    → start ≡ w.start → w.leaf ≡ leaf ++ v ∷ [] → v.stamp ≡ at → IsFrom w.leaf at w'.leaf → at < stamp_end → w.start < at → w'.low ≡ w.low → w'.high ≡ w.high → w'.start ≡ at
    → ((blocks : ℕ → Option BlockNode) → ShelfRepresents device old blocks → MakesRoom device mid blocks (packed w column blocks) (next_of old) w parts)
    → SettlesAs device mid new n (old_leaf (keys_of_whole w) w.start at leaf)
    → ((blocks : ℕ → Option BlockNode) (all : List Version) → ShelfRepresents device mid blocks → LeafRepresents all (until (current_range (keys_of_whole w) start) at) leaf → PartsRepresent blocks (next_of mid) all (keys_of_whole w) start parts
    → PartsRepresent (with_block n (old_leaf (keys_of_whole w) start at leaf) blocks) (next_of new) all (keys_of_whole w) at w'.parts.items)
    → (blocks : ℕ → Option BlockNode) → ShelfRepresents device old blocks → TakesOn device new blocks (burnt w leaf at (record { column = column; leaf = n }) blocks) (next_of old) v (with_leaf w leaf) w'
took device old mid new column n w w' leaf parts v at start same is stamp from in_time forward low high starts room settled past blocks represents_node =
    let k : Keys = keys_of_whole w in
    let r = room blocks represents_node in
    let past' = subst (λ (s : ℕ). (blocks : ℕ → Option BlockNode) (all : List Version) → ShelfRepresents device mid blocks → LeafRepresents all (until (current_range k s) at) leaf → PartsRepresent blocks (next_of mid) all k s parts
    → PartsRepresent (with_block n (old_leaf k s at leaf) blocks) (next_of new) all k at w'.parts.items) same past in
    record {
      represents_node = settled.represents_node (packed w column blocks) r.represents_node;
      grows = λ m node was. settled.grows (packed w column blocks) r.represents_node m node (r.grows m node was);
      takes = takes_split blocks (packed w column blocks) (burnt w leaf at (record { column = column; leaf = n }) blocks) (next_of old) (next_of mid) (next_of new) (with_leaf w leaf) w' w.leaf parts v at is stamp from in_time forward low high starts
          r.moves (λ all shows was. past' (packed w column blocks) all r.represents_node shows was);
    }
