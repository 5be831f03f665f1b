-- The past of a column takes a leaf, and becomes one block.
use Rattle.std.proofs.Common.{◌≡◌, ℕ, ◌+◌, ◌<◌, ◌^◌, List, [], ◌∷◌, ◌++◌, length, Option, Result, Ok, Err, IfOk, refl, sym, ◌∙◌, ap, subst, arith}
use Rattle.std.specs.List.{AllByRecursion}
use Rattle.disk_models.specs.declared.once.OnceDisk.{Ghosts}
use Rattle.once_store.specs.declared.shelf.Shelf.{Shelf}
use Rattle.once_store.specs.Shelves.{disk_of, pen_of, next_of}
use Rattle.version_model.specs.declared.bounds.Bounds.{Bounds}
use Rattle.version_model.specs.declared.part.Part.{Part}
use Rattle.version_model.specs.Versions.{Version}
use Rattle.version_model.specs.Ranges.{until, stamp_end}
use Rattle.version_model.specs.LeafVersions.{LeafRepresents, IsFrom}
use Rattle.version_model.specs.Blocks.{BlockNode}
use Rattle.version_model.specs.Pages.{Keys, PartsRepresent, current_range}
use Rattle.version_model.proofs.api.Shown.{LeafRepresents-cut, LeafRepresents-from}
use Rattle.version_model.proofs.api.PastSplit.{PartsRepresent-pushed, PartsRepresent-moved}
use Rattle.tsb_node.specs.Columns.{ColumnInPage, IsColumn, AreAscending, BeginsAt, CanBeOldColumn, starts_of}
use Rattle.worm_migration.specs.declared.error.MigrationError.{MigrationError}
use Rattle.worm_migration.specs.Settled.{ShelfRepresents, with_block}
use Rattle.worm_migration.specs.Shelves.{KeepsShelf, SettlesAs}
use Rattle.worm_migration.specs.Columns.{ColumnHas, AreWholePast, old_leaf, leaf_part, old_column, column_part, up_to}
use Rattle.worm_migration.proofs.Blocks.{with_at}

-- the leaf in a block becomes the last part
pub past_pushed : {O Pen Seen : Type 0} (device : Ghosts O Pen Seen) (old new : Shelf O Pen Seen) (n : ℕ) (keys : Keys) (start at : ℕ) (leaf : List Version) → device.honest (disk_of old) (pen_of old) → KeepsShelf device old new (Ok n)
    → SettlesAs device old new n (old_leaf keys start at leaf) → start < at → (blocks : ℕ → Option BlockNode) (all : List Version) (parts : List Part) → ShelfRepresents device old blocks → LeafRepresents all (until (current_range keys start) at) leaf
    → PartsRepresent blocks (next_of old) all keys start parts → PartsRepresent (with_block n (old_leaf keys start at leaf) blocks) (next_of new) all keys at (parts ++ leaf_part start n ∷ [])
past_pushed device old new n keys start at leaf honest keeps settles forward blocks all parts represents_node shows past =
    PartsRepresent-pushed blocks (with_block n (old_leaf keys start at leaf) blocks) (next_of old) (next_of new) all keys start at n parts leaf (settles.grows blocks represents_node) forward
    (keeps.puts honest).blank.forward (omega (arith, keeps.next)) (with_at n (old_leaf keys start at leaf) blocks) shows past

-- the same of a call's answer, where it is one
pub past_pushed_if : {O Pen Seen : Type 0} (device : Ghosts O Pen Seen) (old new : Shelf O Pen Seen) (result : Result ℕ MigrationError) (keys : Keys) (start at : ℕ) (leaf : List Version) → device.honest (disk_of old) (pen_of old) → KeepsShelf device old new result
    → IfOk result (λ n. SettlesAs device old new n (old_leaf keys start at leaf)) → start < at
    → IfOk result (λ n. (blocks : ℕ → Option BlockNode) (all : List Version) (parts : List Part) → ShelfRepresents device old blocks → LeafRepresents all (until (current_range keys start) at) leaf
    → PartsRepresent blocks (next_of old) all keys start parts → PartsRepresent (with_block n (old_leaf keys start at leaf) blocks) (next_of new) all keys at (parts ++ leaf_part start n ∷ []))
past_pushed_if device old new (Ok n) keys start at leaf honest keeps settles forward = λ blocks all parts represents_node shows past. past_pushed device old new n keys start at leaf honest keeps settles forward blocks all parts represents_node shows past
past_pushed_if device old new (Err e) keys start at leaf honest keeps settles forward = tt

-- the column with that part and the leaf that stays
pub column_split : {O Pen Seen : Type 0} (device : Ghosts O Pen Seen) (old new : Shelf O Pen Seen) (n : ℕ) (keys : Keys) (start at : ℕ) (leaf newer : List Version) → device.honest (disk_of old) (pen_of old) → KeepsShelf device old new (Ok n)
    → SettlesAs device old new n (old_leaf keys start at leaf) → start < at → at < stamp_end → IsFrom leaf at newer → (blocks : ℕ → Option BlockNode) (all : List Version) (parts : List Part) → ShelfRepresents device old blocks
    → ColumnHas blocks (next_of old) all keys start parts leaf → ColumnHas (with_block n (old_leaf keys start at leaf) blocks) (next_of new) all keys at (parts ++ leaf_part start n ∷ []) newer
column_split device old new n keys start at leaf newer honest keeps settles forward in_time from blocks all parts represents_node has = record {
  shows = LeafRepresents-from all (current_range keys start) leaf newer at (omega arith) in_time from has.shows;
  past = past_pushed device old new n keys start at leaf honest keeps settles forward blocks all parts represents_node
      (LeafRepresents-cut all (current_range keys start) (until (current_range keys start) at) leaf (omega arith) (omega arith) refl (omega arith) has.shows) has.past;
}

-- all parts become one
pub past_moved : {O Pen Seen : Type 0} (device : Ghosts O Pen Seen) (old new : Shelf O Pen Seen) (n : ℕ) (keys : Keys) (at : ℕ) (parts : List Part) → device.honest (disk_of old) (pen_of old) → KeepsShelf device old new (Ok n)
    → SettlesAs device old new n (old_column keys at parts) → 0 < at → (blocks : ℕ → Option BlockNode) (all : List Version) → ShelfRepresents device old blocks
    → PartsRepresent blocks (next_of old) all keys at parts → PartsRepresent (with_block n (old_column keys at parts) blocks) (next_of new) all keys at (column_part n ∷ [])
past_moved device old new n keys at parts honest keeps settles some blocks all represents_node past =
    PartsRepresent-moved blocks (with_block n (old_column keys at parts) blocks) (next_of old) (next_of new) all keys at n parts (settles.grows blocks represents_node) some
    (keeps.puts honest).blank.forward (omega (arith, keeps.next)) (with_at n (old_column keys at parts) blocks) past

all_front : (P : ℕ → Type 0) (ns : List ℕ) (at : ℕ) → AllByRecursion P (ns ++ at ∷ []) → AllByRecursion P ns × P at
all_front P [] at all = (tt, all.0)
all_front P (n ∷ ns) at all = let rest = all_front P ns at all.1 in ((all.0, rest.0), rest.1)

ascending_front : (ns : List ℕ) (at : ℕ) → AreAscending (ns ++ at ∷ []) → AreAscending ns × AllByRecursion (λ n. n < at) ns
ascending_front [] at all = (tt, tt)
ascending_front (n ∷ ns) at all =
    let rest = ascending_front ns at all.1 in
    let front = all_front (λ later. n < later) ns at all.0 in
    ((front.0, rest.0), (front.1, rest.1))

all_before : (parts : List Part) (at : ℕ) → AllByRecursion (λ n. n < at) (starts_of parts) → AllByRecursion (λ (p : Part). p.start < at) parts
all_before [] at all = tt
all_before (p ∷ ps) at all = (all.0, all_before ps at all.1)

-- a whole past can be written as a block
pub past_can : (b : Bounds) (parts : List Part) (at : ℕ) → AreWholePast b parts at → CanBeOldColumn (record { bounds = up_to b at; parts = parts })
past_can b parts at is =
    let front = ascending_front (starts_of parts) at is.rising in
    record {
      bounds = is.bounds;
      follow = record {
        first = subst (λ (s : ℕ). BeginsAt s (starts_of parts)) (sym is.from_first) is.first;
        rising = front.0;
        before_end = all_before parts at front.1;
        fits = omega (arith, is.few);
      };
    }

-- it ends above stamp 0
pub past_some : (b : Bounds) (parts : List Part) (at : ℕ) → AreWholePast b parts at → 0 < at
past_some b [] at is = absurd is.first
past_some b (p ∷ ps) at is =
    let first : p.start ≡ 0 = is.first in
    let front = ascending_front (starts_of (p ∷ ps)) at is.rising in
    omega (arith, first, front.1.0)

-- the parts of a column in a page are a whole past, where there are any
pub whole_past : (column : ColumnInPage) → IsColumn column → (column.parts ≡ [] → ⊥) → column.current.start + 1 < 256 ^ 16 → AreWholePast column.bounds column.parts column.current.start
whole_past column is some in_time = whole column.parts refl
  where
    whole : (parts : List Part) → column.parts ≡ parts → AreWholePast column.bounds column.parts column.current.start
    whole [] e = absurd (some e)
    whole (p ∷ ps) e =
        let b = column.bounds in
        let at = column.current.start in
        let first : p.start ≡ b.start = rw e at is.follow.first in
        let rising : AreAscending (starts_of (p ∷ ps) ++ at ∷ []) = rw e at is.follow.rising in
        let front = ascending_front (starts_of (p ∷ ps)) at rising in
        let above : b.start < at = omega (arith, first, front.1.0) in
        rw e (record {
          bounds = record { high = is.bounds.order.high; end = (in_time, above) };
          from_first = is.follow.from_first;
          first = first ∙ is.follow.from_first;
          rising = rising;
          few = omega (arith, is.follow.fits, ap length e);
        })
