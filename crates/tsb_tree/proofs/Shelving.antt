-- What calls leave of a shelf.
use Rattle.std.proofs.Common.{◌≡◌, ℕ, pred, ◌+◌, ◌<◌, ◌≤◌, inl, inr, List, [], ◌∷◌, ◌++◌, length-append, Option, Result, Ok, Err, min, refl, sym, ◌∙◌, ap, subst, arith}
use Rattle.std.proofs.lemmas.Bool.{false≢true}
use Rattle.page_journal.specs.Recovers.{IsListed}
use Rattle.disk_models.specs.declared.once.OnceDisk.{Ghosts}
use Rattle.disk_models.specs.Once.{OnceState}
use Rattle.once_store.specs.declared.shelf.Shelf.{Shelf}
use Rattle.once_store.specs.Shelves.{Spends, disk_of, pen_of, next_of}
use Rattle.once_store.specs.declared.error.AppendError.TheVariants as appends
use Rattle.worm_migration.specs.declared.error.MigrationError.{MigrationError}
use Rattle.worm_migration.specs.declared.error.MigrationError.TheVariants as migrations
use Rattle.worm_migration.specs.Shelves.{KeepsShelf, PutsBlock}
use Rattle.worm_migration.specs.Settled.{ShelfRepresents}
use Rattle.version_model.specs.Blocks.{BlockNode}
use Rattle.tsb_tree.specs.declared.error.TreeError.{TreeError}
use Rattle.tsb_tree.specs.declared.error.TreeError.TheVariants as errors
use Rattle.tsb_tree.specs.Refusals.{of_migration}
use Rattle.tsb_tree.specs.Shelves.{HasNoneBlank, KeepsShelf as TreeKeeps, LeavesShelf, LeavesDisk, SpendsAtMost, SpendsOne}

-- nothing was called
pub leaves_none : {O Pen Seen : Type 0} (device : Ghosts O Pen Seen) (most : ℕ) (s : Shelf O Pen Seen) (F G : Type 0) → (F → ⊥) → (G → ⊥) → LeavesShelf device most s s F G
leaves_none device most s F G nf ng = record {
  disk = refl;
  honest = (λ h. h, λ h. h);
  forward = omega arith;
  within = omega arith;
  leaves = λ _. record {
    grows = record { tried = λ n h. h; settled = λ n block h. h };
    spends = record { spent = []; few = omega arith; tried = λ i _. refl; burnt = λ i _ block is. is };
    below = λ h. h;
    earlier = λ left h. h;
  };
  quiet = λ _. refl;
  counted = λ f. absurd (nf f);
  none_left = λ _ g. absurd (ng g);
}

-- one block is spent where at most one is
spends_one : (from to : ℕ) (old new : OnceState) → Spends from to old new → SpendsAtMost 1 old new
spends_one from to old new s = record {
  spent = pred to ∷ [];
  few = omega arith;
  tried = λ i not. s.tried i (inr (λ e. not (inl (ap pred e))));
  burnt = λ i not. s.burnt i (inr (λ e. not (inl (ap pred e))));
}

leaves_put : (count from to : ℕ) (old new : OnceState) (result : Result ℕ MigrationError) → PutsBlock count from to old new result → LeavesDisk 1 count from to old new
leaves_put count from to old new result puts = record { grows = puts.grows; spends = spends_one from to old new puts.spends; below = puts.below; earlier = puts.earlier }

ok_err : (n : ℕ) (m : MigrationError) → ◌≡◌ {A = Result ℕ MigrationError} (Ok n) (Err m) → ⊥
ok_err n m e = cc

pub leaves_ok : {O Pen Seen : Type 0} (device : Ghosts O Pen Seen) (old new : Shelf O Pen Seen) (n : ℕ) (F G : Type 0) → KeepsShelf device old new (Ok n) → (F → ⊥) → (G → ⊥) → LeavesShelf device 1 old new F G
leaves_ok device old new n F G keeps nf ng = record {
  disk = keeps.disk;
  honest = keeps.honest;
  forward = keeps.forward;
  within = keeps.within;
  leaves = λ honest. leaves_put (device.block_count (disk_of old)) (next_of old) (next_of new) (device.model (pen_of old)) (device.model (pen_of new)) (Ok n) (keeps.puts honest);
  quiet = λ _. keeps.quiet (ok_err n migrations.Fault);
  counted = λ f. absurd (nf f);
  none_left = λ _ g. absurd (ng g);
}

same_TreeErr : {A : Type 0} (m n : TreeError) → ◌≡◌ {A = Result A TreeError} (Err m) (Err n) → m ≡ n
same_TreeErr m n e = cc

was_fault : (m : MigrationError) → of_migration m ≡ errors.Once appends.Fault → m ≡ migrations.Fault
was_fault migrations.Fault e = refl
was_fault migrations.OnceFull e = cc
was_fault migrations.OutOfMemory e = cc

was_full : (m : MigrationError) → of_migration m ≡ errors.Once appends.OnceFull → m ≡ migrations.OnceFull
was_full migrations.Fault e = cc
was_full migrations.OnceFull e = refl
was_full migrations.OutOfMemory e = cc

same_Err : (m n : MigrationError) → ◌≡◌ {A = Result ℕ MigrationError} (Err m) (Err n) → m ≡ n
same_Err m n e = cc

pub leaves_err : {O Pen Seen : Type 0} (device : Ghosts O Pen Seen) (old new : Shelf O Pen Seen) (m : MigrationError) (F G : Type 0) → KeepsShelf device old new (Err m) → (F → of_migration m ≡ errors.Once appends.Fault) → (of_migration m ≡ errors.Once appends.Fault → F) → (G → of_migration m ≡ errors.Once appends.OnceFull) → LeavesShelf device 1 old new F G
leaves_err device old new m F G keeps f f' g = record {
  disk = keeps.disk;
  honest = keeps.honest;
  forward = keeps.forward;
  within = keeps.within;
  leaves = λ honest. leaves_put (device.block_count (disk_of old)) (next_of old) (next_of new) (device.model (pen_of old)) (device.model (pen_of new)) (Err m) (keeps.puts honest);
  quiet = λ nf. keeps.quiet (λ is. nf (f' (ap of_migration (same_Err m migrations.Fault is))));
  counted = λ is. keeps.counted (ap Err (was_fault m (f is)));
  none_left = λ honest is i from to.
      (let puts = keeps.puts honest in
      let full = ap Err (was_full m (g is)) in
      ap (λ (o : OnceState). o.tried i) (puts.same full) ∙ puts.full full i (omega (arith, keeps.forward, from)) to);
}

-- what a call of the tree returns where a node didn't become a block
pub err_shelf : {O Pen Seen A : Type 0} (device : Ghosts O Pen Seen) (old new : Shelf O Pen Seen) (m : MigrationError) (r : Result A TreeError) → r ≡ Err (of_migration m) → KeepsShelf device old new (Err m) → TreeKeeps device 1 old new r
err_shelf {A = A} device old new m r is keeps = rw is (leaves_err device old new m _ _ keeps (λ e. same_TreeErr {A = A} (of_migration m) _ e) (λ e. ap Err e) (λ e. same_TreeErr {A = A} (of_migration m) _ e))

-- and where one did
pub ok_shelf : {O Pen Seen A : Type 0} (device : Ghosts O Pen Seen) (old new : Shelf O Pen Seen) (n : ℕ) (a : A) → KeepsShelf device old new (Ok n) → TreeKeeps device 1 old new (Ok a)
ok_shelf device old new n a keeps = leaves_ok device old new n _ _ keeps (λ e. cc) (λ e. cc)

listed_left : (i : ℕ) (a b : List ℕ) → IsListed i a → IsListed i (a ++ b)
listed_left i [] b h = absurd h
listed_left i (x ∷ a) b (inl e) = inl e
listed_left i (x ∷ a) b (inr h) = inr (listed_left i a b h)

listed_right : (i : ℕ) (a b : List ℕ) → IsListed i b → IsListed i (a ++ b)
listed_right i [] b h = h
listed_right i (x ∷ a) b h = inr (listed_right i a b h)

spends_then : (m n : ℕ) (a b c : OnceState) → SpendsAtMost m a b → SpendsAtMost n b c → SpendsAtMost (m + n) a c
spends_then m n a b c one two = record {
  spent = one.spent ++ two.spent;
  few = omega (arith, length-append one.spent two.spent, one.few, two.few);
  tried = λ i not. two.tried i (λ h. not (listed_right i one.spent two.spent h)) ∙ one.tried i (λ h. not (listed_left i one.spent two.spent h));
  burnt = λ i not block is. one.burnt i (λ h. not (listed_left i one.spent two.spent h)) block (two.burnt i (λ h. not (listed_right i one.spent two.spent h)) block is);
}

disk_then : (m n count from mid to : ℕ) (a b c : OnceState) → LeavesDisk m count from mid a b → LeavesDisk n count mid to b c → LeavesDisk (m + n) count from to a c
disk_then m n count from mid to a b c one two = record {
  grows = record { tried = λ i is. two.grows.tried i (one.grows.tried i is); settled = λ i block is. two.grows.settled i block (one.grows.settled i block is) };
  spends = spends_then m n a b c one.spends two.spends;
  below = λ h. two.below (one.below h);
  earlier = λ left h. one.earlier left (two.earlier left h);
}

honest_then : {O Pen Seen : Type 0} (device : Ghosts O Pen Seen) (m : ℕ) (a b : Shelf O Pen Seen) (F G : Type 0) → LeavesShelf device m a b F G → device.honest (disk_of a) (pen_of a) → device.honest (disk_of b) (pen_of b)
honest_then device m a b F G one h = subst (λ d. device.honest d (pen_of b)) (sym one.disk) (one.honest.0 h)

-- one call after another
pub leaves_then : {O Pen Seen : Type 0} (device : Ghosts O Pen Seen) (m n : ℕ) (a b c : Shelf O Pen Seen) (F G F' G' : Type 0) → LeavesShelf device m a b F G → (F → ⊥) → LeavesShelf device n b c F' G' → LeavesShelf device (m + n) a c F' G'
leaves_then device m n a b c F G F' G' one nf two =
    let same_count : device.block_count (disk_of b) ≡ device.block_count (disk_of a) = ap device.block_count one.disk in
    record {
      disk = two.disk ∙ one.disk;
      honest = (λ h. subst (λ d. device.honest d (pen_of c)) one.disk (two.honest.0 (honest_then device m a b F G one h)), λ h. one.honest.1 (subst (λ d. device.honest d (pen_of b)) one.disk (two.honest.1 (subst (λ d. device.honest d (pen_of c)) (sym one.disk) h))));
      forward = omega (arith, one.forward, two.forward);
      within = omega (arith, one.within, two.within, same_count);
      leaves = λ h. disk_then m n (device.block_count (disk_of a)) (next_of a) (next_of b) (next_of c) (device.model (pen_of a)) (device.model (pen_of b)) (device.model (pen_of c)) (one.leaves h)
          (subst (λ count. LeavesDisk n count (next_of b) (next_of c) (device.model (pen_of b)) (device.model (pen_of c))) same_count (two.leaves (honest_then device m a b F G one h)));
      quiet = λ none. two.quiet none ∙ one.quiet nf;
      counted = λ f. two.counted f ∙ ap (λ k. min (k + 1) 18446744073709551615) (one.quiet nf);
      none_left = λ h g i from to. two.none_left (honest_then device m a b F G one h) g i from (omega (arith, to, same_count));
    }

-- the same of more blocks, and of failures that are the same ones
pub leaves_more : {O Pen Seen : Type 0} (device : Ghosts O Pen Seen) (m n : ℕ) (a b : Shelf O Pen Seen) (F G F' G' : Type 0) → m ≤ n → (F → F') → (F' → F) → (G' → G) → LeavesShelf device m a b F G → LeavesShelf device n a b F' G'
leaves_more device m n a b F G F' G' le f f' g one = record {
  disk = one.disk;
  honest = one.honest;
  forward = one.forward;
  within = one.within;
  leaves = λ h.
      (let l = one.leaves h in
      record { grows = l.grows; spends = record { spent = l.spends.spent; few = omega (arith, l.spends.few, le); tried = l.spends.tried; burnt = l.spends.burnt }; below = l.below; earlier = l.earlier });
  quiet = λ nf. one.quiet (λ is. nf (f is));
  counted = λ is. one.counted (f' is);
  none_left = λ h is. one.none_left h (g is);
}

-- what blocks represented they represent still
pub represents_on : {O Pen Seen : Type 0} (device : Ghosts O Pen Seen) (most : ℕ) (old new : Shelf O Pen Seen) (F G : Type 0) (blocks : ℕ → Option BlockNode) → LeavesShelf device most old new F G → device.honest (disk_of old) (pen_of old) → ShelfRepresents device old blocks → ShelfRepresents device new blocks
represents_on device most old new F G blocks leaves honest represents_node = record {
  each = λ n node is.
      (let at = represents_node.each n node is in
      record { inside = rw leaves.disk at.inside; octets = at.octets; settled = (leaves.leaves honest).grows.settled n at.octets at.settled; represents_node = at.represents_node });
}

pub honest_on : {O Pen Seen : Type 0} (device : Ghosts O Pen Seen) (most : ℕ) (old new : Shelf O Pen Seen) (F G : Type 0) → LeavesShelf device most old new F G → device.honest (disk_of old) (pen_of old) → device.honest (disk_of new) (pen_of new)
honest_on device most old new F G leaves honest = honest_then device most old new F G leaves honest

-- one block is spent at most
pub spends_none : {O Pen Seen : Type 0} (device : Ghosts O Pen Seen) (s : Shelf O Pen Seen) → SpendsOne device s s
spends_none device s honest = record { spent = []; few = omega arith; tried = λ i _. refl; burnt = λ i _ block is. is }

pub spends_same : {O Pen Seen : Type 0} (device : Ghosts O Pen Seen) (a b : Shelf O Pen Seen) → b ≡ a → SpendsOne device a b
spends_same {O} {Pen} {Seen} device a b same = subst (λ (s : Shelf O Pen Seen). SpendsOne device s b) same (spends_none device b)

pub spends_leaves : {O Pen Seen : Type 0} (device : Ghosts O Pen Seen) (a b : Shelf O Pen Seen) (F G : Type 0) → LeavesShelf device 1 a b F G → SpendsOne device a b
spends_leaves device a b F G leaves honest = (leaves.leaves honest).spends

pub spends_on : {O Pen Seen : Type 0} (device : Ghosts O Pen Seen) (a b c : Shelf O Pen Seen) (F G : Type 0) → b ≡ a → LeavesShelf device 1 b c F G → SpendsOne device a c
spends_on {O} {Pen} {Seen} device a b c F G same leaves = subst (λ (s : Shelf O Pen Seen). SpendsOne device s c) same (spends_leaves device b c F G leaves)

-- where no block was blank before a call, none is after it
pub none_blank_on : {O Pen Seen : Type 0} (device : Ghosts O Pen Seen) (most : ℕ) (old new : Shelf O Pen Seen) (F G : Type 0) → LeavesShelf device most old new F G → device.honest (disk_of old) (pen_of old) → HasNoneBlank device old → HasNoneBlank device new
none_blank_on device most old new F G leaves honest none i from to =
    (leaves.leaves honest).grows.tried i (none i (omega (arith, leaves.forward, from)) (subst (λ d. i < device.block_count d) leaves.disk to))

-- where none is blank, none is put on the shelf
pub none_put : {O Pen Seen : Type 0} (device : Ghosts O Pen Seen) (old new : Shelf O Pen Seen) (n : ℕ) → KeepsShelf device old new (Ok n) → device.honest (disk_of old) (pen_of old) → HasNoneBlank device old → ⊥
none_put device old new n keeps honest none = false≢true ((keeps.puts honest).none_left none)
