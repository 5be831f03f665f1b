-- What a call leaves of the shelf of an archive.
use Rattle.std.proofs.Common.{◌≤◌, ◌+◌, ◌++◌, ◌∙◌, inl, inr, ℕ, suc, List, [], ◌∷◌, length, Bool, true, false, cond, not, refl, sym, subst, arith, length-append}
use Rattle.std.specs.List.{filter}
use Rattle.page_journal.specs.Bookkeeping.{is_among, without}
use Rattle.page_journal.specs.Recovers.{IsListed}
use Rattle.page_tx.specs.Images.{joined}
use Rattle.disk_models.specs.declared.once.OnceDisk.{Ghosts as OnceGhosts}
use Rattle.disk_models.specs.Once.{OnceState}
use Rattle.disk_models.proofs.api.Growing.{grows_then}
use Rattle.once_store.specs.declared.shelf.Shelf.{Shelf}
use Rattle.once_store.specs.Shelves.{AllTried, next_of, pen_of}
use Rattle.tsb_tree.specs.Shelves.{LeavesShelf, SpendsAtMost}
use Rattle.disk_archive.specs.inner.Applications.{KeepsBlocks}

pub spends_none : (most : ℕ) (o : OnceState) → SpendsAtMost most o o
spends_none most o = record { spent = []; few = omega arith; tried = λ i not. refl; burnt = λ i not block is. is }

-- no block was tried
pub keeps_none : {O Pen Seen : Type 0} (device : OnceGhosts O Pen Seen) (most : ℕ) (shelf : Shelf O Pen Seen) (full : Type 0) → (full → ⊥) → KeepsBlocks device most shelf shelf full
keeps_none device most shelf full never = record {
  disk = refl;
  honest = (λ h. h, λ h. h);
  forward = omega arith;
  grows = λ h. record { tried = λ n t. t; settled = λ n b s. s };
  spends = λ h. spends_none most (device.model (pen_of shelf));
  none_left = λ h f. absurd (never f);
}

-- the tree took a version, or refused
pub keeps_tree : {O Pen Seen : Type 0} (device : OnceGhosts O Pen Seen) (old new : Shelf O Pen Seen) (fault full reported : Type 0) → (reported → full) → LeavesShelf device 2 old new fault full → KeepsBlocks device 2 old new reported
keeps_tree device old new fault full reported so l = record {
  disk = l.disk;
  honest = (
    λ h. subst (λ d. device.honest d (pen_of new)) (sym l.disk) (l.honest.0 h),
    λ h. l.honest.1 (subst (λ d. device.honest d (pen_of new)) l.disk h),
  );
  forward = l.forward;
  grows = λ h. (l.leaves h).grows;
  spends = λ h. (l.leaves h).spends;
  none_left = λ h f. l.none_left h (so f);
}

-- a full disk is reported by another refusal
pub keeps_reported : {O Pen Seen : Type 0} (device : OnceGhosts O Pen Seen) (most : ℕ) (old new : Shelf O Pen Seen) (full reported : Type 0) → (reported → full) → KeepsBlocks device most old new full → KeepsBlocks device most old new reported
keeps_reported device most old new full reported so k = record { disk = k.disk; honest = k.honest; forward = k.forward; grows = k.grows; spends = k.spends; none_left = λ h f. k.none_left h (so f) }

-- fewer blocks are no more than many
pub keeps_fewer : {O Pen Seen : Type 0} (device : OnceGhosts O Pen Seen) (few many : ℕ) (old new : Shelf O Pen Seen) (full : Type 0) → few ≤ many → KeepsBlocks device few old new full → KeepsBlocks device many old new full
keeps_fewer device few many old new full le k = record {
  disk = k.disk;
  honest = k.honest;
  forward = k.forward;
  grows = k.grows;
  spends = λ h. (let s = k.spends h in record { spent = s.spent; few = (let n = s.few in omega (arith, n, le)); tried = s.tried; burnt = s.burnt });
  none_left = k.none_left;
}

listed_left : (i : ℕ) (a b : List ℕ) → IsListed i a → IsListed i (a ++ b)
listed_left i [] b h = absurd h
listed_left i (x ∷ a) b (inl e) = inl e
listed_left i (x ∷ a) b (inr h) = inr (listed_left i a b h)

listed_right : (i : ℕ) (a b : List ℕ) → IsListed i b → IsListed i (a ++ b)
listed_right i [] b h = h
listed_right i (x ∷ a) b h = inr (listed_right i a b h)

spends_then : (m n : ℕ) (a b c : OnceState) → SpendsAtMost m a b → SpendsAtMost n b c → SpendsAtMost (m + n) a c
spends_then m n a b c one two = record {
  spent = one.spent ++ two.spent;
  few = omega (arith, length-append one.spent two.spent, one.few, two.few);
  tried = λ i not. two.tried i (λ h. not (listed_right i one.spent two.spent h)) ∙ one.tried i (λ h. not (listed_left i one.spent two.spent h));
  burnt = λ i not block is. one.burnt i (λ h. not (listed_left i one.spent two.spent h)) block (two.burnt i (λ h. not (listed_right i one.spent two.spent h)) block is);
}

-- one call after another, of which only the second may report a full disk
pub keeps_then : {O Pen Seen : Type 0} (device : OnceGhosts O Pen Seen) (m n : ℕ) (a b c : Shelf O Pen Seen) (full other : Type 0) → KeepsBlocks device m a b other → KeepsBlocks device n b c full → KeepsBlocks device (m + n) a c full
keeps_then device m n a b c full other one two = record {
  disk = two.disk ∙ one.disk;
  honest = (λ h. two.honest.0 (one.honest.0 h), λ h. one.honest.1 (two.honest.1 h));
  forward = (let e = one.forward in let f = two.forward in omega (arith, e, f));
  grows = λ h. grows_then (device.model (pen_of a)) (device.model (pen_of b)) (device.model (pen_of c)) (one.grows h) (two.grows (one.honest.0 h));
  spends = λ h. spends_then m n (device.model (pen_of a)) (device.model (pen_of b)) (device.model (pen_of c)) (one.spends h) (two.spends (one.honest.0 h));
  none_left = λ h f. subst (λ d. AllTried (device.model (pen_of c)) (next_of c) (device.block_count d)) one.disk (two.none_left (one.honest.0 h) f);
}

filter_few : {X : Type 0} (p : X → Bool) (xs : List X) → length (filter p xs) ≤ length xs
filter_few p [] = omega arith
filter_few p (x ∷ xs) = let ih = filter_few p xs in cases (p x) ih
  where
    cases : (b : Bool) → length (filter p xs) ≤ length xs → length (cond b (x ∷ filter p xs) (filter p xs)) ≤ suc (length xs)
    cases true ih = omega (arith, ih)
    cases false ih = omega (arith, ih)

-- images are held of no more pages than of both
pub joined_few : (old new : List ℕ) → length (joined old new) ≤ length old + length new
joined_few old new = let a = length-append old (without old new) in let b = filter_few (λ n. not (is_among n old)) new in omega (arith, a, b)
