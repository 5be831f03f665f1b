-- What is true of each transaction: of which pages it holds images, and which page is the first that was never used.
use Rattle.std.proofs.Common.{◌≡◌, ◌≤◌, suc, List, [], ◌∷◌, length, ap, arith, refl}
use Rattle.disk_models.specs.declared.erase.EraseDisk.{Ghosts}
use Rattle.page_journal.specs.Journal.{home_pages}
use Rattle.page_journal.specs.Layout.{Image, pages_of}
use Rattle.page_journal.specs.Recovers.{AreBelow, AreDistinct}
use Rattle.buffer_pool.specs.Pool.{journal_of}
use Rattle.page_tx.specs.Tx.{named_pages, next_page, pool_of}
use Rattle.page_tx.specs.declared.tx.Tx.{Tx}

count_named : (images : List Image) → length (pages_of images) ≡ length images
count_named [] = refl
count_named (image ∷ rest) = ap suc (count_named rest)

pub held_few : {D : Type 0} {device : Ghosts D} (tx : Tx D device) → length (named_pages tx) ≤ 31
held_few tx = let count = count_named tx.images.items in let few = tx.few in omega (arith, count, few)

pub held_distinct : {D : Type 0} {device : Ghosts D} (tx : Tx D device) → AreDistinct (named_pages tx)
held_distinct tx = tx.distinct

pub held_below : {D : Type 0} {device : Ghosts D} (tx : Tx D device) → AreBelow (home_pages (journal_of (pool_of tx))) (named_pages tx)
held_below tx = tx.below

pub next_within : {D : Type 0} {device : Ghosts D} (tx : Tx D device) → next_page tx ≤ home_pages (journal_of (pool_of tx))
next_within tx = tx.last
