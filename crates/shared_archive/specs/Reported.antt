-- What is known of an archive on disks of which a call returned a trouble, or that flushed.
use Rattle.std.specs.Prelude.{◌≡◌, ◌<◌, ◌⊎◌, ◌+◌, ℕ, List, [], length, min, sum_by, true, false, ⊤}
use Rattle.disk_models.specs.declared.erase.EraseDisk.{Ghosts as EraseGhosts}
use Rattle.disk_models.specs.declared.once.OnceDisk.{Ghosts as OnceGhosts}
use Rattle.route_meaning.specs.History.{History, applied}
use Rattle.tsb_tree.specs.Opened.{HasRootLevel}
use Rattle.query_threads.specs.declared.refusal.Trouble.{Trouble}
use Rattle.query_threads.specs.declared.refusal.Trouble.TheVariants.{Fault, NeedsRecovery, DamagedPage, DamagedBlock, CounterFull, TooHigh, PagesFull, OnceFull, OutOfMemory}
use Rattle.query_threads.specs.declared.refusal.Flush.{Flush}
use Rattle.query_threads.specs.declared.refusal.Flush.TheVariants.{Flushed, Clean}
use Rattle.disk_archive.specs.declared.archive.Archive.{Archive}
use Rattle.disk_archive.specs.Archives.{GoesOn, IsHonest, erase_of, is_down, pen_in}
use Rattle.disk_archive.specs.Blanks.{NoneBlank, unused_pages}
use Rattle.disk_archive.specs.Checks.{HasPages, root_in}
use Rattle.disk_archive.specs.Failures.{ReportsFailure}
use Rattle.disk_archive.specs.Homes.{IsHomed, closed_in, dirty_pages}

-- a disk counted one failure more; a count that is 2^64 - 1 stays
abbrev pub Failed : ℕ → ℕ → Type 0
Failed before after = after ≡ min (before + 1) 18446744073709551615

-- the archive needn't be opened again, as it was and as it is then
abbrev pub StaysUp : {E O Pen Seen : Type 0} {erase : EraseGhosts E} {once : OnceGhosts O Pen Seen} → Archive E O Pen Seen erase once → Archive E O Pen Seen erase once → Type 0
StaysUp a b = (is_down a ≡ false) × (is_down b ≡ false)

-- A call returned this trouble, of the archive as it was and as the call left it: one of its disks counted a failure; it must be opened
-- again; or it needn't be, before or after, and a page is damaged, which none is if it goes on with a history; or a change isn't applied,
-- since as many changes are applied as can be counted, or the tree has as many levels as it may have, or fewer than nine pages were never
-- used, or no block is blank any more; or it was out of memory. No call on it alone blames a block.
abbrev pub Reports : {E O Pen Seen : Type 0} {erase : EraseGhosts E} {once : OnceGhosts O Pen Seen} → Archive E O Pen Seen erase once → Trouble → Archive E O Pen Seen erase once → Type 0
Reports {erase = erase} {once = once} a Fault b = Failed (erase.fault_count (erase_of a)) (erase.fault_count (erase_of b)) ⊎ Failed (once.pen_fault_count (pen_in a)) (once.pen_fault_count (pen_in b))
Reports a NeedsRecovery b = is_down a ≡ true
Reports a (DamagedPage page) b = StaysUp a b × ((h : History) → GoesOn a h → ⊥)
Reports a (DamagedBlock block) b = ⊥
Reports a CounterFull b = StaysUp a b × ((h : History) → GoesOn a h → sum_by (λ p. length p.item.changes) (applied h) ≡ 18446744073709551615)
Reports a TooHigh b = StaysUp a b × (IsHonest a → (pages : List (List ℕ)) → HasPages a pages → HasRootLevel pages (root_in a) 7)
Reports a PagesFull b = StaysUp a b × (unused_pages a < 9)
Reports a OnceFull b = StaysUp a b × (IsHonest a → NoneBlank b)
Reports a OutOfMemory b = StaysUp a b

-- A look of a walk returned this trouble: exactly one failure came, which one of the disks counted, or a read of blocks; or it must be opened
-- again; or it was out of memory, or met damage, and needn't be opened again, before or after. What damage says of histories isn't stated here.
abbrev pub LookFails : {E O Pen Seen : Type 0} {erase : EraseGhosts E} {once : OnceGhosts O Pen Seen} → Archive E O Pen Seen erase once → Trouble → Archive E O Pen Seen erase once → Type 0
LookFails {O} a Fault b = (disk : O) × ReportsFailure a b disk ⊤
LookFails a NeedsRecovery b = is_down a ≡ true
LookFails a (DamagedPage page) b = StaysUp a b
LookFails a (DamagedBlock block) b = StaysUp a b
LookFails a CounterFull b = ⊥
LookFails a TooHigh b = ⊥
LookFails a PagesFull b = ⊥
LookFails a OnceFull b = ⊥
LookFails a OutOfMemory b = StaysUp a b

-- a step of flushing wrote home the page that waited longest; or no page waited, and the whole journal is free
abbrev pub Flushes : {E O Pen Seen : Type 0} {erase : EraseGhosts E} {once : OnceGhosts O Pen Seen} → Archive E O Pen Seen erase once → Flush → Archive E O Pen Seen erase once → Type 0
Flushes a Flushed b = IsHomed (dirty_pages a) (dirty_pages b)
Flushes a Clean b = (dirty_pages a ≡ []) × (dirty_pages b ≡ []) × (closed_in b ≡ 8)

-- Blocks couldn't be read with a look, as it was and as it is then: a read failed, which the look counted, unless it counts no more; or a
-- block is damaged, or it was out of memory, and no read failed.
abbrev pub Misses : {O Pen Seen : Type 0} → OnceGhosts O Pen Seen → Seen → Trouble → Seen → Type 0
Misses once seen Fault then = once.seen_fault_count then ≡ min (once.seen_fault_count seen + 1) 18446744073709551615
Misses once seen NeedsRecovery then = ⊥
Misses once seen (DamagedPage page) then = ⊥
Misses once seen (DamagedBlock block) then = once.seen_fault_count then ≡ once.seen_fault_count seen
Misses once seen CounterFull then = ⊥
Misses once seen TooHigh then = ⊥
Misses once seen PagesFull then = ⊥
Misses once seen OnceFull then = ⊥
Misses once seen OutOfMemory then = once.seen_fault_count then ≡ once.seen_fault_count seen
