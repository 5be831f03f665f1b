-- What is made in memory before an archive's disks are written.
use Rattle.std.specs.Prelude.{ℕ, ◌+◌, List, Result, Ok, Err, replicate}
use Rattle.disk_models.specs.declared.erase.EraseDisk.{Ghosts as EraseGhosts}
use Rattle.disk_models.specs.Erase.{DiskState, MayLeave}
use Rattle.page_journal.specs.Journal.{disk_of}
use Rattle.page_journal.specs.Recovers.{Recovers}
use Rattle.buffer_pool.specs.Pool.{journal_of}
use Rattle.page_journal.specs.declared.refused.Refused.{Refused as Handed}
use Rattle.page_tx.specs.declared.tx.Tx.{Tx}
use Rattle.page_tx.specs.Tx.{pool_of}
use Rattle.archive_head.specs.declared.lane.Lane.{Lane}
use Rattle.archive_head.specs.Head.{Contents}
use Rattle.archive_pages.specs.declared.settings.Settings.{Settings}
use Rattle.archive_pages.specs.Places.{tree_low}

-- what the head has of a collector that gave nothing
abbrev pub bare_lane : Lane
bare_lane = record { offered = 0; admitted = 0; mark = 0; first = 0; used = 0; since = 0 }

-- the head of an archive to which nothing was given, if no block before this one is blank
abbrev pub bare_head : Settings → ℕ → Contents
bare_head s block = record {
  applied = 0;
  last = 0;
  begun = 0;
  fresh = tree_low s + 2;
  block = block;
  root = tree_low s;
  lanes = replicate s.collectors bare_lane;
}

-- the disk below the new pages, or the one that is returned
abbrev pub disk_left : {E X : Type 0} {erase : EraseGhosts E} → Result (Tx E erase) (Handed E X) → E
disk_left (Ok tx) = disk_of (journal_of (pool_of tx))
disk_left (Err refused) = refused.disk

-- the result without the pages and the disk
abbrev pub reported : {E X : Type 0} {erase : EraseGhosts E} → Result (Tx E erase) (Handed E X) → Result (Unit {0}) X
reported (Ok tx) = Ok tt
reported (Err refused) = Err refused.error

-- whatever a crash now leaves on the disk represents these pages
abbrev pub CrashRepresents : ℕ → List ℕ → DiskState → List (List ℕ) → Type 0
CrashRepresents homes note s pages = (c : ℕ → ℕ) → MayLeave s c → Recovers homes note c pages
