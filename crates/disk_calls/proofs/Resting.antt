-- What the disks of an archive leave now.
use Rattle.std.proofs.Common.{inl, inr}
use Rattle.disk_models.specs.declared.erase.EraseDisk.{Ghosts as EraseGhosts}
use Rattle.disk_models.specs.declared.once.OnceDisk.{Ghosts as OnceGhosts}
use Rattle.disk_models.specs.Once.{settled_in}
use Rattle.page_journal.proofs.api.Kept.{kept_recovers}
use Rattle.buffer_pool.specs.Pool.{journal_of}
use Rattle.page_tx.specs.Tx.{pool_of}
use Rattle.route_meaning.specs.History.{History}
use Rattle.route_meaning.proofs.api.Beginning.{Begins-refl}
use Rattle.archive_pages.proofs.api.Representing.{head_represents_grown}
use Rattle.disk_archive.specs.declared.archive.Archive.{Archive}
use Rattle.disk_archive.specs.Archives.{GoesOn, erase_state, once_of, once_state, site_of}
use Rattle.disk_archive.specs.Sites.{Rests}
use Rattle.disk_archive.specs.Trees.{TreeLocated}
use Rattle.disk_archive.proofs.api.Trees.{tree_grows}

-- a history with which an archive goes on rests on its disks
pub rests_now : {E O Pen Seen : Type 0} {erase : EraseGhosts E} {once : OnceGhosts O Pen Seen} (a : Archive E O Pen Seen erase once) (h : History) → GoesOn a h → Rests (site_of a) (erase_state a) (once_state a) h
rests_now {erase = erase} {once = once} a h (inl k) = λ left now. (
  h,
  Begins-refl h,
  record {
    pages = k.pages;
    means = kept_recovers erase (journal_of (pool_of a.tx)) k.pages k.maps.keeps left.erase now.erase;
    represents = record {
      head = a.head;
      valid = k.valid;
      first = k.first;
      head_represents = head_represents_grown (TreeLocated (once.block_count (once_of a))) (tree_grows (once.block_count (once_of a))) a.settings (settled_in (once_state a)) (settled_in left.once) now.settled a.head k.pages h k.head_represents;
    };
  },
)
rests_now a h (inr waits) = waits.rests
