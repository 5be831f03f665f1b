-- Readers of an archive's blocks, and what calls leave that only read.
use Rattle.std.specs.Prelude.{◌≡◌, ◌↔◌, ℕ, List, Some, true}
use Rattle.disk_models.specs.declared.erase.EraseDisk.{Ghosts as EraseGhosts}
use Rattle.disk_models.specs.declared.once.OnceDisk.{Ghosts as OnceGhosts}
use Rattle.once_store.specs.declared.reader.ShelfReader.{ShelfReader}
use Rattle.once_store.specs.Readers.{IsCached, reader_disk}
use Rattle.route_meaning.specs.History.{History}
use Rattle.disk_archive.specs.declared.archive.Archive.{Archive}
use Rattle.disk_archive.specs.Archives.{RepresentsIfHonest, IsHonest, Represents, ContinuesFrom, erase_of, erase_state, is_down, once_of, once_state, settings_of, site_of}
use Rattle.disk_archive.specs.Crashes.{Crashes, Lasts}
use Rattle.disk_archive.specs.Sites.{LeftRepresents}

-- The reader is one of the archive's write-once disk, and each block that it caches is settled there under its number.
pub record ReadsFrom {E O Pen Seen : Type 0} {erase : EraseGhosts E} {once : OnceGhosts O Pen Seen} (a : Archive E O Pen Seen erase once) (reader : ShelfReader O Pen Seen once) : Type 0 where
  pub disk : reader_disk reader ≡ once_of a
  pub kept : (n : ℕ) (block : List ℕ) → IsCached reader n block → (once_state a).settled n ≡ Some block

-- What a call that only reads leaves of an archive: the history that it represents, also after a crash inside the call; its disks, and what
-- it was made with. Nothing at all changes if it must be opened again.
pub record LeavesArchive {E O Pen Seen : Type 0} {erase : EraseGhosts E} {once : OnceGhosts O Pen Seen} (a b : Archive E O Pen Seen erase once) : Type 0 where
  pub holds : (h : History) → RepresentsIfHonest a h → RepresentsIfHonest b h
  pub crash : (h : History) → Represents a h → Crashes a b (LeftRepresents (site_of a) h)
  pub lasts : (h : History) → ContinuesFrom a h → Lasts a b h
  pub still : IsHonest a → (h : History) → RepresentsIfHonest a h → (erase_state b).clock ≡ (erase_state a).clock
  pub idle : is_down a ≡ true → (erase_of b ≡ erase_of a) × (once_state b ≡ once_state a)
  pub down : is_down b ≡ is_down a
  pub honest : IsHonest a ↔ IsHonest b
  pub settings : settings_of b ≡ settings_of a
  pub disk : once_of b ≡ once_of a
  pub blocks : IsHonest a → once_state b ≡ once_state a
