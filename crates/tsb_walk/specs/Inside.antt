-- The blocks that a reader caches are on its disk.
use Rattle.std.specs.Prelude.{ℕ, ◌<◌, List}
use Rattle.disk_models.specs.declared.once.OnceDisk.{Ghosts}
use Rattle.once_store.specs.declared.reader.ShelfReader.{ShelfReader}
use Rattle.once_store.specs.Readers.{IsCached, reader_disk}

-- each block that the reader caches has a number below the count of its disk's blocks
abbrev pub CachesInside : {O Pen Seen : Type 0} (device : Ghosts O Pen Seen) → ShelfReader O Pen Seen device → Type 0
CachesInside device reader = (n : ℕ) (block : List ℕ) → IsCached reader n block → n < device.block_count (reader_disk reader)
