-- The terms of contracts on a reader of blocks.
use Rattle.std.specs.Prelude.{ℕ, List, Some, Contains, ◌≡◌, length, nat_eq}
use Rattle.std.specs.Map.{remove_entry}
use Rattle.disk_models.specs.declared.once.OnceDisk.{Ghosts}
use Rattle.once_store.specs.declared.reader.ShelfReader.{ShelfReader}

-- its disk
abbrev pub reader_disk : {O Pen Seen : Type 0} {device : Ghosts O Pen Seen} → ShelfReader O Pen Seen device → O
reader_disk reader = reader.disk.value

-- how many blocks it caches at most
abbrev pub capacity_of : {O Pen Seen : Type 0} {device : Ghosts O Pen Seen} → ShelfReader O Pen Seen device → ℕ
capacity_of reader = reader.kept.cap

-- the blocks that it caches, with their numbers, the most recently used first
abbrev pub kept_blocks : {O Pen Seen : Type 0} {device : Ghosts O Pen Seen} → ShelfReader O Pen Seen device → List (ℕ × List ℕ)
kept_blocks reader = reader.kept.entries

-- blocks with their numbers, without that of this number
abbrev pub without : ℕ → List (ℕ × List ℕ) → List (ℕ × List ℕ)
without n blocks = remove_entry (nat_eq n) blocks

-- how many it caches now
abbrev pub kept_count : {O Pen Seen : Type 0} {device : Ghosts O Pen Seen} → ShelfReader O Pen Seen device → ℕ
kept_count reader = length reader.kept.entries

-- it caches this block under this number
abbrev pub IsCached : {O Pen Seen : Type 0} {device : Ghosts O Pen Seen} → ShelfReader O Pen Seen device → ℕ → List ℕ → Type 0
IsCached reader n block = Contains reader.kept.entries (n, block)

-- each block that it caches is the one that is known to be settled under its number
abbrev pub KnowsCached : {O Pen Seen : Type 0} (device : Ghosts O Pen Seen) → ShelfReader O Pen Seen device → Seen → Type 0
KnowsCached device reader seen = (n : ℕ) (block : List ℕ) → IsCached reader n block → device.known seen n ≡ Some block
