-- The terms of contracts on a write-once disk in memory.
use Rattle.std.specs.Prelude.{ℕ}
use Rattle.disk_memory.specs.declared.once.MemOnce.{MemOnce}

-- how many blocks it has
abbrev pub blocks_of : MemOnce → ℕ
blocks_of disk = disk.blocks
