-- The terms of contracts on what a reader knows.
use Rattle.std.specs.Prelude.{ℕ, List}
use Rattle.disk_memory.specs.Burning.{Burning}
use Rattle.disk_memory.specs.declared.seen.MemSeen.{MemSeen}

-- the burns that were settled when it was made
abbrev pub known_burns_of : MemSeen → List Burning
known_burns_of seen = seen.burns.items

-- how often a read with it has failed
abbrev pub seen_faults_of : MemSeen → ℕ
seen_faults_of seen = seen.faults

-- the numbers of the reads that fail
abbrev pub failing_of : MemSeen → List ℕ
failing_of seen = seen.failing.items

-- the number of the next read
abbrev pub seen_reads_of : MemSeen → ℕ
seen_reads_of seen = seen.reads
