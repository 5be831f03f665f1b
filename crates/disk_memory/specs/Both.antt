-- What a crash leaves of both disks in memory.
use Rattle.std.specs.Prelude.{List}
use Rattle.disk_models.specs.Left.{Left}
use Rattle.disk_memory.specs.declared.torn.Torn.{Torn}
use Rattle.disk_memory.specs.declared.erase.MemErase.{MemErase}
use Rattle.disk_memory.specs.declared.pen.MemPen.{MemPen}
use Rattle.disk_memory.specs.Memory.{calls_of}
use Rattle.disk_memory.specs.Pen.{once_model}
use Rattle.disk_memory.specs.Replay.{left_all, left_by}

-- the octets that the choice leaves of the one, and the state with which the other begins again
abbrev pub left_of_both : List Torn → MemErase → MemPen → Left
left_of_both choice erase found = record { erase = left_by choice (calls_of erase); once = once_model found }

-- the same of a crash that tears all that it may change in one way
abbrev pub left_of_all : Torn → MemErase → MemPen → Left
left_of_all torn erase found = record { erase = left_all torn (calls_of erase); once = once_model found }
