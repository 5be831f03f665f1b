use Rattle.std.proofs.Common.{vec_len}
use Rattle.tables.proofs.cursor.Cursor.take_found.Given as goal

abbrev pub decreases-loop-row : goal.decreases-loop-row
decreases-loop-row l = vec_len l.self.found
