use Rattle.std.proofs.Common.{drop}
use Rattle.mrt_records.proofs.api.Pieces.{Reached}
use Rattle.mrt_records.proofs.framer.read_stream.Given as goal

abbrev pub invariant-loop-piece : goal.invariant-loop-piece
invariant-loop-piece l = Reached l.pieces (drop l.piece-index l.pieces) l.framer l.fn.out.items l.out.items
