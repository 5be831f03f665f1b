use Rattle.std.proofs.Common.{sym, ◌∙◌, arith}
use Rattle.board.proofs.Moves.{sees_at}
use Rattle.board.proofs.board.Board.watermark.Goals as goal

pub load-requires : goal.load-requires
load-requires g c = (c.pass.invariant.0 ∙ sym c.self.invariant.0, omega (arith, c.self.invariant.1), sees_at _ _ _ _ _ c.pass.invariant.1)
