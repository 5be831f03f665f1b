use Rattle.std.proofs.Common.{sym, ◌∙◌, arith}
use Rattle.board.proofs.Moves.{splits_allowed}
use Rattle.board.proofs.board.Board.split.Goals as goal

pub split_seat-requires : goal.split_seat-requires
split_seat-requires g c = (c.pass.invariant.0 ∙ sym c.self.invariant.0, omega (arith, c.self.invariant.1), splits_allowed _ _ _)
