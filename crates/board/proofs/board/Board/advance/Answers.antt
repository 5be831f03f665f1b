use Rattle.std.proofs.Common.{sym, ◌∙◌, subst, arith}
use Rattle.board.specs.Past.{GoesOnAs}
use Rattle.board.specs.Views.{View}
use Rattle.board.proofs.Reaching.{starts_from}
use Rattle.board.proofs.Moves.{moves_at}
use Rattle.board.proofs.board.Board.advance.Goals as goal

pub load-requires : goal.load-requires
load-requires g c =
    let w = c.writer.invariant in
    let p = c.requires.past in
    let later = starts_from c.writer.inside.seat.me.0.knows.past p.0 w.3 (subst (λ (k : View). GoesOnAs k.past p.0) (sym c.writer.view_is) p.2) in
    (w.0 ∙ sym c.self.invariant.0, omega (arith, c.self.invariant.1), moves_at _ _ _ _ _ g.X.Target.fits p.0 w.1 w.2 later p.1 p.3)
