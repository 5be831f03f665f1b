use Rattle.std.proofs.Common.{Option, Some, sym, ap, ◌∙◌, subst, arith}
use Rattle.board.specs.Past.{Past}
use Rattle.board.specs.inner.Rule.{Starts}
use Rattle.board.proofs.Moves.{moves_at, splits_allowed}
use Rattle.board.proofs.opened.Opened.start.Goals as goal

pub load-requires : goal.load-requires
load-requires g c =
    let p = c.requires.past in
    let first = c.args.self.first in
    let starts = subst (λ (x : Option Past). Starts x (Some p.0)) (sym (ap (λ m. m.0.knows.past) first)) tt in
    (c.args.self.one_table, omega (arith, c.args.self.words), moves_at _ _ _ _ _ g.X.Target.fits p.0 (ap (λ m. m.1) first) (ap (λ m. m.0.writes) first) starts p.1 p.2)

pub split_seat-first-requires : goal.split_seat-first-requires
split_seat-first-requires g c = (c.load.ensures.0 ∙ c.args.self.one_table, omega (arith, c.args.self.words), splits_allowed _ _ _)
