use Rattle.std.proofs.Common.{[], ◌∷◌, ◌++◌, ap, ◌∙◌, arith}
use Rattle.route_text.proofs.NormalPaths.{built_more, built_full, built_at}
use Rattle.route_text.proofs.path_builder.PathBuilder.push_number.Goals as goal
use Rattle.route_text.proofs.path_builder.PathBuilder.push_number.Goals.{then-len-ge-MOST_NUMBERS+in_ok-close, else-len-ge-MOST_NUMBERS}

pub returns-clause-built : goal.returns-clause-built
returns-clause-built c =
    elim c.if-len-ge-MOST_NUMBERS.branch [
      | then-len-ge-MOST_NUMBERS+in_ok-close w ↦
          built_at _ _ _ _
          (ap (λ s. s.closed.items) w.self-is ∙ w.in_ok-close.ensures.closed)
          (c.in_ok-push.ensures.items ∙ ap (λ s. s.run.items ++ c.args.number ∷ []) w.self-is ∙ ap (λ o. o ++ c.args.number ∷ []) w.in_ok-close.ensures.run)
          (built_full c.args.self.now.closed.items c.args.self.now.run.items c.args.number c.requires.built (omega (arith, c.len.ensures, w.if-len-ge-MOST_NUMBERS.true)) c.ranges.number.fits)
      | else-len-ge-MOST_NUMBERS w ↦
          built_at _ _ _ _
          (ap (λ s. s.closed.items) w.self-is)
          (c.in_ok-push.ensures.items ∙ ap (λ s. s.run.items ++ c.args.number ∷ []) w.self-is)
          (built_more c.args.self.now.closed.items c.args.self.now.run.items c.args.number c.requires.built (omega (arith, c.len.ensures, w.if-len-ge-MOST_NUMBERS.false)) c.ranges.number.fits)
    ]
