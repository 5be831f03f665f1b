use Rattle.route_text.proofs.NormalPaths.{built_set}
use Rattle.route_text.proofs.path_builder.PathBuilder.push_set.Goals as goal

pub returns-clause-built : goal.returns-clause-built
returns-clause-built c =
    rw (c.in_ok-push.ensures.items, c.in_ok-close.ensures.closed, c.in_ok-close.ensures.run) (built_set c.args.self.now.closed.items c.args.self.now.run.items _ c.requires.built c.requires.valid)
