use Rattle.route_text.proofs.NormalPaths.{built_normal}
use Rattle.route_text.proofs.path_builder.PathBuilder.finish.Goals as goal

pub returns-clause-normal : goal.returns-clause-normal
returns-clause-normal c = rw c.in_ok-close.ensures.closed (built_normal c.args.self.closed.items c.args.self.run.items c.requires.built)
