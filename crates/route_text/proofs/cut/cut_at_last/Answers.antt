use Rattle.route_text.proofs.Cuts.{last_parts, last_last, last_none}
use Rattle.route_text.proofs.cut.cut_at_last.Goals as goal

pub returns-clause-parts : goal.returns-clause-parts
returns-clause-parts c = last_parts c.args.mark c.args.text.now _ c.rsplit_once.ensures.cases c.requires

pub returns-clause-last : goal.returns-clause-last
returns-clause-last c = last_last c.args.mark c.args.text.now _ c.rsplit_once.ensures.cases c.requires

pub returns-clause-none : goal.returns-clause-none
returns-clause-none c = last_none c.args.mark c.args.text.now _ c.rsplit_once.ensures.cases c.requires
