use Rattle.route_text.proofs.Cuts.{cut_parts, cut_first, cut_none}
use Rattle.route_text.proofs.cut.cut_at_first.Goals as goal

pub returns-clause-parts : goal.returns-clause-parts
returns-clause-parts c = cut_parts c.args.mark c.args.text.now _ c.split_once.ensures.cases c.requires

pub returns-clause-first : goal.returns-clause-first
returns-clause-first c = cut_first c.args.mark c.args.text.now _ c.split_once.ensures.cases c.requires

pub returns-clause-none : goal.returns-clause-none
returns-clause-none c = cut_none c.args.mark c.args.text.now _ c.split_once.ensures.cases c.requires
