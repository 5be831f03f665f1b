use Rattle.tsb_walk.specs.declared.page_place.PagePlace.{PagePlace}
use Rattle.tsb_tree.proofs.Representing.{reads_as, fault_to, fault_from}
use Rattle.tsb_tree.proofs.leaf_opening.column_of.Goals as goal

pub returns-in-Ok-clause-reads : goal.returns-in-Ok-clause-reads
returns-in-Ok-clause-reads g c = reads_as g.P.Pages c.args.pages.now c.locate.new.pages _ _ c.in-Ok.ensures.same (λ is. cc) (λ is. cc)

pub returns-in-Err-clause-reads : goal.returns-in-Err-clause-reads
returns-in-Err-clause-reads g c =
    reads_as g.P.Pages c.args.pages.now c.locate.new.pages _ _ c.in-Err.ensures.same (λ is. fault_to {A = PagePlace} c.in-Err.refusal c.from.result c.from.ensures is) (λ is. fault_from {B = PagePlace} c.in-Err.refusal c.from.result c.from.ensures is)
