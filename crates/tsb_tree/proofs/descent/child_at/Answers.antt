use Rattle.std.proofs.Common.{Err, sym, ap, subst}
use Rattle.tsb_tree.specs.Refusals.{BlamesNone}
use Rattle.tsb_tree.proofs.Raising.{walk_honest}
use Rattle.tsb_tree.proofs.Representing.{reads_as, fault_to, fault_from}
use Rattle.tsb_walk.specs.declared.page_place.PagePlace.{PagePlace}
use Rattle.tsb_tree.proofs.descent.child_at.Goals as goal

pub returns-in-Ok-clause-reads : goal.returns-in-Ok-clause-reads
returns-in-Ok-clause-reads g c = reads_as g.P.Pages c.args.pages.now c.down.new.pages _ _ c.in-Ok.ensures.same (λ is. cc) (λ is. cc)

pub returns-in-Err-clause-reads : goal.returns-in-Err-clause-reads
returns-in-Err-clause-reads g c =
    reads_as g.P.Pages c.args.pages.now c.down.new.pages _ _ c.in-Err.ensures.same (λ is. fault_to {A = PagePlace} c.in-Err.refusal c.from.result c.from.ensures is) (λ is. fault_from {B = PagePlace} c.in-Err.refusal c.from.result c.from.ensures is)

pub returns-in-Err-clause-honest : goal.returns-in-Err-clause-honest
returns-in-Err-clause-honest g c start shown children shows represents_node =
    subst BlamesNone (sym c.from.ensures) (walk_honest c.in-Err.refusal (g.P.Pages.down c.args.pages.now) c.in-Err.ensures.refused (λ page e. (c.in-Err.ensures.bad start shown shows page (ap Err e)).1 children represents_node))

pub returns-in-Ok-clause-lower : goal.returns-in-Ok-clause-lower
returns-in-Ok-clause-lower g c start shown children shows represents_node = (c.in-Ok.ensures.led start shown shows).lower children represents_node
