use Rattle.tsb_tree.proofs.Representing.{reads_as, fault_to, fault_from}
use Rattle.tsb_tree.proofs.reading.see.Goals as goal

pub returns-in-Ok-clause-reads : goal.returns-in-Ok-clause-reads
returns-in-Ok-clause-reads g c = reads_as g.P.Pages c.args.pages.now c.bring.new.pages _ _ c.in-Ok.ensures.same (λ is. cc) (λ is. cc)

pub returns-in-Err-clause-reads : goal.returns-in-Err-clause-reads
returns-in-Err-clause-reads g c =
    reads_as g.P.Pages c.args.pages.now c.bring.new.pages _ _ c.in-Err.ensures.same (λ is. fault_to {A = Unit {0}} c.in-Err.refusal c.from.result c.from.ensures is) (λ is. fault_from {B = Unit {0}} c.in-Err.refusal c.from.result c.from.ensures is)
