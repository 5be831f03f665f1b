use Rattle.std.proofs.Common.{◌∙◌, length, ap, sym}
use Rattle.tsb_node.proofs.Laying.{laid_is, laid_all}
use Rattle.tsb_node.proofs.leaf.put_back.Goals as goal

pub returns : goal.returns
returns c = laid_is 0 c.args.octets.now c.args.page.now c.put.new.self c.put.ensures
    ∙ laid_all c.args.octets.now c.args.page.now (sym (ap length c.octets-old.ensures.value) ∙ c.octets-old.ensures.size ∙ sym c.requires.size)
