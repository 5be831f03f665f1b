use Rattle.tsb_node.proofs.leaf.push_anew.Goals as goal

pub returns-in_err-copy_whole : goal.returns-in_err-copy_whole
returns-in_err-copy_whole c = record { pushed = λ leaf is none within above. absurd (c.in_err-copy_whole.ensures.whole leaf is none) }
