use Rattle.std.proofs.Common.{rules, ◌≡◌, Err, subst, arith}
use Rattle.tsb_walk.specs.declared.error.NodeError.TheVariants.{BadNode}
use Rattle.tsb_walk.specs.Looked.{LooksBelow}
use Rattle.tree_questions.proofs.naming.next_named.Goals as goal

pub returns-in_err-check_named-clause-blames : goal.returns-in_err-check_named-clause-blames
returns-in_err-check_named-clause-blames g c = λ start shown shows s all st next page e.
    let d : c.check_named.result ≡ Err (BadNode page) = search rules in
    let below = subst (LooksBelow s.next) c.in-InBlock.is (c.in_ok-looked.ensures.below start shown shows s all st) in
    let above = c.check_named.ensures.bad page d in
    absurd (omega (arith, below, above, next))
