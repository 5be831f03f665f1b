use Rattle.std.proofs.Common.{ℕ, List, ◌∷◌, [], ◌++◌, take, sym, ap, ◌∙◌}
use Rattle.route_meaning.specs.Holds.{admitted_time}
use Rattle.route_meaning.specs.Merged.{part}
use Rattle.route_meaning.specs.History.{first_or, bounds}
use Rattle.interleaving_core.proofs.Settled.{bounds_more}
use Rattle.interleaving_core.proofs.settling.bounds_of.Goals as goal

pub loop-collector-preserved : goal.loop-collector-preserved
loop-collector-preserved c =
    let k = c.loop-collector.collector in
    let i = c.index-given-collector.result in
    let ps = c.args.waiting.now in
    c.in_ok-push.ensures.items
    ∙ (ap (λ (l : List ℕ). l ++ c.bound_of.result ∷ []) c.loop-collector.invariant
    ∙ (ap (λ (n : ℕ). bounds 0 (take k c.args.given.now) ps ++ n ∷ []) (c.bound_of.ensures ∙ ap (λ (m : ℕ). first_or admitted_time m (part k ps)) c.mark.ensures)
    ∙ sym (bounds_more c.args.given.now k i ps c.loop-collector-test.true c.index-given-collector.is)))
