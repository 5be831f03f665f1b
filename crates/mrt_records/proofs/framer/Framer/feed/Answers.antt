use Rattle.std.proofs.Common.{List, ℕ, subst, ◌∙◌}
use Rattle.mrt_records.specs.Records.{Over}
use Rattle.mrt_records.proofs.api.Streams.{over_stays}
use Rattle.mrt_records.proofs.framer.Framer.feed.Goals as goal

pub returns-then-is_over-clause-fed : goal.returns-then-is_over-clause-fed
returns-then-is_over-clause-fed c =
    let over : Over c.deref.result.now = c.is_over.ensures.0 c.if-is_over.true in
    over_stays c.args.self.now c.args.piece.now c.args.out.now.items (subst (λ (t : List ℕ). Over t) (c.deref.ensures.value ∙ c.self.view_is) over)
