use Rattle.std.proofs.Common.{sym, subst, List, ℕ}
use Rattle.bgp_update.specs.Values.{IsAggregator}
use Rattle.bgp_update.proofs.Optional.{optional_none}
use Rattle.bgp_update.proofs.values.aggregator_in.Goals as goal

pub returns-in_default-aggregator_of : goal.returns-in_default-aggregator_of
returns-in_default-aggregator_of c = λ v q.
    optional_none IsAggregator c.in-Some.value _ c.in-Some.ensures
    (λ a is. c.in_default-aggregator_of.ensures.none a (subst (λ (t : List ℕ). IsAggregator t a) (sym c.as_slice.ensures.octets) is)) v q
