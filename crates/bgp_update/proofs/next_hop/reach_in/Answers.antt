use Rattle.std.proofs.Common.{ap, ◌∙◌, List, ℕ, drop}
use Rattle.bgp_update.specs.NextHops.{family_at}
use Rattle.bgp_update.proofs.api.Reached.{no_reach}
use Rattle.bgp_update.proofs.next_hop.reach_in.Goals as goal

pub returns-in_default-hop_and_prefixes : goal.returns-in_default-hop_and_prefixes
returns-in_default-hop_and_prefixes c = λ v q.
    let same = c.as_slice-octets.ensures.octets in
    no_reach c.args.value.now c.split_at.result.1.now c.in-Some.family (c.in-Some.ensures ∙ ap (λ (t : List ℕ). family_at t) same)
    (c.split_at.ensures.back ∙ ap (λ (t : List ℕ). drop 3 t) same) c.in_default-hop_and_prefixes.ensures.none v q
