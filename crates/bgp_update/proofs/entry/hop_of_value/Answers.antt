use Rattle.std.proofs.Common.{subst, sym, List, ℕ}
use Rattle.bgp_update.specs.NextHops.{IsEntryHop}
use Rattle.bgp_update.proofs.api.Reached.{no_entry_hop}
use Rattle.bgp_update.proofs.entry.hop_of_value.Goals as goal

pub returns-in_default-short_hop : goal.returns-in_default-short_hop
returns-in_default-short_hop c = λ v q.
    let moved = subst (λ (t : List ℕ). IsEntryHop t v) (sym c.as_slice-octets.ensures.octets) q in
    no_entry_hop c.as_slice-octets.result.now c.in-Some.field-0.now c.in-Some.ensures.value c.if-first-eq0.false c.in_default-short_hop.ensures.none v moved
