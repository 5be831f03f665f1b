use Rattle.std.proofs.Common.{ap, ◌∙◌, List, ℕ, drop, length, arith}
use Rattle.bgp_update.specs.NextHops.{family_at}
use Rattle.bgp_update.proofs.api.Reached.{unreached_exactly}
use Rattle.bgp_update.proofs.prefixes.unreached_by.Goals as goal

pub returns-in-Some-family_in : goal.returns-in-Some-family_in
returns-in-Some-family_in c =
    let same = c.as_slice-octets.ensures.octets in
    rw c.in-Some.is
    (unreached_exactly (λ v. v.items) c.in-Some.value c.split_at.result.1.now c.in-Some-family_in.family c.read_prefixes.result
    (omega (arith, c.if-octets-lt3.false, ap length same)) (c.in-Some-family_in.ensures ∙ ap (λ (t : List ℕ). family_at t) same)
    (c.split_at.ensures.back ∙ ap (λ (t : List ℕ). drop 3 t) same) c.read_prefixes.ensures)
