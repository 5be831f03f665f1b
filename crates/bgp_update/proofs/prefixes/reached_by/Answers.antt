use Rattle.bgp_update.proofs.prefixes.reached_by.Goals as goal

pub returns-in-Some : goal.returns-in-Some
returns-in-Some c = rw c.in-Some.is (rw (← c.as_slice.ensures.octets) c.read_prefixes.ensures)
