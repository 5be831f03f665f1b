use Rattle.route_text.proofs.address.read_ipv6.Goals as goal

pub returns-in-Err-clause-none : goal.returns-in-Err-clause-none
returns-in-Err-clause-none c octets h = c.in-Err.ensures.value (record { segments = h.groups }) h.encoded
