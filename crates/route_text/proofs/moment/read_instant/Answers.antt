use Rattle.std.proofs.Common.{arith, ⊎_elim}
use Rattle.route_text.proofs.api.OneValue.{one_timestamp}
use Rattle.route_text.proofs.moment.read_instant.Goals as goal

pub returns-in_default-read_timestamp-clause-none : goal.returns-in_default-read_timestamp-clause-none
returns-in_default-read_timestamp-clause-none c = λ moment h.
    ⊎_elim (λ seconds. c.in_default.ensures.none moment h.within seconds)
    (λ time. let same = one_timestamp c.args.text.now moment c.in-Some.moment time c.in-Some.ensures.found in let within = h.within in omega (arith, same, within, c.if-moment-last.false))
    h.encoded

pub returns-in_default-read_timestamp-2-clause-none : goal.returns-in_default-read_timestamp-2-clause-none
returns-in_default-read_timestamp-2-clause-none c = λ moment h.
    ⊎_elim (λ seconds. c.in_default.ensures.none moment h.within seconds) (λ time. c.in_default-read_timestamp.ensures.none moment time) h.encoded
