use Rattle.std.proofs.Common.{◌+◌, ◌∙◌, arith, List, ℕ, length, map, ap, Bor}
use Rattle.std.proofs.lemmas.List.{take_all}
use Rattle.route_model.specs.declared.change.Change.{Change}
use Rattle.route_model.specs.Admission.{admission_octets}
use Rattle.route_model.proofs.api.Admissions.{take_item}
use Rattle.route_model.proofs.Sizes.{size-take, size-empty}
use Rattle.route_model.proofs.admission_measuring.measure_by_tables.Goals as goal

pub loop-i-init : goal.loop-i-init
loop-i-init c = (omega arith, c.new-peers.ensures.empty, ap (map (λ (r : Bor (List ℕ)). r.now)) c.new-routes.ensures.empty, λ time. size-empty time)

pub returns-then-len-gt-MAX_ADMISSION_LEN-clause-large : goal.returns-then-len-gt-MAX_ADMISSION_LEN-clause-large
returns-then-len-gt-MAX_ADMISSION_LEN-clause-large c = λ time.
    let cs : List Change = c.args.changes.now in
    let more = ap (λ (t : List Change). length (admission_octets (record { time = time; changes = t }))) (take_item cs c.loop-i.i c.index-changes-i.result c.loop-i-test.true c.index-changes-i.is) in
    omega (arith, more, c.in_ok-len.ensures.len time, c.loop-i.invariant.3 time, c.if-len-gt-MAX_ADMISSION_LEN.true, size-take time cs (c.loop-i.i + 1))

pub returns-clause-len : goal.returns-clause-len
returns-clause-len c = λ time.
    let cs : List Change = c.args.changes.now in
    c.loop-i.invariant.3 time ∙ ap (λ (t : List Change). length (admission_octets (record { time = time; changes = t }))) (take_all c.loop-i.i cs c.loop-i-test.false)
