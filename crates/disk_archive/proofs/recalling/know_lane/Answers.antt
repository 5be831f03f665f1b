use Rattle.std.proofs.Common.{◌≡◌, List, length, vec_len, Some, refl, sym, ◌∙◌, ap, subst, arith}
use Rattle.std.specs.List.{slice_get}
use Rattle.std.proofs.lemmas.Bool.{eq-eqb, eqb-true, false≢true}
use Rattle.sequencer.specs.declared.late.Late.{Late}
use Rattle.sequencer.specs.Lanes.{marks}
use Rattle.sequencer.specs.Taking.{IsSieved}
use Rattle.disk_archive.proofs.Recalled.{greatest_within, known_marks, known_times, no_items, not_above, rising_none}
use Rattle.disk_archive.proofs.recalling.know_lane.Goals as goal

pub returns-then-not-is_empty-clause-sound : goal.returns-then-not-is_empty-clause-sound
returns-then-not-is_empty-clause-sound c rises all page reported =
    let lanes = c.args.sequencer.now in
    let number = c.from-number.ensures in
    let mark0 = subst (λ n. slice_get (marks lanes) n ≡ Some 0) (sym number) c.requires.unknown.mark in
    let s : IsSieved 0 c.args.times.now c.in_ok-sieved.sieved = c.in_ok-sieved.ensures.sieved 0 mark0 in
    let none = s.late ∙ rising_none c.args.times.now rises in
    let late = c.in_ok-sieved.sieved.late in
    let count = late.ok.0 in
    let empty = ap (λ (l : List Late). length l) none in
    let long : vec_len late ≡ 0 = omega (arith, count, empty) in
    false≢true (sym c.if-not-is_empty.true ∙ c.is_empty.ensures ∙ eq-eqb (vec_len late) 0 long)

pub returns-in-Ok-clause-marks : goal.returns-in-Ok-clause-marks
returns-in-Ok-clause-marks c =
    known_marks c.args.sequencer.now c.sieve.new.self c.take_in.new.self c.raise.new.self c.from-number.result c.args.collector c.args.mark c.in_ok-sieved.sieved c.from-number.ensures c.sieve.ensures.same c.take_in.ensures.taken c.in-Ok.ensures.raised

pub returns-in-Ok-clause-times : goal.returns-in-Ok-clause-times
returns-in-Ok-clause-times c =
    let lanes = c.args.sequencer.now in
    let number = c.from-number.ensures in
    let mark0 = subst (λ n. slice_get (marks lanes) n ≡ Some 0) (sym number) c.requires.unknown.mark in
    let s : IsSieved 0 c.args.times.now c.in_ok-sieved.sieved = c.in_ok-sieved.ensures.sieved 0 mark0 in
    let late = c.in_ok-sieved.sieved.late in
    let count = late.ok.0 in
    let long = eqb-true (vec_len late) 0 (sym c.is_empty.ensures ∙ c.if-not-is_empty.false) in
    let none = no_items late.items (omega (arith, count, long)) in
    known_times lanes c.sieve.new.self c.take_in.new.self c.raise.new.self c.from-number.result c.args.collector c.args.times.now c.in_ok-sieved.sieved number c.requires.unknown s none c.sieve.ensures.same c.take_in.ensures.taken c.in-Ok.ensures.raised.times

pub returns-clause-sound : goal.returns-clause-sound
returns-clause-sound c rises all page reported =
    let lanes = c.args.sequencer.now in
    let number = c.from-number.ensures in
    let mark0 = subst (λ n. slice_get (marks lanes) n ≡ Some 0) (sym number) c.requires.unknown.mark in
    let s : IsSieved 0 c.args.times.now c.in_ok-sieved.sieved = c.in_ok-sieved.ensures.sieved 0 mark0 in
    let above = c.in-Err.ensures.back.0 refl in
    let within = greatest_within c.args.mark c.args.times.now all in
    not_above lanes c.sieve.new.self c.take_in.new.self c.from-number.result c.args.mark c.args.times.now c.in_ok-sieved.sieved mark0 s c.sieve.ensures.same c.take_in.ensures.taken within above
