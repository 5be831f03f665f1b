use Rattle.std.proofs.Common.{get_or, drop, sym, ◌∙◌, arith}
use Rattle.std.proofs.lemmas.Option.{slice_get-get_or}
use Rattle.sequencer.specs.Ahead.{later, beyond}
use Rattle.sequencer.proofs.api.Setting.{get_some}
use Rattle.sequencer.proofs.Aheads.{after_at, after_length, drop_get, times_there}
use Rattle.sequencer.proofs.Firsts.{best_more, some_all, none_found}
use Rattle.sequencer.proofs.ahead.first_after.Goals as goal

pub loop-number-preserved : goal.loop-number-preserved
loop-number-preserved c =
    let ns = c.args.passed.now in
    let lanes = c.args.lanes.now in
    let i = c.loop-number.number in
    let w = c.index-lanes-number.result in
    let n = get_or ns i 0 in
    let low = c.loop-number-test.true in
    let count = c.requires in
    let there = after_at ns lanes i n w (slice_get-get_or ns i 0 (omega (arith, low, count))) (get_some lanes i w low c.index-lanes-number.is) in
    rw c.better-found.ensures
    (best_more (beyond ns lanes) i (drop n w.times) c.loop-number.found c.beyond.result (times_there (beyond ns lanes) i (later n w) there) (c.beyond.ensures ∙ sym (drop_get n w.times)) c.loop-number.invariant)

pub returns-clause-some : goal.returns-clause-some
returns-clause-some c =
    let ns = c.args.passed.now in
    let lanes = c.args.lanes.now in
    some_all (beyond ns lanes) c.loop-number.number c.loop-number.found (let n = after_length ns lanes in let end = c.loop-number-test.false in omega (arith, n, end)) c.loop-number.invariant

pub returns-clause-none : goal.returns-clause-none
returns-clause-none c =
    let ns = c.args.passed.now in
    let lanes = c.args.lanes.now in
    none_found (beyond ns lanes) c.loop-number.number c.loop-number.found (let n = after_length ns lanes in let end = c.loop-number-test.false in omega (arith, n, end)) c.loop-number.invariant
