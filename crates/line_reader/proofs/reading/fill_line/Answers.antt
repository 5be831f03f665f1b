use Rattle.std.proofs.Common.{◌<◌, sym, subst, length}
use Rattle.line_reader.specs.Lines.{HasNoEnd}
use Rattle.line_reader.proofs.Filling.{grown_more, grown_by_none, no_line, not_full, below_limit}
use Rattle.line_reader.proofs.reading.fill_line.Goals as goal

pub returns-in-Ok-eq0-clause-fills : goal.returns-in-Ok-eq0-clause-fills
returns-in-Ok-eq0-clause-fills g c =
    let none : HasNoEnd c.as_slice.result.now = c.in_default.ensures.none in
    let read = c.in-Ok-eq0.ensures.read in
    let below = below_limit c.is_full.result (length c.loop-end.window) c.is_full.ensures.full c.is_full.ensures.few c.if-is_full.false in
    let same = grown_by_none c.loop-end.window c.read_from.new.self read.0 c.in-Ok-eq0.field-0 c.in-Ok-eq0.field-0-test read.1 read.2 in
    let all = grown_more c.args.window.now c.loop-end.window c.read_from.new.self read.0 _ _ _ read.2 read.3 c.loop-end.invariant.grown in (
      all.gave,
      all.consumed,
      all.octets,
      (
        subst HasNoEnd (sym same) (subst HasNoEnd c.as_slice.ensures.octets none),
        subst (λ octets. length octets < 4096) (sym same) below,
        c.in-Ok-eq0.ensures.end c.in-Ok-eq0.field-0-test below,
      ),
    )

pub returns-in-Ok-eq0-clause-ready : goal.returns-in-Ok-eq0-clause-ready
returns-in-Ok-eq0-clause-ready g c = λ has.
    let none : HasNoEnd c.as_slice.result.now = c.in_default.ensures.none in
    let grown = c.loop-end.invariant.grown in
    absurd (no_line c.args.window.now c.loop-end.window grown.gave grown.octets (subst HasNoEnd c.as_slice.ensures.octets none) has)

pub loop-end-preserved : goal.loop-end-preserved
loop-end-preserved g c =
    let none : HasNoEnd c.as_slice.result.now = c.in_default.ensures.none in
    let read = c.in-Ok.ensures.read in
    let grown = c.loop-end.invariant.grown in
    record {
      grown = grown_more c.args.window.now c.loop-end.window c.read_from.new.self read.0 _ _ _ read.2 read.3 grown;
      full = λ whole. absurd (not_full c.args.window.now c.loop-end.window grown.gave grown.octets whole (below_limit c.is_full.result (length c.loop-end.window) c.is_full.ensures.full c.is_full.ensures.few c.if-is_full.false));
      ready = λ has. absurd (no_line c.args.window.now c.loop-end.window grown.gave grown.octets (subst HasNoEnd c.as_slice.ensures.octets none) has);
    }

pub returns-in-Err-clause-ready : goal.returns-in-Err-clause-ready
returns-in-Err-clause-ready g c = λ has.
    let none : HasNoEnd c.as_slice.result.now = c.in_default.ensures.none in
    let grown = c.loop-end.invariant.grown in
    absurd (no_line c.args.window.now c.loop-end.window grown.gave grown.octets (subst HasNoEnd c.as_slice.ensures.octets none) has)

pub returns-in-Ok-eq0-clause-full : goal.returns-in-Ok-eq0-clause-full
returns-in-Ok-eq0-clause-full g c = λ whole.
    let grown = c.loop-end.invariant.grown in
    absurd (not_full c.args.window.now c.loop-end.window grown.gave grown.octets whole (below_limit c.is_full.result (length c.loop-end.window) c.is_full.ensures.full c.is_full.ensures.few c.if-is_full.false))

pub returns-in-Err-clause-full : goal.returns-in-Err-clause-full
returns-in-Err-clause-full g c = λ whole.
    let grown = c.loop-end.invariant.grown in
    absurd (not_full c.args.window.now c.loop-end.window grown.gave grown.octets whole (below_limit c.is_full.result (length c.loop-end.window) c.is_full.ensures.full c.is_full.ensures.few c.if-is_full.false))
