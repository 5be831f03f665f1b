use Rattle.std.proofs.Common.{rules, ◌≡◌, subst, refl, sym, arith, Some, slice_get}
use Rattle.std.specs.Prelude.{IsErr}
use Rattle.sequencer.specs.Lanes.{marks}
use Rattle.sequencer.proofs.api.Setting.{marks_at}
use Rattle.disk_archive.proofs.marking.raise.Goals as goal

pub unreachable-requires : goal.unreachable-requires
unreachable-requires c =
    let above = c.raise.ensures.back.0 (subst (λ r. IsErr r) (sym c.in-Err.is) refl) in
    let same : c.from.result ≡ c.args.collector = search rules in
    let at = marks_at c.args.sequencer.now c.from.result above.lane above.here in
    let le = c.requires.forward above.lane.mark (subst (λ n. slice_get (marks c.args.sequencer.now) n ≡ Some above.lane.mark) same at) in
    let lt = above.above in
    absurd (omega (arith, le, lt))
