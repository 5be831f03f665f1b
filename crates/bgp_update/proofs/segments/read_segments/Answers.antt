use Rattle.std.proofs.Common.{rules, ◌<◌, ◌≤◌, ◌≡◌, ◌+◌, length, ap, ◌∙◌, arith, length-drop, length-append, [], ◌∷◌}
use Rattle.std.specs.Prelude.{filter}
use Rattle.bgp_update.specs.Paths.{has_numbers}
use Rattle.std.proofs.lemmas.List.{length-take}
use Rattle.std.proofs.lemmas.Result.{err_from_is_err_and}
use Rattle.route_model.specs.Widths.{width_of}
use Rattle.bgp_update.specs.inner.Parts.{segment_of}
use Rattle.bgp_update.proofs.SegmentFields.{path_on, path_err, kept_one}
use Rattle.bgp_update.proofs.segments.read_segments.Goals as goal

pub returns-in_err-part-clause-path : goal.returns-in_err-part-clause-path
returns-in_err-part-clause-path c =
    let p = err_from_is_err_and c.from_residual-in_err-part.result c.from_residual-in_err-part.ensures.1 in
    let some : 0 < length c.loop-rest.rest.now = search rules in
    rw (p.1, p.2) (path_err c.in_err-part.field-0.0 (width_of c.args.width) c.args.bytes.now c.loop-rest.rest.now c.loop-rest.path.items c.loop-rest.invariant.reads some c.in_err-part.ensures.front)

pub loop-rest-preserved : goal.loop-rest-preserved
loop-rest-preserved c =
    let rest = c.loop-rest.rest.now in
    let size = c.in_ok-part.size in
    let segment = segment_of c.in_ok-part.part in
    let found = c.in_ok-part.ensures.front in
    let pushed = c.in_ok-push_segment.ensures in
    let more : length c.push_segment.new.path.items ≡ length c.loop-rest.path.items + length (filter has_numbers (segment ∷ [])) =
    ap length pushed ∙ length-append c.loop-rest.path.items (filter has_numbers (segment ∷ [])) in
    let two : 2 ≤ size = omega (arith, found.2.size, length-take size rest) in
    record {
      reads = rw c.split_at.ensures.back
          (path_on (width_of c.args.width) c.args.bytes.now rest c.loop-rest.path.items _ segment size c.loop-rest.invariant.reads found.2 pushed);
      few = rw c.split_at.ensures.back (omega (arith, more, two, kept_one segment, length-drop size rest, found.0, c.loop-rest.invariant.few));
    }
