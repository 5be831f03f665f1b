use Rattle.std.proofs.Common.{◌≡◌, ◌∷◌, arith, string_bytes, refl}
use Rattle.route_text.specs.RouteText.{segment_text}
use Rattle.route_text.proofs.Joins.{join_all}
use Rattle.route_text.proofs.route_writing.write_path.Goals as goal

pub returns : goal.returns
returns c =
    let is : c.args.path.now ≡ c.in-Some.first.now ∷ c.in-Some.others.now = let h = c.in-Some.ensures.cases in cc in
    record {
      text = rw is (join_all 32 segment_text (string_bytes c.args.out.now) (string_bytes c.write_segment.new.out) (string_bytes c.loop-segment.out) (c.in-Some.first.now ∷ c.in-Some.others.now) c.in-Some.others.now c.in-Some.first.now c.loop-segment.segment-index refl c.in_ok-write_segment.ensures.text (omega arith) c.loop-segment.invariant);
    }
