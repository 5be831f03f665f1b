-- A segment as it is read, before it is known to have numbers.
use Rattle.route_model.specs.declared.path.Segment.{Segment}
use Rattle.route_model.specs.declared.path.Segment.TheVariants as segments
use Rattle.std.specs.Prelude.{ℕ, List}
use Rattle.bgp_update.specs.declared.segments.Part.{Part}
use Rattle.bgp_update.specs.declared.segments.SegmentKind.{SegmentKind}
use Rattle.bgp_update.specs.declared.segments.SegmentKind.TheVariants as kinds

abbrev pub made : SegmentKind → List ℕ → Segment
made kinds.Set ns = segments.Set ns
made kinds.Sequence ns = segments.Sequence ns

abbrev pub segment_of : Part → Segment
segment_of part = made part.kind part.numbers.items
