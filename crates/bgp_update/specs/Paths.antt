-- AS paths as messages encode them (RFC 4271 section 4.3, AS_PATH; RFC 6793 section 3, AS4_PATH).
use Rattle.std.specs.Prelude.{◌≡◌, ℕ, ◌+◌, ◌*◌, ◌<◌, Bool, nat_lt, List, length, filter, slice_index}
use Rattle.route_model.specs.Octets.{number_at}
use Rattle.route_model.specs.Sequence.{Sequence}
use Rattle.route_model.specs.declared.path.Segment.{Segment}
use Rattle.route_model.specs.declared.path.Segment.TheVariants as segments

-- the type of a segment: 1 AS_SET, 2 AS_SEQUENCE
abbrev pub code : Segment → ℕ
code (segments.Set ns) = 1
code (segments.Sequence ns) = 2

-- the AS numbers of a segment
abbrev pub numbers : Segment → List ℕ
numbers (segments.Set ns) = ns
numbers (segments.Sequence ns) = ns

-- a type, a count, and that number of AS numbers of the width
pub record IsSegmentField (width : ℕ) (field : List ℕ) (s : Segment) : Type 0 where
  pub size : length field ≡ 2 + width * length (numbers s)
  pub kind : code s ≡ slice_index field 0
  pub count : length (numbers s) ≡ slice_index field 1
  pub each : (i : ℕ) → i < length (numbers s) → slice_index (numbers s) i ≡ number_at width (2 + width * i) field

-- does the segment have any?
abbrev pub has_numbers : Segment → Bool
has_numbers s = nat_lt 0 (length (numbers s))

-- the octets are segments one after another, and the path is those of them that have numbers
abbrev pub IsPath : ℕ → List ℕ → List Segment → Type 0
IsPath width bytes path = (all : List Segment) × Sequence (IsSegmentField width) bytes all × (path ≡ filter has_numbers all)
