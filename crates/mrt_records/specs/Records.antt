-- Records of a stream (RFC 6396 section 2): a header of 12 octets, and as many octets as its Length.
use Rattle.std.specs.Prelude.{◌≡◌, ℕ, ◌+◌, ◌*◌, ◌<◌, ◌≤◌, ◌==◌, nat_lt, min, if◌then◌else◌, List, ◌++◌, length, drop}
use Rattle.std.specs.List.{AllByRecursion}
use Rattle.route_model.specs.Moments.{micros_a_second}
use Rattle.route_model.specs.Octets.{number_at}
use Rattle.route_model.specs.Sequence.{joined}

-- the timestamp of a header (RFC 6396 section 2)
abbrev pub timestamp : List ℕ → ℕ
timestamp bytes = number_at 4 0 bytes

-- its type
abbrev pub kind : List ℕ → ℕ
kind bytes = number_at 2 4 bytes

-- its subtype
abbrev pub subtype : List ℕ → ℕ
subtype bytes = number_at 2 6 bytes

-- its Length: how many octets follow the header
abbrev pub body_length : List ℕ → ℕ
body_length bytes = number_at 4 8 bytes

-- the microseconds that follow the header in type 17 (section 3), which count as 999,999 where they are more; none if the record ends within them
abbrev pub micros : List ℕ → ℕ
micros bytes = if kind bytes == 17 then (if nat_lt (length bytes) 16 then 0 else min (number_at 4 12 bytes) 999999) else 0

-- when a record was received
abbrev pub moment_of : List ℕ → ℕ
moment_of bytes = timestamp bytes * micros_a_second + micros bytes

-- the octets after the header, and after the microseconds that follow it in type 17 (section 3)
abbrev pub body : List ℕ → List ℕ
body bytes = if kind bytes == 17 then drop 16 bytes else drop 12 bytes

-- a whole record, whose Length is within the profile's limit
pub record IsRecord (bytes : List ℕ) : Type 0 where
  pub header : 12 ≤ length bytes
  pub limit : body_length bytes ≤ 131072
  pub whole : length bytes ≡ 12 + body_length bytes

-- a header whose Length is above the limit is at the front
pub record Over (bytes : List ℕ) : Type 0 where
  pub header : 12 ≤ length bytes
  pub above : 131072 < body_length bytes

-- a whole record is at the front
abbrev pub BeginsWithRecord : List ℕ → Type 0
BeginsWithRecord bytes = (first more : List ℕ) × IsRecord first × (bytes ≡ first ++ more)

-- the octets are the records one after another, then a rest that begins with no record
pub record Frames (bytes : List ℕ) (records : List (List ℕ)) (rest : List ℕ) : Type 0 where
  pub whole : bytes ≡ joined records ++ rest
  pub each : AllByRecursion IsRecord records
  pub ended : BeginsWithRecord rest → ⊥
