-- What is at the front of octets.
use Rattle.std.specs.Prelude.{◌≡◌, ℕ, ◌+◌, ◌<◌, ◌≤◌, List, length, ◌⊎◌, ◌++◌, take}
use Rattle.mrt_records.specs.Records.{IsRecord, Over, BeginsWithRecord, body_length}
use Rattle.mrt_records.specs.declared.front.Front.{Front}
use Rattle.mrt_records.specs.declared.front.Front.TheVariants as fronts

-- fewer octets than a header, or than its Length
abbrev pub IsPart : List ℕ → Type 0
IsPart bytes = (length bytes < 12) ⊎ ((12 ≤ length bytes) × (body_length bytes ≤ 131072) × (length bytes < 12 + body_length bytes))

abbrev pub IsFront : List ℕ → Front → Type 0
IsFront bytes fronts.Part = IsPart bytes
IsFront bytes (fronts.Whole n) = (n ≤ length bytes) × (12 ≤ n) × IsRecord (take n bytes)
IsFront bytes fronts.Over = Over bytes

-- n octets of the piece were appended to the held ones, until there were as many as needed
pub record IsToppedUp (old new piece : List ℕ) (need n : ℕ) : Type 0 where
  pub within : n ≤ length piece
  pub moved : new ≡ old ++ take n piece
  pub enough : n < length piece → need ≤ length new
  pub no_more : 0 < n → length new ≤ need

-- n octets of the piece were appended to the held ones: all, or up to the end of a record, or a header above the limit is held
pub record IsFilled (old new piece : List ℕ) (n : ℕ) : Type 0 where
  pub within : n ≤ length piece
  pub moved : new ≡ old ++ take n piece
  pub record_only : BeginsWithRecord new → IsRecord new
  pub part_all : IsPart new → n ≡ length piece
