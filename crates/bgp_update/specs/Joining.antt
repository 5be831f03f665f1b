-- AS4_PATH laid over AS_PATH (RFC 6793 section 4.2.3).
use Rattle.std.specs.Prelude.{◌≡◌, ℕ, ◌+◌, ◌-◌, ◌<◌, ◌≤◌, ◌⊎◌, ◌==◌, if◌then◌else◌, nat_lt, List, [], ◌∷◌, ◌++◌, length, take, Option, Some, None}
use Rattle.route_model.specs.declared.path.Segment.{Segment}
use Rattle.route_model.specs.declared.path.Segment.TheVariants as segments
use Rattle.bgp_update.specs.Paths.{numbers, IsPath}

-- how many AS numbers a segment counts: a set counts one
abbrev pub weight : Segment → ℕ
weight (segments.Set ns) = 1
weight (segments.Sequence ns) = length ns

-- how many AS numbers a path counts
abbrev pub count : List Segment → ℕ
count [] = 0
count (s ∷ path) = weight s + count path

-- the second is a non-empty beginning of the first, and both are sequences
abbrev pub IsBeginning : Segment → Segment → Type 0
IsBeginning (segments.Sequence ns) (segments.Sequence ms) = (0 < length ms) × (back : List ℕ) × (ns ≡ ms ++ back)
IsBeginning (segments.Sequence ns) (segments.Set ms) = ⊥
IsBeginning (segments.Set ns) x = ⊥

-- a leading part of a path: whole segments, and then at most one beginning of a sequence
abbrev pub IsLeading : List Segment → List Segment → Type 0
IsLeading path [] = Unit {0}
IsLeading [] (x ∷ front) = ⊥
IsLeading (s ∷ path) (x ∷ front) = ((x ≡ s) × IsLeading path front) ⊎ (IsBeginning s x × (front ≡ []))

-- a leading part of the path, followed by the longer-numbered one, which counts as many as the path
pub record Joined (own longer path : List Segment) : Type 0 where
  pub front : List Segment
  pub leading : IsLeading own front
  pub followed : path ≡ front ++ longer
  pub counts : count path ≡ count own

-- no segment is empty
abbrev pub NoneEmpty : List Segment → Type 0
NoneEmpty [] = Unit {0}
NoneEmpty (s ∷ path) = (0 < length (numbers s)) × NoneEmpty path

-- the first numbers of a sequence
abbrev pub first_numbers : ℕ → Segment → Segment
first_numbers k (segments.Sequence ns) = segments.Sequence (take k ns)
first_numbers k (segments.Set ns) = segments.Set ns

-- the leading part of a path that counts k
abbrev pub leading : List Segment → ℕ → List Segment
leading [] k = []
leading (s ∷ path) k =
    if nat_lt k (weight s) then (if k == 0 then [] else first_numbers k s ∷ []) else s ∷ leading path (k - weight s)

-- the joined path, or the path itself if the other counts more
abbrev pub joined_path : List Segment → List Segment → List Segment
joined_path own longer = if nat_lt (count own) (count longer) then own else leading own (count own - count longer) ++ longer

-- the octets are a path of numbers of four octets that counts no more than the one of AS_PATH
abbrev pub Fits : List ℕ → List Segment → List Segment → Type 0
Fits value own longer = IsPath 4 value longer × (count longer ≤ count own)

-- the path of AS4_PATH is laid over that of AS_PATH if it is well formed and counts no more; else AS_PATH stays
abbrev pub IsLaid : Option (List ℕ) → List Segment → List Segment → Type 0
IsLaid None own path = path ≡ own
IsLaid (Some value) own path =
    ((longer : List Segment) × Fits value own longer × Joined own longer path)
    ⊎ (((longer : List Segment) → Fits value own longer → ⊥) × (path ≡ own))
