-- The head: what an archive keeps of itself on its first home page.
use Rattle.std.specs.Prelude.{◌≡◌, ◌≢◌, ◌≤◌, ◌<◌, ◌⊎◌, ℕ, ◌*◌, ◌-◌, ◌^◌, List, [], ◌∷◌, ◌++◌, length, map, replicate, flat_map}
use Rattle.route_model.specs.declared.unit.Unit.{Unit}
use Rattle.route_model.specs.Moments.{IsMoment, last_mark}
use Rattle.route_model.specs.Octets.{Encodes}
use Rattle.route_model.specs.Units.{moments_in, written, IsUnit, unit_number}
use Rattle.std.specs.List.{AllByRecursion}
use Rattle.std.specs.Int.{w64, to_be_bytes}
use Rattle.archive_head.specs.declared.lane.Lane.{Lane}

-- what stands in the head
pub record Contents : Type 0 where
  -- how many changes are applied: the next one has this order number
  pub applied : ℕ
  -- the time of the last change that is applied, 0 if there is none
  pub last : ℕ
  -- how many changes are applied of the admission that is being applied
  pub begun : ℕ
  -- the first home page that was never used
  pub fresh : ℕ
  -- the first block that was never tried, as far as it is known
  pub block : ℕ
  -- the page of the tree's root
  pub root : ℕ
  -- of each collector
  pub lanes : List Lane

-- a number in eight octets, the highest first
unfoldable pub number : ℕ → List ℕ
number n = to_be_bytes w64 n

-- what is kept of a collector takes 64 octets: six numbers, and two that are zero until they have a use
abbrev pub lane_octets : Lane → List ℕ
lane_octets l = flat_map number (l.offered ∷ l.admitted ∷ l.mark ∷ l.first ∷ l.used ∷ l.since ∷ 0 ∷ 0 ∷ [])

-- a head takes a page: six numbers, that of the unit of its times, one that is zero until it has a use, the collectors one after another,
-- and zeros
abbrev pub octets_in : Unit → Contents → List ℕ
octets_in u h = flat_map number (h.applied ∷ h.last ∷ h.begun ∷ h.fresh ∷ h.block ∷ h.root ∷ unit_number u ∷ 0 ∷ []) ++ (flat_map lane_octets h.lanes ++ replicate (16320 - 64 * length h.lanes) 0)

-- a head in the unit in which all is written
abbrev pub head_octets : Contents → List ℕ
head_octets h = octets_in written h

-- each number of a collector has eight octets, and the mark is one
pub record IsLane (l : Lane) : Type 0 where
  pub offered : l.offered < 2 ^ 64
  pub admitted : l.admitted < 2 ^ 64
  pub mark : l.mark ≤ last_mark
  pub first : l.first < 2 ^ 64
  pub used : l.used < 2 ^ 64
  pub since : l.since < 2 ^ 64

-- a head: each number has eight octets, the time is a moment, and there are at most 16 collectors
pub record IsHead (h : Contents) : Type 0 where
  pub applied : h.applied < 2 ^ 64
  pub last : IsMoment h.last
  pub begun : h.begun < 2 ^ 64
  pub fresh : h.fresh < 2 ^ 64
  pub block : h.block < 2 ^ 64
  pub root : h.root < 2 ^ 64
  pub few : length h.lanes ≤ 16
  pub lanes : AllByRecursion IsLane h.lanes

-- ---- an older unit

-- In a unit of this number of moments the mark is one, and no admission is written in moments.
pub record IsOlderLane (moments : ℕ) (l : Lane) : Type 0 where
  pub mark : l.mark * moments ≤ last_mark
  pub since : l.since ≡ 0

-- In a unit of this number of moments the head has a time and marks that are such as moments.
pub record IsOlderHead (moments : ℕ) (h : Contents) : Type 0 where
  pub valid : IsHead h
  pub last : IsMoment (h.last * moments)
  pub lanes : AllByRecursion (IsOlderLane moments) h.lanes

-- the same in moments: all that the collector has given until now is in the older unit
abbrev pub lane_in_moments : ℕ → Lane → Lane
lane_in_moments moments l = record l { mark = l.mark * moments; since = l.admitted }

-- a head in moments: its marks, and its last time
abbrev pub in_moments : ℕ → Contents → Contents
in_moments moments h = record h { last = h.last * moments; lanes = map (lane_in_moments moments) h.lanes }

-- The octets are of an older unit, and the head is what they encode, in moments.
pub record EncodesOlder (head : Contents) (octets : List ℕ) : Type 0 where
  pub unit : Unit
  pub is_unit : IsUnit unit
  pub other : unit ≢ written
  pub stored : Contents
  pub older : IsOlderHead (moments_in unit) stored
  pub encoded : octets ≡ octets_in unit stored
  pub moments : head ≡ in_moments (moments_in unit) stored

-- the octets encode the head, whatever unit they are in
abbrev pub EncodesHead : Contents → List ℕ → Type 0
EncodesHead head octets = Encodes IsHead head_octets head octets ⊎ EncodesOlder head octets
