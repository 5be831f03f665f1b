-- A ring: pages, one after another and from the last to the first again, that hold a queue of admissions.
use Rattle.std.specs.Prelude.{◌≡◌, ◌<◌, ◌≤◌, ◌⊎◌, ◌↔◌, ℕ, ◌+◌, ◌-◌, ◌*◌, ◌/◌, ◌%◌, ◌^◌, List, [], ◌++◌, length, nat_lt, cond, slice_index, slice_index_or, flat_map}
use Rattle.std.specs.List.{AllByRecursion}
use Rattle.std.specs.Int.{w32, to_be_bytes}
use Rattle.page_journal.specs.Recovers.{AreDistinct, IsListed}
use Rattle.route_model.specs.Admission.{Admitted, IsAdmission, admission_octets}
use Rattle.intake.specs.declared.ring.Ring.{Ring}

-- the octets of a committed page
abbrev pub page_at : List (List ℕ) → ℕ → List ℕ
page_at pages n = slice_index_or pages n []

-- octets after their length in four octets
unfoldable pub sized : List ℕ → List ℕ
sized octets = to_be_bytes w32 (length octets) ++ octets

-- an admission as it is stored in a ring: its unique encoding, after the length
abbrev pub entry : Admitted → List ℕ
entry a = sized (admission_octets a)

-- how many octets an admission takes in a ring, and counts in a batch: 4, and those of its encoding
abbrev pub entry_octets : Admitted → ℕ
entry_octets a = 4 + length (admission_octets a)

-- how many octets admissions take in a ring
abbrev pub octets_for : List Admitted → ℕ
octets_for admissions = length (flat_map entry admissions)

-- when an admission was said
abbrev pub time_of : Admitted → ℕ
time_of a = a.time

-- how many octets a ring has
abbrev pub size_of : Ring → ℕ
size_of ring = 16384 * ring.count

-- where a place of less than twice the size lies in a ring of this size
abbrev pub wrapped : ℕ → ℕ → ℕ
wrapped size at = cond (nat_lt at size) at (at - size)

-- the octet at a place of a ring, counted from its first page's first octet
abbrev pub ring_octet : List (List ℕ) → ℕ → ℕ → ℕ
ring_octet pages low at = slice_index (page_at pages (low + at / 16384)) (at % 16384)

-- a ring, which has this octet at each of its places, has octets from a place on
abbrev pub Reads : (ℕ → ℕ) → ℕ → ℕ → List ℕ → Type 0
Reads octet size first octets = (k : ℕ) → k < length octets → octet (wrapped size (first + k)) ≡ slice_index octets k

-- the ring has octets from the first one on that is used
abbrev pub HasOctets : List (List ℕ) → Ring → List ℕ → Type 0
HasOctets pages ring octets = Reads (ring_octet pages ring.low) (size_of ring) ring.first octets

-- the ring lies among `homes` home pages, has at most 65,535 of them, and uses no more octets than it has
pub record IsRing (homes : ℕ) (ring : Ring) : Type 0 where
  pub inside : ring.low + ring.count ≤ homes
  pub small : ring.low + ring.count < 2 ^ 64
  pub few : ring.count ≤ 65535
  pub start : ring.first < size_of ring
  pub used : ring.used ≤ size_of ring

-- The ring represents these admissions: its used octets are their entries, in their order.
pub record RingRepresents (pages : List (List ℕ)) (ring : Ring) (admissions : List Admitted) : Type 0 where
  pub valid : AllByRecursion IsAdmission admissions
  pub size : octets_for admissions ≡ ring.used
  pub octets : HasOctets pages ring (flat_map entry admissions)

-- The page holds one of the first `octets` octets after the used ones.
abbrev pub HasPlaceAfter : Ring → ℕ → ℕ → Type 0
HasPlaceAfter ring octets n = (k : ℕ) × (k < octets) × (n ≡ ring.low + wrapped (size_of ring) (ring.first + (ring.used + k)) / 16384)

-- a page is listed where it was, or holds such an octet, and no other page is
abbrev pub ListsAfter : Ring → ℕ → List ℕ → List ℕ → Type 0
ListsAfter ring octets old new = (n : ℕ) → IsListed n new ↔ (IsListed n old ⊎ HasPlaceAfter ring octets n)

-- The listed pages, with those that hold one of the first `octets` octets after the used ones, are more than 31.
pub record Crowds (ring : Ring) (octets : ℕ) (listed : List ℕ) : Type 0 where
  pub all : List ℕ
  pub distinct : AreDistinct all
  pub lists : ListsAfter ring octets listed all
  pub many : 31 < length all

-- The ring is one of these pages, and of all lists of admissions it represents this one alone.
pub record RepresentsAlone (pages : List (List ℕ)) (ring : Ring) (admissions : List Admitted) : Type 0 where
  pub place : IsRing (length pages) ring
  pub holds : RingRepresents pages ring admissions
  pub only : (others : List Admitted) → RingRepresents pages ring others → others ≡ admissions

-- only pages of the ring are changed
pub record ChangesOnly (ring : Ring) (old new : List (List ℕ)) : Type 0 where
  pub count : length new ≡ length old
  pub below : (n : ℕ) → n < ring.low → page_at new n ≡ page_at old n
  pub above : (n : ℕ) → ring.low + ring.count ≤ n → page_at new n ≡ page_at old n

-- Pages are shown on which the ring represents these admissions alone, and outside of it they are as they were.
pub record Gains (shows : List (List ℕ) → Type 0) (old : List (List ℕ)) (ring : Ring) (admissions : List Admitted) : Type 0 where
  pub pages : List (List ℕ)
  pub shown : shows pages
  pub changes : ChangesOnly ring old pages
  pub represents_all : RepresentsAlone pages ring admissions

-- Pages are shown that hold these octets after the used ones, whatever those are, and outside of the ring they are as they
-- were.
pub record Adds (shows : List (List ℕ) → Type 0) (old : List (List ℕ)) (ring : Ring) (octets : List ℕ) : Type 0 where
  pub pages : List (List ℕ)
  pub shown : shows pages
  pub outside : ChangesOnly ring old pages
  pub beyond : (used : List ℕ) → length used ≡ ring.used → HasOctets old ring used → HasOctets pages ring (used ++ octets)
