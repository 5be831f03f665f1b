-- What an opening finds of the slots.
use Rattle.std.specs.Prelude.{◌≡◌, ◌<◌, ◌≤◌, ◌⊎◌, ⊤, ℕ, suc, ◌+◌, ◌*◌, List, [], ◌∷◌, length, take, drop}
use Rattle.std.specs.List.{AllByRecursion}
use Rattle.disk_models.specs.Octets.{octets}
use Rattle.page_journal.specs.Layout.{Image, image_place, image_count, images, pages_of, IsOpen, transaction, slots_end}
use Rattle.page_journal.specs.Recovers.{AreBelow, AreDistinct, IsListed}
use Rattle.page_journal.specs.Refusals.{SharesNumber}
use Rattle.page_journal.specs.declared.error.OpenError.{OpenError}
use Rattle.page_journal.specs.declared.error.OpenError.TheVariants.{Fault, NotAJournal, BadNode, OutOfMemory}
use Rattle.page_journal.specs.declared.rank.Rank.{Rank}
use Rattle.page_journal.specs.declared.relocation.Relocation.{Relocation}

-- the slots themselves
abbrev pub slots_of : List Rank → List ℕ
slots_of [] = []
slots_of (r ∷ rest) = r.slot ∷ slots_of rest

-- each number is below those that follow
abbrev pub AreRanked : List Rank → Type 0
AreRanked [] = ⊤
AreRanked (r ∷ rest) = AllByRecursion (λ later. r.number < later.number) rest × AreRanked rest

-- the slot is open, and has this number
pub record IsRankOf (f : ℕ → ℕ) (r : Rank) : Type 0 where
  pub is_open : IsOpen f r.slot
  pub number : transaction f r.slot ≡ r.number

-- these are the open slots of the first ones, in the order of their numbers
pub record Ranks (f : ℕ → ℕ) (count : ℕ) (ranks : List Rank) : Type 0 where
  pub below : AllByRecursion (λ r. r.slot < count) ranks
  pub each : AllByRecursion (IsRankOf f) ranks
  pub all : (slot : ℕ) → slot < count → IsOpen f slot → IsListed slot (slots_of ranks)
  pub rising : AreRanked ranks

-- one of them has the number
abbrev pub HasNumber : ℕ → List Rank → Type 0
HasNumber number [] = ⊥
HasNumber number (r ∷ rest) = (r.number ≡ number) ⊎ HasNumber number rest

-- the number is above those of the first k, and below those of the others
pub record SplitsAt (number k : ℕ) (ranks : List Rank) : Type 0 where
  pub within : k ≤ length ranks
  pub lower : AllByRecursion (λ r. r.number < number) (take k ranks)
  pub upper : AllByRecursion (λ r. number < r.number) (drop k ranks)

-- the slot is open, and another open one has its number
pub record SharesAt (f : ℕ → ℕ) (slot : ℕ) : Type 0 where
  pub is_open : IsOpen f slot
  pub shares : SharesNumber f slot

-- the page reported is the header of such a slot
abbrev pub SharedIn : (ℕ → ℕ) → OpenError → Type 0
SharedIn f (BadNode page) = (slot : ℕ) × (slot < 8) × (page ≡ 2 + 33 * slot) × SharesAt f slot
SharedIn f Fault = Unit {0}
SharedIn f OutOfMemory = Unit {0}
SharedIn f NotAJournal = ⊥

-- the slot has what a post leaves, whether or not its gate is open
pub record HasPost (homes : ℕ) (f : ℕ → ℕ) (slot : ℕ) : Type 0 where
  pub some : 0 < image_count f slot
  pub few : image_count f slot ≤ 31
  pub inside : AreBelow homes (pages_of (images f slot))
  pub distinct : AreDistinct (pages_of (images f slot))

-- the page reported is the header of one of these slots, which has no post
abbrev pub BadIn : ℕ → (ℕ → ℕ) → List ℕ → OpenError → Type 0
BadIn homes f slots (BadNode page) = (slot : ℕ) × IsListed slot slots × (page ≡ 2 + 33 * slot) × (¬ HasPost homes f slot)
BadIn homes f slots Fault = Unit {0}
BadIn homes f slots OutOfMemory = Unit {0}
BadIn homes f slots NotAJournal = ⊥

-- pages that are to be copied home from the j-th image of a slot on
abbrev pub relocations : ℕ → ℕ → List ℕ → List Relocation
relocations slot j [] = []
relocations slot j (n ∷ rest) = record { from = image_place slot j; page = n } ∷ relocations slot (suc j) rest

-- the images that are copied
abbrev pub moved : (ℕ → ℕ) → List Relocation → List Image
moved f [] = []
moved f (r ∷ rest) = (r.page, octets f r.from 16384) ∷ moved f rest

-- from before the home pages to one of them
pub record IsHomeward (homes : ℕ) (r : Relocation) : Type 0 where
  pub low : r.from + 16384 ≤ slots_end
  pub inside : r.page < homes

-- out of memory, a failure of the device, or the page of a slot's header
abbrev pub HeaderRefusal : ℕ → OpenError → Type 0
HeaderRefusal slot Fault = Unit {0}
HeaderRefusal slot OutOfMemory = Unit {0}
HeaderRefusal slot (BadNode page) = page ≡ 2 + 33 * slot
HeaderRefusal slot NotAJournal = ⊥

-- out of memory, a failure of the device, or the page of some slot's header
abbrev pub IsDamage : OpenError → Type 0
IsDamage Fault = Unit {0}
IsDamage OutOfMemory = Unit {0}
IsDamage (BadNode page) = (slot : ℕ) × (slot < 8) × (page ≡ 2 + 33 * slot)
IsDamage NotAJournal = ⊥
