-- What a check of an archive reads of pending admissions.
use Rattle.std.specs.Prelude.{◌≡◌, ℕ, List, length}
use Rattle.disk_models.specs.declared.erase.EraseDisk.{Ghosts as EraseGhosts}
use Rattle.disk_models.specs.declared.once.OnceDisk.{Ghosts as OnceGhosts}
use Rattle.route_model.specs.Admission.{Admitted}
use Rattle.archive_head.specs.Head.{Contents}
use Rattle.archive_head.specs.declared.lane.Lane.{Lane}
use Rattle.intake.specs.declared.ring.Ring.{Ring}
use Rattle.intake.specs.Ring.{RingRepresents, IsRing}
use Rattle.intake.specs.Outlines.{BreaksOn}
use Rattle.archive_pages.specs.declared.settings.Settings.{Settings}
use Rattle.archive_pages.specs.Batches.{HasLane}
use Rattle.archive_pages.specs.Places.{ring_of}
use Rattle.disk_archive.specs.declared.archive.Archive.{Archive}

-- what its head represents
abbrev pub head_in : {E O Pen Seen : Type 0} {erase : EraseGhosts E} {once : OnceGhosts O Pen Seen} → Archive E O Pen Seen erase once → Contents
head_in a = a.head

-- The ring lies on these pages, and its octets are those of admissions.
pub record IsReadRing (pages : List (List ℕ)) (ring : Ring) : Type 0 where
  pub place : IsRing (length pages) ring
  pub waits : List Admitted
  pub holds : RingRepresents pages ring waits

-- so it is with the ring of each collector
abbrev pub AreRings : List (List ℕ) → Settings → Contents → Type 0
AreRings pages s head = (collector : ℕ) (lane : Lane) → HasLane head collector lane → IsReadRing pages (ring_of s collector lane)

-- The page is damaged: it is the head's, which gives a collector a ring that doesn't lie on these pages; or the first octets of a ring that
-- are no admission's begin on it.
pub data IsBadRing (pages : List (List ℕ)) (s : Settings) (head : Contents) : ℕ → Type 0 where
  no_ring : (collector : ℕ) (lane : Lane) → HasLane head collector lane → (IsRing (length pages) (ring_of s collector lane) → ⊥) → IsBadRing pages s head 0
  breaks_on : (collector : ℕ) (lane : Lane) → HasLane head collector lane → (page : ℕ) → BreaksOn pages (ring_of s collector lane) page → IsBadRing pages s head page
