-- What pages and settled blocks represent: the history of an archive.
use Rattle.std.specs.Prelude.{◌≡◌, ◌≤◌, ℕ, List, [], ◌∷◌, length, Some, slice_get}
use Rattle.route_model.specs.Admission.{Admitted}
use Rattle.route_meaning.specs.Merged.{part}
use Rattle.route_meaning.specs.History.{Intake, History, IsHistory, waiting, applied}
use Rattle.version_model.specs.Versions.{Version}
use Rattle.route_history.specs.Kept.{Timed, timed, HaveVersions}
use Rattle.route_history.specs.Stamps.{stamp_of}
use Rattle.archive_head.specs.declared.lane.Lane.{Lane}
use Rattle.archive_head.specs.Head.{Contents, EncodesHead, IsHead}
use Rattle.intake.specs.Ring.{page_at, IsRing}
use Rattle.archive_pages.specs.declared.settings.Settings.{Settings}
use Rattle.archive_pages.specs.Places.{ring_of, tree_low}
use Rattle.archive_pages.specs.Stored.{LaneHolds}

-- the time of the last of the changes, or the one before them if there is none
abbrev pub last_time : ℕ → List Timed → ℕ
last_time before [] = before
last_time before (t ∷ ts) = last_time t.time ts

-- What is to be a tree: with these pages and settled blocks, of which the tree may use the pages from one on, with this root, and with
-- this first page and this first block that were never used, it represents these versions; and this is the least stamp that a version to
-- come may have.
abbrev pub TreeOn : Type 1
TreeOn = List (List ℕ) → (ℕ → List ℕ → Type 0) → ℕ → ℕ → ℕ → ℕ → ℕ → List Version → Type 0

-- The head has what a collector gave, and the collector's ring holds of it what waits, in its order.
pub record LaneRepresents (s : Settings) (pages : List (List ℕ)) (c : ℕ) (lane : Lane) (i : Intake) (waits : List Admitted) : Type 0 where
  pub offered : lane.offered ≡ i.offered
  pub admitted : lane.admitted ≡ length i.admitted
  pub mark : lane.mark ≡ i.mark
  pub place : IsRing (length pages) (ring_of s c lane)
  pub since : lane.since ≤ lane.admitted
  pub holds : LaneHolds s pages c lane waits

-- With this head the rings and the tree of these pages represent the history. What page 0 holds isn't said: a transaction writes it last.
pub record HeadRepresents (Tree : TreeOn) (s : Settings) (settled : ℕ → List ℕ → Type 0) (head : Contents) (pages : List (List ℕ)) (h : History) : Type 0 where
  pub right : IsHistory h
  pub number : length h.intakes ≡ s.collectors
  pub lanes_number : length head.lanes ≡ s.collectors
  pub lanes : (c : ℕ) (lane : Lane) (i : Intake) → slice_get head.lanes c ≡ Some lane → slice_get h.intakes c ≡ Some i → LaneRepresents s pages c lane i (part c (waiting h))
  pub begun : head.begun ≡ h.some
  pub numbered : head.applied ≡ length (timed (applied h))
  pub last : head.last ≡ last_time 0 (timed (applied h))
  pub versions : List Version
  pub kept : HaveVersions (applied h) versions
  pub tree : Tree pages settled (tree_low s) head.root head.fresh head.block (stamp_of head.last head.applied) versions

-- Page 0 encodes a head with which the pages represent the history.
pub record PagesRepresent (Tree : TreeOn) (s : Settings) (settled : ℕ → List ℕ → Type 0) (pages : List (List ℕ)) (h : History) : Type 0 where
  pub head : Contents
  pub valid : IsHead head
  pub first : EncodesHead head (page_at pages 0)
  pub head_represents : HeadRepresents Tree s settled head pages h

-- with these blocks the tree represents the same wherever its own pages are the same
abbrev pub IsFramed : TreeOn → (ℕ → List ℕ → Type 0) → Type 0
IsFramed Tree settled = (low root fresh block next_stamp : ℕ) (versions : List Version) (old new : List (List ℕ)) → length new ≡ length old → ((n : ℕ) → low ≤ n → page_at new n ≡ page_at old n)
    → Tree old settled low root fresh block next_stamp versions → Tree new settled low root fresh block next_stamp versions

-- it represents the same wherever more blocks are settled
abbrev pub IsGrowing : TreeOn → Type 1
IsGrowing Tree = (few many : ℕ → List ℕ → Type 0) → ((b : ℕ) (octets : List ℕ) → few b octets → many b octets) → (low root fresh block next_stamp : ℕ) (versions : List Version) (pages : List (List ℕ))
    → Tree pages few low root fresh block next_stamp versions → Tree pages many low root fresh block next_stamp versions
