-- How a disk becomes a journal's. R is the first octet of the identity page's word.
use Rattle.std.specs.Prelude.{◌≡◌, ◌≢◌, ◌<◌, ℕ, List, drop}
use Rattle.disk_models.specs.Octets.{octets}
use Rattle.disk_models.specs.Erase.{DiskState}
use Rattle.page_journal.specs.Layout.{gate_place, homes_from}
use Rattle.page_journal.specs.Identity.{IsIdentity}

-- the first octet isn't R, and a crash can't change it
pub record IsUnnamed (s : DiskState) : Type 0 where
  pub synced : ¬ s.unsynced 0
  pub other : s.octet 0 ≢ 82

-- the same, and all else is as it was, and synced
pub record IsDisowned (old new : DiskState) : Type 0 where
  pub settled : (i : ℕ) → ¬ new.unsynced i
  pub other : new.octet 0 ≢ 82
  pub rest : (i : ℕ) → 0 < i → new.octet i ≡ old.octet i

-- All is synced, and all but the first octet of the identity page is there: the gates are closed, and these pages are home.
pub record LacksName (homes : ℕ) (note page : List ℕ) (s : DiskState) (pages : List (List ℕ)) : Type 0 where
  pub settled : (i : ℕ) → ¬ s.unsynced i
  pub identity : IsIdentity homes note page
  pub rest : octets s.octet 1 16383 ≡ drop 1 page
  pub closed : (slot : ℕ) → slot < 8 → s.octet (gate_place slot) ≡ 0
  pub home : pages ≡ homes_from s.octet 0 homes
