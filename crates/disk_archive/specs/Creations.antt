-- What an archive begins with, and what a crash leaves of it then.
use Rattle.std.specs.Prelude.{◌≡◌, ◌<◌, ◌⊎◌, ℕ, ◌+◌, ◌-◌, ◌/◌, min}
use Rattle.disk_models.specs.Left.{Left}
use Rattle.page_journal.specs.Identity.{HasNoJournal}
use Rattle.interleaving_core.specs.Steps.{empty}
use Rattle.archive_pages.specs.declared.settings.Settings.{Settings}
use Rattle.archive_pages.specs.Places.{tree_low}
use Rattle.disk_archive.specs.Notes.{note_octets}
use Rattle.disk_archive.specs.Sites.{LeftRepresents, Site}

-- how many home pages a disk of `size` octets has room for
abbrev pub homes_on : ℕ → ℕ
homes_on size = size / 16384 - 265

-- these are too few for the head, all rings, and the two pages of a tree of no version
abbrev pub IsTooSmall : Settings → ℕ → Type 0
IsTooSmall s size = homes_on size < tree_low s + 2

-- the site of an archive of these settings on disks of `size` octets and `blocks` blocks
abbrev pub site_on : Settings → ℕ → ℕ → Site
site_on s size blocks = record { settings = s; homes = homes_on size; note = note_octets blocks s; blocks = blocks }

-- What a crash left has no journal, or represents the history of an archive to which nothing was given.
abbrev pub LeavesNoneOrEmpty : Site → Left → Type 0
LeavesNoneOrEmpty site left = HasNoJournal left.erase ⊎ LeftRepresents site (empty site.settings.collectors) left

-- one of both disks failed once, and the other didn't: these are their counts of failures before and afterwards
abbrev pub CountsOne : ℕ → ℕ → ℕ → ℕ → Type 0
CountsOne erase erase' once once' = ((erase' ≡ min (erase + 1) 18446744073709551615) × (once' ≡ once)) ⊎ ((erase' ≡ erase) × (once' ≡ min (once + 1) 18446744073709551615))
