-- What disks represent, also after a crash.
use Rattle.std.specs.Prelude.{◌≡◌, ◌⊎◌, ℕ, List}
use Rattle.disk_models.specs.Erase.{DiskState}
use Rattle.disk_models.specs.Once.{OnceState, settled_in}
use Rattle.disk_models.specs.Left.{Left, LeftNow}
use Rattle.page_journal.specs.Recovers.{Recovers}
use Rattle.route_meaning.specs.History.{History, Begins}
use Rattle.interleaving_core.specs.Steps.{IsMarkAbove, marked}
use Rattle.archive_pages.specs.declared.settings.Settings.{Settings}
use Rattle.archive_pages.specs.Places.{AreSettings}
use Rattle.archive_pages.specs.Represented.{PagesRepresent}
use Rattle.disk_archive.specs.Notes.{note_octets}
use Rattle.disk_archive.specs.Trees.{TreeLocated}

-- what an archive was made with, for good: its settings, how many home pages and which note its journal has, and how many blocks its disk
pub record Site : Type 0 where
  pub settings : Settings
  pub homes : ℕ
  pub note : List ℕ
  pub blocks : ℕ

-- The note has the settings, which are within their limits, and how many blocks there are.
pub record IsNoted (site : Site) : Type 0 where
  pub settings : AreSettings site.settings
  pub note : site.note ≡ note_octets site.blocks site.settings

-- What a crash left of both disks represents the history: the octets represent pages that, with the blocks that are settled, represent it.
pub record LeftRepresents (site : Site) (h : History) (left : Left) : Type 0 where
  pub pages : List (List ℕ)
  pub means : Recovers site.homes site.note left.erase pages
  pub represents : PagesRepresent (TreeLocated site.blocks) site.settings (settled_in left.once) pages h

-- it represents one history or the other
abbrev pub LeftEither : Site → History → History → Left → Type 0
LeftEither site h g left = LeftRepresents site h left ⊎ LeftRepresents site g left

-- it represents one history, or that with the mark, which then isn't below the collector's
abbrev pub LeftMarked : Site → History → ℕ → ℕ → Left → Type 0
LeftMarked site h c mark left = LeftRepresents site h left ⊎ ((IsMarkAbove h c mark → ⊥) × LeftRepresents site (marked h c mark) left)

-- it represents a history that this one begins
abbrev pub LeftFrom : Site → History → Left → Type 0
LeftFrom site h left = (g : History) × Begins h g × LeftRepresents site g left

-- Whatever both disks read as, or a crash may leave of them now, represents a history that this one begins.
abbrev pub Rests : Site → DiskState → OnceState → History → Type 0
Rests site e o h = (left : Left) → LeftNow e o left → LeftFrom site h left
