-- What a call is to commit.
use Rattle.std.specs.Prelude.{◌≡◌, ℕ, List}
use Rattle.archive_head.specs.Head.{Contents, EncodesHead, IsHead}
use Rattle.intake.specs.Ring.{page_at}
use Rattle.route_meaning.specs.History.{History}
use Rattle.archive_pages.specs.declared.settings.Settings.{Settings}
use Rattle.archive_pages.specs.Represented.{HeadRepresents}
use Rattle.disk_archive.specs.Trees.{TreeLocated}

-- these pages represent the history with this head, which is on the first of them
pub record Headed (count : ℕ) (s : Settings) (settled : ℕ → List ℕ → Type 0) (head : Contents) (pages : List (List ℕ)) (h : History) : Type 0 where
  pub valid : IsHead head
  pub first : EncodesHead head (page_at pages 0)
  pub head_represents : HeadRepresents (TreeLocated count) s settled head pages h

-- such pages are shown
pub record Planned (count : ℕ) (s : Settings) (settled : ℕ → List ℕ → Type 0) (shows : List (List ℕ) → Type 0) (head : Contents) (h : History) : Type 0 where
  pub pages : List (List ℕ)
  pub shown : shows pages
  pub headed : Headed count s settled head pages h
