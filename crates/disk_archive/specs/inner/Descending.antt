-- What a turn of a question is made from.
use Rattle.std.specs.Prelude.{ℕ, List, Option}
use Rattle.page_tx.specs.declared.pages.Pages.{Ghosts}
use Rattle.page_tx.specs.Start.{Start}
use Rattle.route_meaning.specs.History.{History, IsHistory, applied}
use Rattle.route_history.specs.Kept.{HaveVersions}
use Rattle.route_history.specs.declared.rows_turn.RowsTurn.{RowsTurn}
use Rattle.route_history.specs.declared.rows_turn.RowsTurn.TheVariants as rows
use Rattle.route_history.specs.declared.events_turn.EventsTurn.{EventsTurn}
use Rattle.route_history.specs.declared.events_turn.EventsTurn.TheVariants as events
use Rattle.interleaving_core.specs.declared.query.Answer.TheVariants as answers
use Rattle.version_model.specs.Versions.{Version}
use Rattle.disk_archive.specs.declared.descending.Descent.{Descent}
use Rattle.disk_archive.specs.declared.descending.Descent.TheVariants.{Done, Again, Historical}
use Rattle.disk_archive.specs.declared.errand.Errand.TheVariants as errands
use Rattle.disk_archive.specs.Descents.{is_known}
use Rattle.disk_archive.specs.Trees.{TreeLocated}

-- a turn of a question of a moment, as one of any question
abbrev pub of_rows : RowsTurn → Descent
of_rows (rows.Done answer) = Done (answers.Rows answer)
of_rows rows.Again = Again
of_rows (rows.Historical errand) = Historical (errands.Rows errand)

-- the same of a history
abbrev pub of_events : EventsTurn → Descent
of_events (events.Done answer) = Done (answers.Events answer)
of_events events.Again = Again
of_events (events.Historical errand) = Historical (errands.Events errand)

-- On the pages of a transaction, and in settled blocks of a disk of `count` blocks, a tree lies with this root, which uses no block from
-- this one on. It represents versions of what the right history has applied.
pub record HasPages {P : Type 0} (pages : Ghosts P) (held : P) (count : ℕ) (known : ℕ → Option (List ℕ)) (root block : ℕ) (h : History) : Type 0 where
  pub right : IsHistory h
  pub start : Start
  pub shown : List (List ℕ)
  pub shows : pages.shows held start shown
  pub low : ℕ
  pub fresh : ℕ
  pub stamp : ℕ
  pub versions : List Version
  pub located : TreeLocated count shown (is_known known) low root fresh block stamp versions
  pub kept : HaveVersions (applied h) versions
