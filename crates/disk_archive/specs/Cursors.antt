-- Questions in progress.
use Rattle.std.specs.Prelude.{ℕ, List, Option}
use Rattle.route_meaning.specs.History.{History, IsHistory, Begins, applied}
use Rattle.interleaving_core.specs.declared.query.Query.{Query}
use Rattle.interleaving_core.specs.declared.query.Query.TheVariants as queries
use Rattle.route_history.specs.declared.changed.ChangedCursor.{ChangedCursor}
use Rattle.route_history.specs.Changes.{HasChangedSo}
use Rattle.route_history.specs.Fronts.{front_number}
use Rattle.route_history.specs.Kept.{HaveVersions}
use Rattle.route_history.specs.Spans.{HasReportedSo, IsSameReporting}
use Rattle.route_history.specs.Walks.{Gathered, IsSame}
use Rattle.version_model.specs.Versions.{Version}
use Rattle.disk_archive.specs.declared.cursor.Cursor.{Cursor}
use Rattle.disk_archive.specs.declared.cursor.Cursor.TheVariants.{Rows, Events}

-- its question
abbrev pub asks : Cursor → Query
asks (Rows c) = queries.Rows c.question
asks (Events c) = queries.Events c.question

-- the key, or the stamp, that its walk has come to; none if the walk is over
abbrev pub walked_to : Cursor → Option ℕ
walked_to (Rows c) = front_number c.front
walked_to (Events c) = c.at

-- by these versions of what the history has applied, it has gathered exactly what the range has that its walk has passed, or its whole answer
abbrev pub HasGathered : List Version → History → Cursor → Type 0
HasGathered all h (Rows c) = Gathered all (applied h) c
HasGathered all h (Events c) = HasReportedSo all (applied h) c

-- What it has gathered is right over this history, and over each right one that this begins, whatever versions represent what is applied.
abbrev pub IsGathered : Cursor → History → Type 0
IsGathered c h = (g : History) → IsHistory g → Begins h g → (all : List Version) → HaveVersions (applied g) all → HasGathered all g c

-- the same of a walk over what changed
abbrev pub IsWalked : ChangedCursor → History → Type 0
IsWalked c h = (g : History) → IsHistory g → Begins h g → (all : List Version) → HaveVersions (applied g) all → HasChangedSo (applied g) c

-- both are the same
abbrev pub IsSameCursor : Cursor → Cursor → Type 0
IsSameCursor (Rows c) (Rows d) = IsSame c d
IsSameCursor (Rows c) (Events d) = ⊥
IsSameCursor (Events c) (Rows d) = ⊥
IsSameCursor (Events c) (Events d) = IsSameReporting c d
