-- What an archive represents after files are loaded, one after another.
use Rattle.std.specs.Prelude.{◌≡◌, ◌⊎◌, ◌↔◌, ◌-◌, ℕ, Bool, true, false, IsTrue, List, [], ◌∷◌, ◌++◌, Option, None}
use Rattle.route_meaning.specs.History.{History}
use Rattle.service.specs.Represented.{Represented}
use Rattle.service.specs.Doubts.{IsHeld}
use Rattle.service.specs.Feeds.{MayGive, Sums, limits_for}
use Rattle.service.specs.FeedTexts.{intake_in}
use Rattle.service.specs.Loads.{IsLoadEnd}
use Rattle.service.specs.Outputs.{InputState, OutputState}
use Rattle.service.specs.Resuming.{dropped_where}
use Rattle.service.specs.declared.report.LoadReport.{LoadReport}
use Rattle.service.specs.declared.settings.LoadSettings.{LoadSettings}
use Rattle.service.specs.declared.status.Status.{Status}
use Rattle.service.specs.declared.status.Status.TheVariants as statuses

-- the mark that a load sets, unless it is held back
abbrev pub mark_unless : Bool → Option ℕ → Option ℕ
mark_unless true mark = None
mark_unless false mark = mark

-- the status of a load: one that is held back isn't done
abbrev pub refused_if : Bool → Status → Status
refused_if true statuses.Done = statuses.Refused
refused_if true statuses.Refused = statuses.Refused
refused_if true statuses.Failed = statuses.Failed
refused_if false status = status

-- a file that is loaded, and the report of its load
pub record FileState : Type 0 where
  pub input : InputState
  pub report : LoadReport

-- how a file is loaded that these come after: with the mark if there are none
abbrev pub with_mark_at : List FileState → LoadSettings → LoadSettings
with_mark_at [] how = how
with_mark_at (file ∷ later) how = record how { mark = None }

-- The report of a load whose feed has these sums, if `dropped` admissions were to be dropped before it: what became of its records, how many of their entries were left out, how many
-- admissions were dropped, and that the load is held back exactly if it has to be.
pub record IsReported (how : LoadSettings) (dropped : ℕ) (sums : Sums) (report : LoadReport) : Type 0 where
  pub begun : report.is_begun ≡ true
  pub counts : report.counts ≡ sums.counts
  pub left_out : report.left_out ≡ sums.left_out
  pub drops : report.dropped ≡ dropped - sums.left
  pub held : IsTrue report.is_held ↔ IsHeld how.strict how.mark sums.counts report.dropped sums.mark

-- How the load of a file of these octets ended, `dropped` of whose first admissions are dropped: as one that isn't strict; but if it is held back, no mark
-- was set, and it is refused. `left` admissions are dropped of the next file.
pub record IsFileEnd (how : LoadSettings) (most dropped left : ℕ) (h : History) (bytes : List ℕ) (lost_was lost : Bool) (status : Status) (report : LoadReport) (archive : Represented) (was now err_was err_now : OutputState) : Type 0 where
  pub sums : Sums
  pub drops : left ≡ sums.left
  pub reported : IsReported how dropped sums report
  pub plain : Status
  pub status_is : status ≡ refused_if report.is_held plain
  pub ended : IsLoadEnd how.feed.rule how.feed.collector dropped (limits_for how.feed most) (mark_unless report.is_held how.mark) h bytes sums lost_was lost plain archive was now err_was err_now

-- The file was loaded without a mark, and its load was done: the archive represents `next`, and `left` admissions are dropped of the file after it.
pub record IsWhole (how : LoadSettings) (most dropped left : ℕ) (h next : History) (file file_now : FileState) (was now err : OutputState) : Type 0 where
  pub bytes : List ℕ
  pub given : MayGive file.input.left bytes
  pub ended : IsFileEnd (record how { mark = None }) most dropped left h bytes file.input.failed file_now.input.failed statuses.Done file_now.report (λ g. g ≡ next) was now err err

-- each of these files was loaded so, one after another
abbrev pub AreWhole : LoadSettings → ℕ → ℕ → ℕ → History → History → List FileState → List FileState → OutputState → OutputState → OutputState → Type 0
AreWhole how most dropped left h next [] [] was now err = (left ≡ dropped) × (next ≡ h) × (now ≡ was)
AreWhole how most dropped left h next (file ∷ files) (file_now ∷ files_now) was now err =
    (drop : ℕ) × (between : History) × (mid : OutputState) × IsWhole how most dropped drop h between file file_now was mid err × AreWhole how most drop left between next files files_now mid now err
AreWhole how most dropped left h next [] (file ∷ files) was now err = ⊥
AreWhole how most dropped left h next (file ∷ files) [] was now err = ⊥

-- How a load of files ended: each file of a front was loaded without a mark, and its load was done; then the load of the next one, with the mark if it is the last, ended so.
-- If that isn't done, those after it are as they were.
pub record IsLoadedTo (how : LoadSettings) (most dropped : ℕ) (h : History) (files files_now : List FileState) (status : Status) (archive : Represented) (was now err_was err_now : OutputState) : Type 0 where
  pub front : List FileState
  pub front_now : List FileState
  pub file : FileState
  pub file_now : FileState
  pub later : List FileState
  pub parts : files ≡ front ++ file ∷ later
  pub parts_now : files_now ≡ front_now ++ file_now ∷ later
  pub left : ℕ
  pub left_now : ℕ
  pub next : History
  pub between : OutputState
  pub whole : AreWhole how most dropped left h next front front_now was between err_was
  pub bytes : List ℕ
  pub given : MayGive file.input.left bytes
  pub ended : IsFileEnd (with_mark_at later how) most left left_now next bytes file.input.failed file_now.input.failed status file_now.report archive between now err_was err_now
  pub last : status ≡ statuses.Done → later ≡ []

-- How a load of files ended. If it goes on, as many of their admissions are dropped, one file after another, as were offered of the collector. Of no files it does nothing.
abbrev pub AreLoaded : LoadSettings → ℕ → History → List FileState → List FileState → Status → Represented → OutputState → OutputState → OutputState → OutputState → Type 0
AreLoaded how most h files files_now status archive was now err_was err_now =
    ((files ≡ []) × (status ≡ statuses.Done) × archive h × (now ≡ was) × (err_now ≡ err_was))
    ⊎ IsLoadedTo how most (dropped_where how.resume (intake_in h.intakes how.feed.collector)) h files files_now status archive was now err_was err_now
