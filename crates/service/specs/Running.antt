-- What the program does for a command, once its archive is created or open.
use Rattle.std.specs.Prelude.{◌≡◌, ℕ, Bool, true, false, List, [], ◌++◌, codes, decimal}
use Rattle.route_meaning.specs.History.{History}
use Rattle.resolve.specs.declared.without_hop.WithoutHop.{WithoutHop}
use Rattle.resolve.specs.declared.without_hop.WithoutHop.TheVariants.{Refused, LeftOut}
use Rattle.service.specs.Represented.{Represented}
use Rattle.service.specs.Checks.{IsCheckEnd}
use Rattle.service.specs.FileLoads.{AreLoaded, FileState}
use Rattle.service.specs.Outputs.{OutputState, Reports}
use Rattle.service.specs.Refusals.{ReportsFailure, line_end}
use Rattle.service.specs.Replies.{IsAskEnd}
use Rattle.service.specs.Statuses.{code_of}
use Rattle.service.specs.declared.invocation.Creation.{Creation}
use Rattle.service.specs.declared.invocation.Loading.{Loading}
use Rattle.service.specs.declared.settings.LoadSettings.{LoadSettings}
use Rattle.service.specs.declared.status.Status.{Status}

-- A command ended so, and then what was buffered was written out. The exit status is that of the command, and 1 if not all could be
-- written. If that failed before, standard error has no more of it.
pub record IsWrittenOut (ended : Status) (code : ℕ) (was now err_was err_now : OutputState) : Type 0 where
  pub flushed : Reports was now []
  pub sound : now.failed ≡ false → code ≡ code_of ended
  pub failed : now.failed ≡ true → code ≡ 1
  pub quiet : was.failed ≡ true → err_now ≡ err_was
  pub reported : was.failed ≡ false → ReportsFailure now.failed err_was err_now

-- what becomes of entries without a next hop, by whether the command line has them left out
abbrev pub rule_where : Bool → WithoutHop
rule_where true = LeftOut
rule_where false = Refused

-- how files are loaded as the command line asks
abbrev pub settings_of : Loading → LoadSettings
settings_of asked = record { feed = record { collector = asked.collector; limit = asked.batch; rule = rule_where asked.lose_entries }; mark = asked.mark; resume = asked.resume; strict = asked.strict }

-- The files were loaded as the command line asks, into an archive that represented h and takes batches of at most `most` octets, and what was buffered
-- was flushed.
pub record AreFilesLoaded (asked : Loading) (most : ℕ) (h : History) (files files_now : List FileState) (code : ℕ) (archive : Represented) (was now err_was err_now : OutputState) : Type 0 where
  pub loaded : Status
  pub loaded_to : OutputState
  pub loaded_err : OutputState
  pub load : AreLoaded (settings_of asked) most h files files_now loaded archive was loaded_to err_was loaded_err
  pub written : IsWrittenOut loaded code loaded_to now loaded_err err_now

-- the line was answered by an archive that represents h, and what was buffered was flushed
pub record IsLineAsked (line : List ℕ) (h : History) (code : ℕ) (was now err_was err_now : OutputState) : Type 0 where
  pub answered : Status
  pub answered_to : OutputState
  pub answered_err : OutputState
  pub answer : IsAskEnd h line answered was answered_to err_was answered_err
  pub written : IsWrittenOut answered code answered_to now answered_err err_now

-- the archive, which represents h, was checked, and what was buffered was written out
pub record IsArchiveChecked (h : History) (code : ℕ) (was now err_was err_now : OutputState) : Type 0 where
  pub checked : Status
  pub checked_to : OutputState
  pub checked_err : OutputState
  pub check : IsCheckEnd h checked was checked_to err_was checked_err
  pub written : IsWrittenOut checked code checked_to now checked_err err_now

-- what an archive is made with: its collectors, the pages of a ring, its pages and its blocks
abbrev pub created_line : Creation → List ℕ
created_line made = codes "created " ++ decimal made.collectors ++ codes " " ++ decimal made.ring ++ codes " " ++ decimal made.pages ++ codes " " ++ decimal made.blocks ++ line_end

-- That line was written, and what was buffered was written out. The exit status is 0 if all could be written, and else 1.
pub record IsCreationReported (made : Creation) (code : ℕ) (was now err_was err_now : OutputState) : Type 0 where
  pub wrote : Reports was now (created_line made)
  pub sound : now.failed ≡ false → code ≡ 0
  pub failed : now.failed ≡ true → code ≡ 1
  pub reported : ReportsFailure now.failed err_was err_now
