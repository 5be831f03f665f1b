-- What commands print that are made one after another.
use Rattle.std.specs.Prelude.{ℕ, List}
use Rattle.route_meaning.specs.History.{History}
use Rattle.interleaving_core.specs.Steps.{empty}
use Rattle.disk_calls.specs.Represented.{limit_for}
use Rattle.disk_commands.specs.Disks.{settings_for}
use Rattle.service.specs.FileLoads.{FileState}
use Rattle.service.specs.Outputs.{OutputState}
use Rattle.service.specs.Running.{AreFilesLoaded, IsCreationReported, IsLineAsked}
use Rattle.service.specs.declared.invocation.Creation.{Creation}
use Rattle.service.specs.declared.invocation.Loading.{Loading}
use Rattle.command_tests.specs.declared.played.Filled.{Filled}
use Rattle.command_tests.specs.declared.played.Played.{Played}

-- The files were loaded into this history, and the line was answered by the history that the load left.
pub record IsFilled (how : Loading) (most : ℕ) (line : List ℕ) (h : History) (files files_now : List FileState) (filled : Filled) (was now err_was err_now : OutputState) : Type 0 where
  pub loaded_to : OutputState
  pub loaded_err : OutputState
  pub loaded : AreFilesLoaded how most h files files_now filled.loaded (λ g. IsLineAsked line g filled.answered loaded_to now loaded_err err_now) was loaded_to err_was loaded_err

-- An archive was made, the files were loaded into the history to which nothing was given, and the line was answered by what the load left.
pub record IsPlayed (made : Creation) (how : Loading) (line : List ℕ) (files files_now : List FileState) (played : Played) (was now err_was err_now : OutputState) : Type 0 where
  pub created_to : OutputState
  pub created_err : OutputState
  pub created : IsCreationReported made played.created was created_to err_was created_err
  pub filled : IsFilled how (limit_for (settings_for made)) line (empty made.collectors) files files_now played.filled created_to now created_err err_now
