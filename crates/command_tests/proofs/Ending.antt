-- What is true of commands that ended well.
use Rattle.std.proofs.Common.{◌≡◌, ℕ, List, Result, Ok, IfOk, subst}
use Rattle.route_meaning.specs.History.{History}
use Rattle.disk_archive.specs.Sites.{Site}
use Rattle.disk_calls.specs.Represented.{limit_for}
use Rattle.service.specs.FileLoads.{FileState}
use Rattle.service.specs.Outputs.{OutputState}
use Rattle.service.specs.declared.invocation.Loading.{Loading}
use Rattle.command_tests.specs.declared.played.Filled.{Filled}
use Rattle.command_tests.specs.Plays.{IsFilled}

-- what is true of a success is true of its value
pub at_ok : {T X : Type 0} (r : Result T X) (x : T) (P : T → Type 0) → r ≡ Ok x → IfOk r P → P x
at_ok r x P is p = subst (λ (o : Result _ _). IfOk o P) is p

module _ (how : Loading) (line : List ℕ) (h : History) (files files_now : List FileState) (filled : Filled) (was now err_was err_now : OutputState) where
  -- files are loaded by the limits of the site that is named
  pub filled_at : (s t : Site) → s ≡ t → IsFilled how (limit_for s.settings) line h files files_now filled was now err_was err_now → IsFilled how (limit_for t.settings) line h files files_now filled was now err_was err_now
  filled_at s t e is = subst (λ (x : Site). IsFilled how (limit_for x.settings) line h files files_now filled was now err_was err_now) e is
