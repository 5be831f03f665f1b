-- What a load is so of.
use Rattle.std.proofs.Common.{◌≡◌, ℕ, List, subst}
use Rattle.route_meaning.specs.History.{History}
use Rattle.service.specs.FileLoads.{FileState}
use Rattle.service.specs.Outputs.{OutputState}
use Rattle.service.specs.Represented.{Represented}
use Rattle.service.specs.Running.{AreFilesLoaded}
use Rattle.service.specs.declared.invocation.Loading.{Loading}

-- what is so of a load with batches of at most this many octets is so with the same number by another name
pub most_so : {asked : Loading} {most other : ℕ} {h : History} {files files_now : List FileState} {code : ℕ} {P : Represented} {was now err_was err_now : OutputState}
    → most ≡ other → AreFilesLoaded asked most h files files_now code P was now err_was err_now → AreFilesLoaded asked other h files files_now code P was now err_was err_now
most_so {asked} {most} {other} {h} {files} {files_now} {code} {P} {was} {now} {err_was} {err_now} same l = subst (λ (m : ℕ). AreFilesLoaded asked m h files files_now code P was now err_was err_now) same l
