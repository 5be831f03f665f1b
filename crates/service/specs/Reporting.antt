-- What the program prints on standard error besides the lines of its command.
use Rattle.std.specs.Prelude.{◌⊎◌, ◌++◌, ℕ, List}
use Rattle.service.specs.Outputs.{OutputState, Reports}
use Rattle.service.specs.Refusals.{error_line, reason_line}
use Rattle.service.specs.declared.refusal.Refusal.TheVariants as refusals

-- it shows that this failed, a file, an address or an argument, and after its name why; if there was no memory for that, that
-- something failed
abbrev pub ReportsOutside : List ℕ → OutputState → OutputState → Type 0
ReportsOutside what was now = Reports was now (error_line refusals.Outside) ⊎ ((reason : List ℕ) × Reports was now (reason_line refusals.Outside (what ++ reason)))
