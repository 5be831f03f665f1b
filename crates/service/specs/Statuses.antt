-- Exit statuses.
use Rattle.std.specs.Prelude.{ℕ}
use Rattle.service.specs.declared.status.Status.{Status}
use Rattle.service.specs.declared.status.Status.TheVariants.{Done, Refused, Failed}

-- 0 if all is done, else 1
abbrev pub code_of : Status → ℕ
code_of Done = 0
code_of Refused = 1
code_of Failed = 1
