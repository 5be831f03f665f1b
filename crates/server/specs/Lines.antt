-- The lines that a connection is sent beside replies.
use Rattle.std.specs.Prelude.{ℕ, List, ◌++◌, codes}
use Rattle.service.specs.Refusals.{line_end}
use Rattle.service.specs.declared.refusal.Refusal.{Refusal}
use Rattle.service.specs.declared.refusal.Refusal.TheVariants as refusals
use Rattle.service.specs.declared.request.RequestError.{RequestError}
use Rattle.service.specs.declared.request.RequestError.TheVariants as errors

-- that the connection ends as it was asked to
abbrev pub ok_line : List ℕ
ok_line = codes "ok" ++ line_end

-- the refusal of a line that isn't read
abbrev pub of_request : RequestError → Refusal
of_request errors.BadRequest = refusals.BadRequest
of_request errors.OutOfMemory = refusals.OutOfMemory
