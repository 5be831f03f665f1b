-- How a connection goes on whose next line can't be read. Contracts of private functions alone cite this file.
use Rattle.std.specs.Prelude.{◌≡◌}
use Rattle.line_reader.specs.declared.fault.LineError.{LineError}
use Rattle.line_reader.specs.declared.fault.LineError.TheVariants as errors
use Rattle.service.specs.Outputs.{OutputState, Reports}
use Rattle.service.specs.Refusals.{refusal_line}
use Rattle.service.specs.declared.refusal.Refusal.TheVariants as refusals
use Rattle.server.specs.declared.connection.Ending.{Ending}
use Rattle.server.specs.declared.connection.Ending.TheVariants as endings

-- a line that is too long is answered, and a failure isn't
abbrev pub ReportsEnd : LineError → Ending → OutputState → OutputState → Type 0
ReportsEnd errors.TooLong ending was now = (ending ≡ endings.Done) × Reports was now (refusal_line refusals.BadRequest)
ReportsEnd (errors.Failed error) ending was now = (ending ≡ endings.Failed) × (now ≡ was)
