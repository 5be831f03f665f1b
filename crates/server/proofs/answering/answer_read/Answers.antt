use Rattle.std.proofs.Common.{◌≡◌, ◌⊎◌, ℕ, List, Result, Err, inl, inr, refl, subst}
use Rattle.service.specs.Outputs.{OutputState, Reports}
use Rattle.service.specs.Refusals.{refusal_line}
use Rattle.service.specs.declared.refusal.Refusal.{Refusal}
use Rattle.service.specs.declared.refusal.Refusal.TheVariants as refusals
use Rattle.service.specs.declared.request.RequestError.{RequestError}
use Rattle.service.specs.declared.request.RequestError.TheVariants as errors
use Rattle.server.specs.declared.command.Command.{Command}
use Rattle.server.specs.declared.port.Port.{Port}
use Rattle.server.specs.Lines.{of_request}
use Rattle.server.specs.Ports.{AsksOn}
use Rattle.server.proofs.answering.answer_read.Goals as goal

-- what is written about a line that isn't read
refused : (port : Port) (line : List ℕ) (why : RequestError) (was now : OutputState) → (◌≡◌ {A = Result Command RequestError} (Err why) (Err errors.BadRequest) → (command : Command) → AsksOn port line command → ⊥) → Reports was now (refusal_line (of_request why))
    → (((command : Command) → AsksOn port line command → ⊥) × Reports was now (refusal_line refusals.BadRequest)) ⊎ Reports was now (refusal_line refusals.OutOfMemory)
refused port line errors.BadRequest was now none reported = inl (none refl, reported)
refused port line errors.OutOfMemory was now none reported = inr reported

pub returns-in-Err-clause-answers : goal.returns-in-Err-clause-answers
returns-in-Err-clause-answers g c = inr (inr (record {
  same = refl;
  reports = refused c.args.port c.args.line.now c.in-Err.why c.args.out.now c.write_refusal.new.out c.in-Err.ensures.none
      (subst (λ (r : Refusal). Reports c.args.out.now c.write_refusal.new.out (refusal_line r)) c.refusal_of.ensures c.write_refusal.ensures.line);
}))

pub returns-in-Mark-clause-reader : goal.returns-in-Mark-clause-reader
returns-in-Mark-clause-reader g c named n octets is = c.answer_mark.ensures.goes_on.blocks n octets (c.requires.reader named n octets is)
