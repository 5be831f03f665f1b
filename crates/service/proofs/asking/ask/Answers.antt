use Rattle.std.proofs.Common.{◌≡◌, ◌∙◌, ℕ, List, string_bytes, sym, subst}
use Rattle.service.specs.Outputs.{Reports}
use Rattle.service.proofs.Answered.{answered, refused}
use Rattle.service.proofs.asking.ask.Goals as goal

pub returns-in-Ok : goal.returns-in-Ok
returns-in-Ok g c = record {
  kept = λ h represented. c.reply.ensures.kept h represented;
  ended = λ h represented.
      let same : c.as_str.result.now ≡ string_bytes c.in-Ok.text = cc in
      answered h c.args.line.now _ c.reported.result c.args.out.now c.text.new.self c.args.err.now c.reported.new.err (sym c.has_failed.ensures.failed ∙ c.if-has_failed.false) c.reported.ensures.status (record { reported = c.reported.ensures.reported; quiet = c.reported.ensures.quiet }) (c.in-Ok.ensures.answered h represented)
      (subst (λ (t : List ℕ). Reports c.args.out.now c.text.new.self t) same c.text.ensures.reports);
}

pub returns-in-Err : goal.returns-in-Err
returns-in-Err g c = record {
  kept = λ h represented. c.reply.ensures.kept h represented;
  ended = λ h represented.
      refused h c.args.line.now c.in-Err.why c.reported-in-Err.result c.args.out.now c.write_refusal.new.out c.args.err.now c.reported-in-Err.new.err (sym c.has_failed.ensures.failed ∙ c.if-has_failed.false) c.reported-in-Err.ensures.status
      (record { reported = c.reported-in-Err.ensures.reported; quiet = c.reported-in-Err.ensures.quiet })
      (c.in-Err.ensures.refused h represented) (rw c.from.ensures at c.write_refusal.ensures.line);
}
