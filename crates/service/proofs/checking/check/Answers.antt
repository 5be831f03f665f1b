use Rattle.std.proofs.Common.{◌∙◌, ℕ, sym, subst}
use Rattle.route_meaning.specs.History.{settled}
use Rattle.service.specs.Checks.{checked_line}
use Rattle.service.specs.Outputs.{Reports}
use Rattle.service.proofs.Checked.{counted, unchecked}
use Rattle.service.proofs.checking.check.Goals as goal

pub returns-in-Ok : goal.returns-in-Ok
returns-in-Ok g c = record {
  kept = λ h represented. c.check.ensures.represents h represented;
  ended = λ h represented.
      let changes = c.in-Ok.ensures.done h represented in
      let mark = c.settled.ensures.settled h (c.check.ensures.represents h represented) in
      counted h c.reported.result c.args.out.now c.write_checked.new.out c.args.err.now c.reported.new.err (sym c.has_failed.ensures.failed ∙ c.if-has_failed.false) c.reported.ensures.status (record { reported = c.reported.ensures.reported; quiet = c.reported.ensures.quiet })
      (subst (λ (n : ℕ). Reports c.args.out.now c.write_checked.new.out (checked_line n (settled h))) changes
      (subst (λ (n : ℕ). Reports c.args.out.now c.write_checked.new.out (checked_line c.in-Ok.changes n)) mark c.write_checked.ensures.line));
}

pub returns-in-Err : goal.returns-in-Err
returns-in-Err g c = record {
  kept = λ h represented. c.check.ensures.represents h represented;
  ended = λ h represented.
      unchecked h c.in-Err.trouble c.reported-in-Err.result c.args.out.now c.args.err.now c.report_trouble.new.err c.reported-in-Err.new.err (sym c.has_failed.ensures.failed ∙ c.if-has_failed.false) c.reported-in-Err.ensures.status
      (record { reported = c.reported-in-Err.ensures.reported; quiet = c.reported-in-Err.ensures.quiet })
      (c.in-Err.ensures.done h represented) (rw c.from.ensures at c.report_trouble.ensures.reported);
}
