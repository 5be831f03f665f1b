use Rattle.std.proofs.Common.{append-nil, refl, subst}
use Rattle.service.specs.Outputs.{Reports}
use Rattle.service.specs.Listening.{listening_line}
use Rattle.service.proofs.Outputs.{Reports-trans}
use Rattle.service.proofs.listening.report_listening.Goals as goal

pub returns-then-has_failed : goal.returns-then-has_failed
returns-then-has_failed g c =
    let wrote = Reports-trans _ _ _ _ _ c.write_listening.ensures.line c.flush.ensures.reports in
    let failed = c.has_failed.ensures.failed in
    record {
      reported = record {
        wrote = subst (Reports c.args.out.now c.flush.new.self) (append-nil (listening_line c.args.bound.now c.args.http)) wrote;
        sound = λ sound. absurd cc;
        failed = λ reported. refl;
        reported = record { reported = λ reported. c.report_unwritten.ensures.reported; quiet = λ sound. absurd cc };
      };
    }
