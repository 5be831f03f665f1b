use Rattle.std.proofs.Common.{◌≡◌, ◌∙◌, ap, arith}
use Rattle.service.specs.Statuses.{code_of}
use Rattle.service.proofs.Statuses.{few}
use Rattle.service.proofs.running.finish.Goals as goal

pub returns : goal.returns
returns g c =
    let written = c.write_out-written.ensures in
    let first = c.code.ensures.code in
    let m = c.max.ensures in
    record {
      written = record {
        flushed = written.flushed;
        sound = λ sound. let none : c.code-2.result ≡ 0 = c.code-2.ensures.code ∙ ap code_of (written.done sound) in omega (arith, first, none, m);
        failed = λ failed.
            let one : c.code-2.result ≡ 1 = c.code-2.ensures.code ∙ ap code_of (written.failed failed) in
            let least = few c.args.ended in
            omega (arith, first, one, m, least);
        quiet = written.quiet;
        reported = written.reported;
      };
    }
