use Rattle.std.proofs.Common.{ℕ, ap, subst, sym}
use Rattle.disk_archive.specs.Archives.{GoesOn}
use Rattle.disk_archive.specs.Sites.{Site}
use Rattle.disk_calls.specs.Represented.{limit_for}
use Rattle.disk_commands.proofs.Keeping.{keep_back, kept_on}
use Rattle.disk_commands.proofs.running.run_on.Goals as goal

pub returns-in-Ok-clause-ran : goal.returns-in-Ok-clause-ran
returns-in-Ok-clause-ran g c = λ h r.
    let on = c.in-Ok.ensures.represents h r in
    let run = c.run-archive.ensures.done h on.0 in (
      run.0,
      subst (λ (most : ℕ). g.C.Command.does c.args.command.now c.run-archive.new.self most h run.0 c.run-archive.result.1) (ap (λ (s : Site). limit_for s.settings) on.1) run.2,
      c.close_disks-disks.ensures.left run.0 (subst (λ x. GoesOn x run.0) (sym c.into_archive.ensures.same) run.1.goes_on),
    )

pub returns-in-Ok-clause-goes_on : goal.returns-in-Ok-clause-goes_on
returns-in-Ok-clause-goes_on g c = λ on. kept_on g.E.EraseDisk g.O.OnceDisk c.args.disks c.close_disks-disks.result.0
    (λ h r. let ran = returns-in-Ok-clause-ran g c h r in keep_back g.E.EraseDisk g.O.OnceDisk c.close_disks-disks.result.0 h ran.0 (on _ h ran.0 _ ran.1) ran.2.keep)
