use Rattle.std.proofs.Common.{ap, refl, Ok}
use Rattle.disk_calls.proofs.Serving.{grown_reads, honest_of, moves_some}
use Rattle.disk_calls.proofs.calls.DiskArchiveRouteArchive.apply_step.Goals as goal

pub returns-in-Ok-Applied-clause-done : goal.returns-in-Ok-Applied-clause-done
returns-in-Ok-Applied-clause-done g c = λ h k.
    let a = c.args.self.now.archive in
    let honest = honest_of a h k.goes_on in
    let m = c.in-Ok-Applied.ensures.applied c.in-Ok-Applied.field-0-is honest h (λ _. k.goes_on) in (
      m.0,
      record {
        goes_on = m.2 (c.apply_step.ensures.honest.0 honest);
        reads = grown_reads a c.apply_step.new.self c.args.self.now.reader c.apply_step.ensures.disk (c.apply_step.ensures.grows honest).settled k.reads;
      },
      moves_some h m.0 m.1,
    )

pub returns-in-Ok-Idle-clause-done : goal.returns-in-Ok-Idle-clause-done
returns-in-Ok-Idle-clause-done g c = λ h k.
    let a = c.args.self.now.archive in
    let honest = honest_of a h k.goes_on in
    let e = c.in-Ok-Idle.ensures in (
      h,
      record {
        goes_on = e.idle_same (ap Ok c.in-Ok-Idle.field-0-is) h (λ _. k.goes_on) (c.apply_step.ensures.honest.0 honest);
        reads = grown_reads a c.apply_step.new.self c.args.self.now.reader c.apply_step.ensures.disk (c.apply_step.ensures.grows honest).settled k.reads;
      },
      ((e.idle honest h (λ _. k.goes_on)).0 c.in-Ok-Idle.field-0-is, refl),
    )

pub returns-in-Err-clause-done : goal.returns-in-Err-clause-done
returns-in-Err-clause-done g c = λ h k.
    let a = c.args.self.now.archive in
    let honest = honest_of a h k.goes_on in (
      h,
      record {
        goes_on = c.in-Err.ensures.err h (λ _. k.goes_on) (c.apply_step.ensures.honest.0 honest);
        reads = grown_reads a c.apply_step.new.self c.args.self.now.reader c.apply_step.ensures.disk (c.apply_step.ensures.grows honest).settled k.reads;
      },
      refl,
    )
