use Rattle.std.proofs.Common.{rules}
use Rattle.serving.proofs.Reading.{none_among}
use Rattle.serving.proofs.jobs.work.Goals as goal

pub loop-init : goal.loop-init
loop-init g c = record {
  next = search rules;
  finite = search rules;
  reader = λ named. none_among c.in-Ok.reader _ c.in-Ok.ensures.empty;
}
