use Rattle.std.proofs.Common.{arith}
use Rattle.service.proofs.Outputs.{Reports-nil, Reports-trans}
use Rattle.service.specs.FeedLines.{late_line}
use Rattle.service.proofs.Lines.{next_line, all_lines}
use Rattle.service.proofs.feed_lines.write_admitted.Goals as goal

pub loop-late-init : goal.loop-late-init
loop-late-init g c = Reports-nil _

pub loop-late-preserved : goal.loop-late-preserved
loop-late-preserved g c = next_line late_line _ c.loop-late.late-index c.late-item.result _ _ _ (omega arith) c.late-item.is c.loop-late.invariant c.write_late.ensures.line

pub returns : goal.returns
returns g c =
    record {
      lines =
          Reports-trans _ _ _ _ _ c.write_numbers.ensures.line
          (all_lines late_line c.deref-late-items.result.now _ c.loop-late.late-index _ _ (omega arith) c.deref-late-items.ensures.value c.loop-late.invariant);
    }
