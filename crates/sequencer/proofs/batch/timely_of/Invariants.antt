use Rattle.std.proofs.Common.{◌≡◌, ℕ, []}
use Rattle.route_meaning.specs.Holds.{admitted_time}
use Rattle.sequencer.specs.Late.{lates}
use Rattle.sequencer.proofs.Reported.{IsPassed}
use Rattle.sequencer.proofs.batch.timely_of.Given as goal

abbrev pub invariant-loop-index : goal.invariant-loop-index
invariant-loop-index l = (mark : ℕ) → l.late ≡ lates admitted_time mark [] 0 l.batch → IsPassed admitted_time mark l.late l.batch l.index l.passed l.kept.items
