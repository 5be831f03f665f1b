use Rattle.std.proofs.Common.{◌≡◌, [], length, replicate}
use Rattle.sequencer.specs.Lanes.{marks, waiting_times}
use Rattle.sequencer.proofs.sequencer.Sequencer.new.Given as goal

abbrev pub invariant-loop : goal.invariant-loop
invariant-loop l = (marks l.lanes.items ≡ replicate (length l.lanes.items) 0) × (waiting_times l.lanes.items ≡ replicate (length l.lanes.items) []) × (length l.lanes.items ≡ l.counter)
