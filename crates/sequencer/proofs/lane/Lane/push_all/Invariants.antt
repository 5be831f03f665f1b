use Rattle.std.proofs.Common.{◌≡◌, ◌+◌, ◌++◌, take}
use Rattle.sequencer.proofs.lane.Lane.push_all.Given as goal

abbrev pub invariant-loop-time : goal.invariant-loop-time
invariant-loop-time l = (l.self.mark ≡ l.fn.self.mark) × (l.self.times ≡ l.fn.self.times ++ take l.time-index l.times) × (l.self.room + l.time-index ≡ l.fn.self.room)
