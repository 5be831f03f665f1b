use Rattle.std.proofs.Common.{◌≡◌, take, []}
use Rattle.sequencer.specs.Late.{greatest, timely, lates}
use Rattle.sequencer.proofs.late.sieve.Given as goal

abbrev pub invariant-loop-index : goal.invariant-loop-index
invariant-loop-index l = record {
  timely : l.timely.items ≡ timely (λ t. t) l.fn.mark [] (take l.index l.times);
  late : l.late.items ≡ lates (λ t. t) l.fn.mark [] 0 (take l.index l.times);
  mark : l.reached ≡ greatest l.fn.mark (take l.index l.times);
}
