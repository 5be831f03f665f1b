use Rattle.std.proofs.Common.{◌≡◌, false, length}
use Rattle.service.proofs.Outputs.{Put}
use Rattle.service.proofs.output.Output.put.Given as goal

abbrev pub invariant-loop-rest : goal.invariant-loop-rest
invariant-loop-rest g l = record { sound : l.self.failed ≡ false; put : Put l.octets l.rest l.initial.self.held l.self.held }

abbrev pub decreases-loop-rest : goal.decreases-loop-rest
decreases-loop-rest g l = length l.rest
