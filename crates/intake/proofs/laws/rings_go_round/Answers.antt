use Rattle.intake.specs.Ring.{size_of, ring_octet}
use Rattle.intake.proofs.Wrapping.{wrapped_mod, reads_mod}
use Rattle.intake.proofs.laws.rings_go_round.Goals as goal

pub returns-clause-place : goal.returns-clause-place
returns-clause-place c = λ size at lt. wrapped_mod size at lt

pub returns-clause-represents_all : goal.returns-clause-represents_all
returns-clause-represents_all c = λ homes pages ring octets r few. reads_mod (ring_octet pages ring.low) (size_of ring) ring.first octets r.start few
