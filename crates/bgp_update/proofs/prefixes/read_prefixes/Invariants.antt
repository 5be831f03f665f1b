use Rattle.std.proofs.Common.{length}
use Rattle.route_model.specs.PrefixFields.{IsPrefixField}
use Rattle.route_model.proofs.api.Sequences.{ReadSoFar}
use Rattle.bgp_update.proofs.prefixes.read_prefixes.Given as goal

abbrev pub invariant-loop-rest : goal.invariant-loop-rest
invariant-loop-rest l = ReadSoFar (IsPrefixField l.family) l.fn.bytes l.rest l.prefixes.items

abbrev pub decreases-loop-rest : goal.decreases-loop-rest
decreases-loop-rest l = length l.rest
