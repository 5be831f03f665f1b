-- an interrupted write writes nothing
use Rattle.std.specs.Io.KnownBytes.{Keeps}
use Rattle.service.proofs.output.write_through.Given as goal

abbrev pub invariant-loop : goal.invariant-loop
invariant-loop g l = Keeps (g.W.Write.contents l.initial.writer) (g.W.Write.contents l.writer)
