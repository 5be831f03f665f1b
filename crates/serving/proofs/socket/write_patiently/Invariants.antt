-- a write that is made again wrote nothing
use Rattle.std.specs.Io.KnownBytes.{Keeps}
use Rattle.serving.proofs.socket.write_patiently.Given as goal

abbrev pub invariant-loop : goal.invariant-loop
invariant-loop g l = Keeps (g.S.Write.contents l.initial.socket) (g.S.Write.contents l.socket)
