-- a read that is made again read nothing
use Rattle.std.specs.Io.KnownBytes.{Keeps}
use Rattle.serving.proofs.socket.read_patiently.Given as goal

abbrev pub invariant-loop : goal.invariant-loop
invariant-loop g l = Keeps (g.S.Read.remaining l.initial.socket) (g.S.Read.remaining l.socket)
