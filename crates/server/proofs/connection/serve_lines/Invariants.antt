-- the blocks that the reader keeps are among those that the pass knows, and the lines so far were answered
use Rattle.std.specs.Prelude.{IsSome}
use Rattle.board.specs.Past.{Among}
use Rattle.server.proofs.Serving.{Served}
use Rattle.server.proofs.connection.serve_lines.Given as goal

abbrev pub invariant-loop : goal.invariant-loop
invariant-loop g l = record {
  next : (goal.iterator-loop g).can_next l.iterator';
  finite : (goal.iterator-loop g).is_finite l.iterator';
  reader : IsSome g.N.OnDisk.disk → Among l.reader l.pass.past.blocks;
  served : Served (IsSome g.N.OnDisk.disk) l.port l.shared.collectors l.initial.lines.beyond l.initial.pass l.initial.out (g.R.Read.remaining l.initial.lines.reader) (g.R.Read.remaining l.lines.reader) l.lines.beyond l.pass l.out;
}
