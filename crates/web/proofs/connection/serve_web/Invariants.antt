-- the blocks that the reader keeps are among those that the pass knows, and what the pass sees went on
use Rattle.std.specs.Prelude.{IsSome}
use Rattle.board.specs.Past.{Among}
use Rattle.query_threads.specs.Seeing.{Since}
use Rattle.web.proofs.connection.serve_web.Given as goal

abbrev pub invariant-loop : goal.invariant-loop
invariant-loop g l = record {
  next : (goal.iterator-loop g).can_next l.iterator';
  finite : (goal.iterator-loop g).is_finite l.iterator';
  reader : IsSome g.N.OnDisk.disk → Among l.reader l.pass.past.blocks;
  since : Since l.initial.pass l.pass;
}
