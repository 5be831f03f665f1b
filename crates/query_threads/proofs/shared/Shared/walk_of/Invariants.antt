use Rattle.std.proofs.Common.{◌≡◌}
use Rattle.std.specs.Prelude.{IsSome}
use Rattle.board.specs.Past.{Among}
use Rattle.query_threads.specs.Seeing.{Since}
use Rattle.query_threads.specs.Turns.{StaysTrue}
use Rattle.query_threads.proofs.shared.Shared.walk_of.Given as goal

abbrev pub invariant-loop : goal.invariant-loop
invariant-loop g l = record {
  next : (goal.iterator-loop g).can_next l.iterator';
  finite : (goal.iterator-loop g).is_finite l.iterator';
  since : Since l.initial.pass l.pass;
  reader : IsSome g.N.OnDisk.disk → Among l.reader l.pass.past.blocks;
  walks : g.A.Store.walks l.walk ≡ l.fn.question;
  walked : IsSome g.N.OnDisk.disk → StaysTrue g.A.Store.walked l.walk l.pass.past.history;
}
