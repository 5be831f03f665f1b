use Rattle.std.proofs.Common.{◌≡◌}
use Rattle.std.specs.Prelude.{IsSome}
use Rattle.query_threads.specs.Seeing.{Since}
use Rattle.query_threads.specs.Turns.{StaysTrue}
use Rattle.query_threads.proofs.desk.Desk.turns.Given as goal

abbrev pub invariant-loop : goal.invariant-loop
invariant-loop g l = record {
  since : Since l.initial.pass l.pass;
  asks : g.A.Store.asks l.cursor ≡ g.A.Store.asks l.initial.cursor;
  gathered : IsSome g.N.OnDisk.disk → StaysTrue g.A.Store.gathered l.initial.cursor l.initial.pass.past.history → StaysTrue g.A.Store.gathered l.cursor l.pass.past.history;
}
