use Rattle.std.proofs.Common.{◌≡◌, Some}
use Rattle.std.specs.Prelude.{IsSome}
use Rattle.board.specs.Past.{Among}
use Rattle.query_threads.specs.Seeing.{Since}
use Rattle.query_threads.specs.Turns.{StaysTrue}
use Rattle.query_threads.proofs.desk.Desk.looks.Given as goal

abbrev pub invariant-loop : goal.invariant-loop
invariant-loop g l = record {
  since : Since l.initial.pass l.pass;
  walks : g.A.Store.walks l.walk ≡ g.A.Store.walks l.initial.walk;
  reads : g.A.Store.reads l.reader ≡ g.A.Store.reads l.initial.reader;
  kept : IsSome g.N.OnDisk.disk → g.N.OnDisk.disk ≡ Some (g.A.Store.reads l.initial.reader) → Among (g.A.Store.kept l.initial.reader) l.initial.pass.past.blocks → Among (g.A.Store.kept l.reader) l.pass.past.blocks;
  walked : IsSome g.N.OnDisk.disk → g.N.OnDisk.disk ≡ Some (g.A.Store.reads l.initial.reader) → Among (g.A.Store.kept l.initial.reader) l.initial.pass.past.blocks → StaysTrue g.A.Store.walked l.initial.walk l.initial.pass.past.history → StaysTrue g.A.Store.walked l.walk l.pass.past.history;
}
