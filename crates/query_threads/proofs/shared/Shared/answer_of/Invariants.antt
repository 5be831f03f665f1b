use Rattle.std.proofs.Common.{◌≡◌}
use Rattle.std.specs.Prelude.{IsSome}
use Rattle.route_meaning.specs.History.{History, Begins}
use Rattle.board.specs.Past.{Among}
use Rattle.query_threads.specs.Seeing.{Since}
use Rattle.query_threads.proofs.shared.Shared.answer_of.Given as goal

abbrev pub invariant-loop : goal.invariant-loop
invariant-loop g l = record {
  next : (goal.iterator-loop g).can_next l.iterator';
  finite : (goal.iterator-loop g).is_finite l.iterator';
  since : Since l.initial.pass l.pass;
  reader : IsSome g.N.OnDisk.disk → Among l.reader l.pass.past.blocks;
  asks : g.A.Store.asks l.cursor ≡ l.fn.query;
  gathered : IsSome g.N.OnDisk.disk → (h : History) → Begins l.pass.past.history h → g.A.Store.gathered l.cursor h;
}
