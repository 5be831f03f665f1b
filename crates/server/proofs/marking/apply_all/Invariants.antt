-- what the pass sees is as it was, or goes on from it
use Rattle.query_threads.specs.Seeing.{Since}
use Rattle.server.proofs.marking.apply_all.Given as goal

abbrev pub invariant-loop : goal.invariant-loop
invariant-loop g l = record {
  next : (goal.iterator-loop g).can_next l.iterator';
  finite : (goal.iterator-loop g).is_finite l.iterator';
  since : Since l.initial.pass l.pass;
}
