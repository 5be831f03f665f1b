use Rattle.std.proofs.Common.{ℕ, ◌↔◌, ◌⊎◌, IsSome}
use Rattle.std.specs.BTreeMap.{get}
use Rattle.std.specs.Ordering.{nat_cmp}
use Rattle.std.specs.Vec.Iter.{into_iter_items}
use Rattle.tree_questions.specs.inner.Gathered.{HasEntry}
use Rattle.tree_questions.proofs.touching.put_all.Given as goal

abbrev pub invariant-loop-entry : goal.invariant-loop-entry
invariant-loop-entry l = (key : ℕ) → (IsSome (get nat_cmp l.keys key) ⊎ HasEntry l.from l.first l.end key (into_iter_items l.entry-iterator)) ↔ (IsSome (get nat_cmp l.initial.keys key) ⊎ HasEntry l.from l.first l.end key l.fn.entries.items)
