use Rattle.std.proofs.Common.{◌≡◌, ℕ, ◌↔◌, ◌⊎◌, ◌<◌, ◌≤◌, IsSome, List, [], ◌∷◌, length, refl, sym, subst, arith}
use Rattle.std.specs.BTreeMap.{get}
use Rattle.std.specs.Ordering.{nat_cmp}
use Rattle.std.specs.Vec.Iter.{into_iter_items}
use Rattle.version_model.specs.declared.entry.Entry.{Entry}
use Rattle.tree_questions.specs.inner.Gathered.{HasEntry}
use Rattle.tree_questions.proofs.TouchedEntries.{all_put, chain, moves}
use Rattle.tree_questions.proofs.touching.put_all.Goals as goal

no_entries : (l : List Entry) → length l ≡ 0 → l ≡ []
no_entries [] none = refl
no_entries (entry ∷ l) none = absurd (omega (arith, none))

pub loop-entry-init : goal.loop-entry-init
loop-entry-init c = λ key.
    subst (λ (l : List Entry). (IsSome (get nat_cmp c.args.keys.now key) ⊎ HasEntry c.args.from c.args.first c.args.end key l) ↔ (IsSome (get nat_cmp c.args.keys.now key) ⊎ HasEntry c.args.from c.args.first c.args.end key c.args.entries.items))
    (sym c.into_iter-entry-iterator.ensures.into_iter_gives.0) (λ h. h, λ h. h)

pub returns : goal.returns
returns c = λ key.
    let step = c.in-None.ensures.steps in
    let rest = into_iter_items c.loop-entry.entry-iterator in
    all_put c.args.from c.args.first c.args.end key rest (no_entries rest (omega (arith, c.loop-entry.entry-iterator.rest.ok, step.0))) (c.loop-entry.invariant key)

pub loop-entry-preserved : goal.loop-entry-preserved
loop-entry-preserved c = λ key.
    let now = subst (λ (l : List Entry). (IsSome (get nat_cmp c.loop-entry.keys key) ⊎ HasEntry c.args.from c.args.first c.args.end key l) ↔ (IsSome (get nat_cmp c.args.keys.now key) ⊎ HasEntry c.args.from c.args.first c.args.end key c.args.entries.items)) c.in-Some.ensures.steps.0 (c.loop-entry.invariant key) in
    chain (moves (c.in_ok-put_one.ensures key)) now
