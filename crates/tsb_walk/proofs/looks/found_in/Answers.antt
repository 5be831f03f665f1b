use Rattle.std.proofs.Common.{rules, ◌≡◌, List, ℕ, Option, Some, subst, ◌∙◌}
use Rattle.version_model.specs.Versions.{AsOf}
use Rattle.tsb_node.specs.Finding.{Finds, version_found}
use Rattle.tsb_walk.proofs.Leaves.{one_holds}
use Rattle.tsb_walk.proofs.looks.found_in.Goals as goal

pub returns-in_default-version-clause-found : goal.returns-in_default-version-clause-found
returns-in_default-version-clause-found c = λ leaf begins v holds.
    absurd (subst (Finds leaf.versions c.args.key c.args.stamp) c.in_default-version.is (c.in-Ok.ensures.found leaf begins) v holds)

pub returns-in_default-value-clause-found : goal.returns-in_default-value-clause-found
returns-in_default-value-clause-found c = λ leaf begins v holds.
    let found = subst (Finds leaf.versions c.args.key c.args.stamp) c.in-Some.is (c.in-Ok.ensures.found leaf begins) in
    one_holds leaf c.args.octets.now begins c.args.key c.args.stamp (version_found c.args.key c.in-Some.version) v found holds ∙ c.in_default-value.is

pub returns-clause-found : goal.returns-clause-found
returns-clause-found c = λ leaf begins.
    let found = subst (Finds leaf.versions c.args.key c.args.stamp) c.in-Some.is (c.in-Ok.ensures.found leaf begins) in
    let value : c.in-Some.version.value ≡ Some c.in_ok-to_vec.field-0.items = search rules in
    subst (λ (o : Option (List ℕ)). AsOf leaf.versions c.args.key c.args.stamp (record { key = c.args.key; stamp = c.in-Some.version.stamp; value = o })) value found
