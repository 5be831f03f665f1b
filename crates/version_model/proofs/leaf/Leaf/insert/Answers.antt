use Rattle.std.proofs.Common.{◌≡◌, ◌∙◌, ap, subst, sym, ◌++◌, ◌∷◌, []}
use Rattle.std.proofs.lemmas.List.{map-append}
use Rattle.version_model.specs.Versions.{IsRising, IsAbove}
use Rattle.version_model.specs.Entries.{version_of, versions_of}
use Rattle.version_model.proofs.api.Pushed.{IsRising-push}
use Rattle.version_model.proofs.leaf.Leaf.insert.Goals as goal

pub invariant_of-self-2 : goal.invariant_of-self-2
invariant_of-self-2 c =
    let vs = versions_of c.self.inside.entries.items in
    let pushed : versions_of c.push.new.self.items ≡ vs ++ version_of c.args.entry ∷ [] = ap versions_of c.in_ok-push.ensures.items ∙ map-append version_of c.self.inside.entries.items (c.args.entry ∷ []) in
    subst IsRising (sym pushed) (IsRising-push vs (version_of c.args.entry) c.self.invariant (subst (λ l. IsAbove l c.args.entry.stamp) (sym c.self.view_is) c.requires.later))
