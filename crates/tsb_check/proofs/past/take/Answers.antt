use Rattle.std.proofs.Common.{ℕ, List, ◌++◌, ◌∷◌, [], ◌<◌, ◌∙◌, ap, sym, subst, refl}
use Rattle.version_model.specs.declared.part.Place.{Place}
use Rattle.version_model.specs.declared.part.Part.{Part}
use Rattle.tsb_check.specs.declared.block.Reported.{Reported}
use Rattle.tsb_check.specs.Counted.{places_of}
use Rattle.tsb_check.specs.inner.Reported.{GoesLower, IsTaken, weight}
use Rattle.tsb_check.proofs.Weights.{falls, ends}
use Rattle.tsb_check.proofs.past.take.Goals as goal

pub returns-in-Versions-clause-falls : goal.returns-in-Versions-clause-falls
returns-in-Versions-clause-falls c = ends c.args.place.now c.args.left.now.items

pub returns-in_ok-append-in-Parts-clause-taken : goal.returns-in_ok-append-in-Parts-clause-taken
returns-in_ok-append-in-Parts-clause-taken c =
    let p = c.args.place.now in
    let parts = c.in_ok-more-in-Parts.ensures ∙ ap (λ (ps : List Part). places_of p.bounds ps) c.deref.ensures.value in
    let new = c.in_ok-append-in-Parts.ensures.items ∙ ap (λ (xs : List Place). c.args.left.now.items ++ xs) parts in
    subst (λ (t : Reported). IsTaken p t c.args.left.now.items c.append.new.self.items c.args.count c.args.count) (sym c.in-Parts.is) (new, refl)

pub returns-in_ok-append-in-Parts-clause-falls : goal.returns-in_ok-append-in-Parts-clause-falls
returns-in_ok-append-in-Parts-clause-falls c =
    let p = c.args.place.now in
    let lower = subst (GoesLower p) c.in-Parts.is c.requires.lower in
    let parts = c.in_ok-more-in-Parts.ensures ∙ ap (λ (ps : List Part). places_of p.bounds ps) c.deref.ensures.value in
    let new = c.in_ok-append-in-Parts.ensures.items ∙ ap (λ (xs : List Place). c.args.left.now.items ++ xs) parts in
    subst (λ (ps : List Place). weight ps < weight (c.args.left.now.items ++ p ∷ [])) (sym new) (falls p c.args.left.now.items p.bounds c.in-Parts.parts.items lower.0 lower.1)
