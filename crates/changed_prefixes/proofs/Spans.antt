-- One admission more of a list.
use Rattle.std.proofs.Common.{◌≡◌, ℕ, ◌+◌, ◌<◌, List, [], ◌∷◌, ◌++◌, length, take, get_or, Bool, true, false, ◌&&◌, leb, refl, sym, ap, ◌∙◌, append_assoc, append-nil, inl, inr}
use Rattle.std.specs.BTreeMap.{BTreeMap}
use Rattle.std.specs.List.{filter}
use Rattle.std.proofs.lemmas.Bool.{cases_Bool, false≢true}
use Rattle.std.proofs.lemmas.List.{take_more}
use Rattle.std.proofs.lemmas.List.Elements.{filter-append}
use Rattle.route_model.specs.Admission.{Admitted}
use Rattle.route_meaning.specs.declared.question.ChangedQuestion.{ChangedQuestion}
use Rattle.route_meaning.specs.declared.question.Spot.{Spot}
use Rattle.route_meaning.specs.Events.{between}
use Rattle.route_meaning.specs.Holds.{changes_of, time_of, until}
use Rattle.route_meaning.specs.Merged.{Placed}
use Rattle.changed_prefixes.specs.inner.Gathered.{HasGathered}
use Rattle.changed_prefixes.proofs.Equal.{both}

changes_of-append : (ps qs : List (Placed Admitted)) → changes_of (ps ++ qs) ≡ changes_of ps ++ changes_of qs
changes_of-append [] qs = refl
changes_of-append (p ∷ ps) qs = ap (λ l. p.item.changes ++ l) (changes_of-append ps qs) ∙ sym (append_assoc p.item.changes (changes_of ps) (changes_of qs))

-- is it of a moment of the span?
abbrev in_span : ℕ → ℕ → Placed Admitted → Bool
in_span from to p = leb from (time_of p) && leb (time_of p) to

inside : (from to : ℕ) (p : Placed Admitted) → in_span from to p ≡ true → between from to (p ∷ []) ≡ p ∷ []
inside from to p e =
    let h = both (leb from (time_of p)) (leb (time_of p) to) e in
    let low : leb from (time_of p) ≡ true = h.0 in
    let high : leb (time_of p) to ≡ true = h.1 in
    rw high (rw low refl)

outside : (from to : ℕ) (p : Placed Admitted) → in_span from to p ≡ false → between from to (p ∷ []) ≡ []
outside from to p e = elim (cases_Bool (leb (time_of p) to)) [
  | inl early ↦ rw early (rw (before (leb from (time_of p)) (leb (time_of p) to) e early) refl)
  | inr late ↦ rw late refl
]
  where
    before : (a b : Bool) → (a && b) ≡ false → b ≡ true → a ≡ false
    before true b e' t = absurd (false≢true (sym e' ∙ t))
    before false b e' t = refl

module _ (q : ChangedQuestion) (ps : List (Placed Admitted)) (i : ℕ) (p : Placed Admitted) (lt : i < length ps) (is : p ≡ get_or ps i p) where
  more : changes_of (between q.from q.to (take (i + 1) ps)) ≡ changes_of (between q.from q.to (take i ps)) ++ changes_of (between q.from q.to (p ∷ []))
  more =
      ap (λ l. changes_of (between q.from q.to l)) (take_more ps i p lt ∙ ap (λ y. take i ps ++ y ∷ []) (sym is))
      ∙ (ap (λ l. changes_of (filter (λ r. leb q.from (time_of r)) l)) (filter-append (λ r. leb (time_of r) q.to) (take i ps) (p ∷ []))
      ∙ (ap changes_of (filter-append (λ r. leb q.from (time_of r)) (until q.to (take i ps)) (until q.to (p ∷ [])))
      ∙ changes_of-append (between q.from q.to (take i ps)) (between q.from q.to (p ∷ []))))

  pub counted : (n : BTreeMap ℕ Spot) → in_span q.from q.to p ≡ true → HasGathered q (changes_of (between q.from q.to (take i ps)) ++ p.item.changes) n → HasGathered q (changes_of (between q.from q.to (take (i + 1) ps))) n
  counted n counts g = rw (more, inside q.from q.to p counts, append-nil p.item.changes) g

  pub left : (n : BTreeMap ℕ Spot) → in_span q.from q.to p ≡ false → HasGathered q (changes_of (between q.from q.to (take i ps))) n → HasGathered q (changes_of (between q.from q.to (take (i + 1) ps))) n
  left n apart g = rw (more, outside q.from q.to p apart, append-nil (changes_of (between q.from q.to (take i ps)))) g
