-- Each step of a history goes on from it.
use Rattle.std.proofs.Common.{◌≡◌, ℕ, ◌<◌, ◌≤◌, ◌⊎◌, List, [], ◌∷◌, length, refl, sym, subst, arith, zero, suc, Some, inl, inr, append-nil}
use Rattle.std.specs.List.{AllZip, slice_get}
use Rattle.std.proofs.lemmas.Bool.{cases_lt}
use Rattle.route_meaning.specs.History.{Intake, History, GoesOn, floor, Begins}
use Rattle.route_meaning.proofs.api.Beginning.{GoesOn-refl, each-refl}
use Rattle.interleaving_core.specs.Steps.{changed, with_mark, marked, moved, IsMarkAbove, Applies}

each_marked : (c mark : ℕ) (is : List Intake) → ((i : Intake) → slice_get is c ≡ Some i → i.mark ≤ mark) → AllZip (λ i j. GoesOn (floor i) i j) is (changed c (with_mark mark) is)
each_marked c mark [] back = tt
each_marked zero mark (i ∷ is) back = (record { more = []; begins = sym (append-nil i.admitted); after = tt; mark = back i refl; offered = omega arith }, each-refl is)
each_marked (suc c) mark (i ∷ is) back = (GoesOn-refl i, each_marked c mark is (λ j e. back j e))

pub begins_marked : (h : History) (c mark : ℕ) → (IsMarkAbove h c mark → ⊥) → Begins h (marked h c mark)
begins_marked h c mark back =
    let low : (i : Intake) → slice_get h.intakes c ≡ Some i → i.mark ≤ mark = λ i here. elim (cases_lt mark i.mark) [ inl lt ↦ absurd (back (record { intake = i; here = here; above = lt })) | inr ge ↦ ge ] in
    record { each = each_marked c mark h.intakes low; place = inr (refl, omega arith) }

pub begins_moved : (h : History) (whole some : ℕ) → (h.whole < whole) ⊎ ((h.whole ≡ whole) × (h.some ≤ some)) → Begins h (moved h whole some)
begins_moved h whole some place = record { each = each-refl h.intakes; place = place }

pub begins_applied : (h g : History) → Applies h g → Begins h g
begins_applied h g a = elim (cases_lt (suc h.some) (length a.next.item.changes)) [
  | inl lt ↦ subst (Begins h) (sym (a.part lt)) (begins_moved h h.whole (suc h.some) (inr (refl, omega arith)))
  | inr ge ↦ subst (Begins h) (sym (a.whole ge)) (begins_moved h (suc h.whole) 0 (inl (omega arith)))
]
