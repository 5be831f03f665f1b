-- A history begins itself, and what goes on from it begins what goes on from that.
use Rattle.std.proofs.Common.{◌≡◌, ℕ, ◌+◌, ◌<◌, ◌≤◌, ◌⊎◌, List, [], ◌∷◌, ◌++◌, refl, sym, ap, ◌∙◌, inl, inr, arith, append-nil, append_assoc}
use Rattle.std.specs.List.{AllByRecursion, AllZip}
use Rattle.route_model.specs.Admission.{Admitted}
use Rattle.route_meaning.specs.Holds.{admitted_time, time_of}
use Rattle.route_meaning.specs.History.{Intake, History, GoesOn, floor, Begins}
use Rattle.route_meaning.proofs.api.Sorting.{all_weaker, all_append}

pub GoesOn-refl : (i : Intake) → GoesOn (floor i) i i
GoesOn-refl i = record { more = []; begins = sym (append-nil i.admitted); after = tt; mark = omega arith; offered = omega arith }

pub GoesOn-trans : (i j k : Intake) → GoesOn (floor i) i j → GoesOn (floor j) j k → GoesOn (floor i) i k
GoesOn-trans i j k a b = record {
  more = a.more ++ b.more;
  begins = b.begins ∙ (ap (λ l. l ++ b.more) a.begins ∙ append_assoc i.admitted a.more b.more);
  after = all_append _ a.more b.more a.after (all_weaker _ _ (λ t h. let m : i.mark ≤ j.mark = a.mark in let h' : j.mark ≤ t.time = h in omega arith) b.more b.after);
  mark = omega (arith, a.mark, b.mark);
  offered = omega (arith, a.offered, b.offered);
}

pub each-refl : (is : List Intake) → AllZip (λ i j. GoesOn (floor i) i j) is is
each-refl [] = tt
each-refl (i ∷ is) = (GoesOn-refl i, each-refl is)

each-trans : (is js ks : List Intake) → AllZip (λ i j. GoesOn (floor i) i j) is js → AllZip (λ i j. GoesOn (floor i) i j) js ks → AllZip (λ i j. GoesOn (floor i) i j) is ks
each-trans [] [] [] a b = tt
each-trans [] [] (k ∷ ks) a b = b
each-trans [] (j ∷ js) ks a b = absurd a
each-trans (i ∷ is) [] ks a b = absurd a
each-trans (i ∷ is) (j ∷ js) [] a b = absurd b
each-trans (i ∷ is) (j ∷ js) (k ∷ ks) a b = (GoesOn-trans i j k a.0 b.0, each-trans is js ks a.1 b.1)

pub Begins-refl : (h : History) → Begins h h
Begins-refl h = record { each = each-refl h.intakes; place = inr (refl, omega arith) }

pub Begins-trans : (h g f : History) → Begins h g → Begins g f → Begins h f
Begins-trans h g f a b = record {
  each = each-trans h.intakes g.intakes f.intakes a.each b.each;
  place = elim a.place [
    | inl l ↦ elim b.place [ inl m ↦ inl (omega arith) | inr e ↦ inl (omega arith) ]
    | inr d ↦ elim b.place [ inl m ↦ inl (omega arith) | inr e ↦ inr (d.0 ∙ e.0, omega arith) ]
  ];
}
