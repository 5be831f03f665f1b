-- The first admissions of a ring are passed, one after another.
use Rattle.std.proofs.Common.{◌≡◌, ◌<◌, ◌≤◌, ℕ, ◌+◌, ◌-◌, ◌*◌, ◌/◌, List, [], ◌∷◌, ◌++◌, length, refl, sym, ◌∙◌, ap, subst, inl, inr, arith, length-append}
use Rattle.std.specs.List.{flat_map, AllByRecursion}
use Rattle.std.proofs.lemmas.Grind.{flat_map-append}
use Rattle.std.proofs.lemmas.List.{append-nil}
use Rattle.route_model.specs.Admission.{Admitted, IsAdmission}
use Rattle.intake.specs.declared.ring.Ring.{Ring}
use Rattle.intake.specs.Ring.{entry, octets_for, wrapped, size_of, ring_octet, Reads, HasOctets, RingRepresents}
use Rattle.intake.specs.Outlines.{page_of, IsFirst, BreaksOn}
use Rattle.intake.proofs.Entries.{valid_both}
use Rattle.intake.proofs.Wrapping.{wrapped_is, wrapped_twice, reads_both, reads_later}

-- The ring's octets begin with `count` admissions, and `rest` is the ring without them.
pub record Passed (pages : List (List ℕ)) (ring rest : Ring) (count : ℕ) : Type 0 where
  pub before : List Admitted
  pub counted : count ≡ length before
  pub valid : AllByRecursion IsAdmission before
  pub octets : HasOctets pages ring (flat_map entry before)
  pub inside : octets_for before ≤ ring.used
  pub low : rest.low ≡ ring.low
  pub size : rest.count ≡ ring.count
  pub first : rest.first ≡ wrapped (size_of ring) (ring.first + octets_for before)
  pub used : rest.used ≡ ring.used - octets_for before

pub passed_none : (pages : List (List ℕ)) (ring : Ring) → ring.first < size_of ring → Passed pages ring ring 0
passed_none pages ring start =
    record {
      before = [];
      counted = refl;
      valid = tt;
      octets = λ k lt. absurd (omega (arith, lt));
      inside = omega arith;
      low = refl;
      size = refl;
      first = elim (wrapped_is (size_of ring) (ring.first + 0)) [ inl w ↦ let w1 = w.1 in omega arith | inr w ↦ let w0 = w.0 in absurd (omega arith) ];
      used = omega arith;
    }

-- entries, and one more
entries_and : (before : List Admitted) (a : Admitted) → flat_map entry (before ++ a ∷ []) ≡ flat_map entry before ++ entry a
entries_and before a = flat_map-append entry before (a ∷ []) ∙ ap (λ l. flat_map entry before ++ l) (append-nil (entry a))

octets_and : (before : List Admitted) (a : Admitted) → octets_for (before ++ a ∷ []) ≡ octets_for before + length (entry a)
octets_and before a = ap length (entries_and before a) ∙ length-append (flat_map entry before) (entry a)

-- the first of the others is passed too
pub passed_more : (pages : List (List ℕ)) (ring rest : Ring) (count : ℕ) (a : Admitted) → ring.first < size_of ring → ring.used ≤ size_of ring → Passed pages ring rest count → IsFirst pages rest a
    → Passed pages ring (record rest { first = wrapped (size_of rest) (rest.first + length (entry a)); used = rest.used - length (entry a) }) (count + 1)
passed_more pages ring rest count a start few p one =
    let inside = p.inside in
    let used = p.used in
    let fits = one.fits in
    let counted = p.counted in
    let both = octets_and p.before a in
    let size : size_of rest ≡ size_of ring = ap (λ n. 16384 * n) p.size in
    let here = subst (λ low. Reads (ring_octet pages low) (size_of rest) rest.first (entry a)) p.low one.octets in
    let there = subst (λ n. Reads (ring_octet pages ring.low) n rest.first (entry a)) size here in
    let next = subst (λ at. Reads (ring_octet pages ring.low) (size_of ring) at (entry a)) p.first there in
    record {
      before = p.before ++ a ∷ [];
      counted = omega (arith, length-append p.before (a ∷ []));
      valid = valid_both p.before (a ∷ []) p.valid (one.valid, tt);
      octets = subst (HasOctets pages ring) (sym (entries_and p.before a)) (reads_both (ring_octet pages ring.low) (size_of ring) ring.first (flat_map entry p.before) (entry a) start (omega arith) p.octets next);
      inside = omega arith;
      low = p.low;
      size = p.size;
      first = ap (λ s. wrapped s (rest.first + length (entry a))) size ∙ (ap (λ f. wrapped (size_of ring) (f + length (entry a))) p.first ∙ (wrapped_twice (size_of ring) ring.first (octets_for p.before) (length (entry a)) start (omega arith) ∙ ap (λ n. wrapped (size_of ring) (ring.first + n)) (sym both)));
      used = omega arith;
    }

-- all are passed
pub passed_all : (pages : List (List ℕ)) (ring rest : Ring) (count : ℕ) → Passed pages ring rest count → rest.used ≡ 0 → (waits : List Admitted) × RingRepresents pages ring waits × (count ≡ length waits)
passed_all pages ring rest count p none =
    let inside = p.inside in
    let used = p.used in
    (p.before, record { valid = p.valid; size = omega (arith, none); octets = p.octets }, p.counted)

-- no further one stands first, though octets are left
pub passed_breaks : (pages : List (List ℕ)) (ring rest : Ring) (count page : ℕ) → ring.first < size_of ring → ring.used ≤ size_of ring → Passed pages ring rest count → 0 < rest.used
    → ((a : Admitted) → IsFirst pages rest a → ⊥) → page ≡ rest.low + rest.first / 16384 → BreaksOn pages ring page
passed_breaks pages ring rest count page start few p some none at =
    let inside = p.inside in
    let used = p.used in
    let size : size_of ring ≡ size_of rest = ap (λ n. 16384 * n) (sym p.size) in
    record {
      before = p.before;
      valid = p.valid;
      octets = p.octets;
      inside = omega (arith, some);
      none = λ a valid fits stand.
          let both = octets_and p.before a in
          let later = reads_later (ring_octet pages ring.low) (size_of ring) ring.first (flat_map entry p.before) (entry a) start (omega (arith, fits)) (subst (HasOctets pages ring) (entries_and p.before a) stand) in
          let here = subst (λ at. Reads (ring_octet pages ring.low) (size_of ring) at (entry a)) (sym p.first) later in
          let there = subst (λ n. Reads (ring_octet pages ring.low) n rest.first (entry a)) size here in
          none a (record { valid = valid; fits = omega (arith, fits); octets = subst (λ low. Reads (ring_octet pages low) (size_of rest) rest.first (entry a)) (sym p.low) there });
      place = at ∙ (ap (λ low. low + rest.first / 16384) p.low ∙ ap (λ first. ring.low + first / 16384) p.first);
    }
