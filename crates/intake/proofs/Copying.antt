-- Images of pages with used octets are copies.
use Rattle.std.proofs.Common.{◌≡◌, ◌<◌, ◌≤◌, ℕ, ◌+◌, ◌*◌, ◌/◌, ◌%◌, List, [], ◌∷◌, ◌++◌, length, get_or, set, sym, ◌∙◌, ap, inl, inr, arith, get_or-set_same, get_or-set_other}
use Rattle.std.proofs.lemmas.Bool.{cases_eq}
use Rattle.page_journal.specs.Layout.{Image}
use Rattle.page_journal.specs.Recovers.{laid}
use Rattle.page_tx.specs.inner.Laid.{length_laid}
use Rattle.intake.specs.declared.ring.Ring.{Ring}
use Rattle.intake.specs.Ring.{page_at, wrapped, size_of, HasOctets}
use Rattle.intake.specs.inner.Drafts.{Fills, KeepsUsed}
use Rattle.intake.proofs.Wrapping.{wrapped_is, wrapped_low}
use Rattle.intake.proofs.Images.{laid_push}

-- a page that is filled has no used octet
filled_apart : (count first used at octets k j : ℕ) → first < 16384 * count → at ≡ wrapped (16384 * count) (first + used) → used + octets ≤ 16384 * count → j < used → k < count → Fills (at % 16384) octets k → wrapped count (at / 16384 + k) ≡ wrapped (16384 * count) (first + j) / 16384 → ⊥
filled_apart count first used at octets k j start at_is room below few filled e =
    let low = filled.0 in
    let high = filled.1 in
    elim (wrapped_is (16384 * count) (first + used)) [
      | inl v ↦ let v0 = v.0 in let v1 = v.1 in elim (wrapped_is (16384 * count) (first + j)) [
        | inl w ↦ let w0 = w.0 in let w1 = w.1 in elim (wrapped_is count (at / 16384 + k)) [ inl x ↦ let x0 = x.0 in let x1 = x.1 in absurd (omega arith) | inr x ↦ let x0 = x.0 in let x1 = x.1 in absurd (omega arith) ]
        | inr w ↦ let w0 = w.0 in let w1 = w.1 in absurd (omega arith)
      ]
      | inr v ↦ let v0 = v.0 in let v1 = v.1 in elim (wrapped_is (16384 * count) (first + j)) [
        | inl w ↦ let w0 = w.0 in let w1 = w.1 in elim (wrapped_is count (at / 16384 + k)) [ inl x ↦ let x0 = x.0 in let x1 = x.1 in absurd (omega arith) | inr x ↦ let x0 = x.0 in let x1 = x.1 in absurd (omega arith) ]
        | inr w ↦ let w0 = w.0 in let w1 = w.1 in elim (wrapped_is count (at / 16384 + k)) [ inl x ↦ let x0 = x.0 in let x1 = x.1 in absurd (omega arith) | inr x ↦ let x0 = x.0 in let x1 = x.1 in absurd (omega arith) ]
      ]
    ]

pub keeps_more : (ring : Ring) (at octets k n : ℕ) (items new : List Image) (page : List ℕ) (shown : List (List ℕ)) → ring.first < size_of ring → ring.low + ring.count ≤ length shown → at ≡ wrapped (size_of ring) (ring.first + ring.used) → ring.used + octets ≤ size_of ring
    → k < ring.count → n ≡ ring.low + wrapped ring.count (at / 16384 + k) → new ≡ items ++ (n, page) ∷ [] → ((Fills (at % 16384) octets k → ⊥) → page ≡ page_at shown n) → KeepsUsed ring shown (laid items shown) → KeepsUsed ring shown (laid new shown)
keeps_more ring at octets k n items new page shown start inside at_is room few n_is new_is copy kept j below =
    let m = ring.low + wrapped (size_of ring) (ring.first + j) / 16384 in
    let long = length_laid items shown in
    let low = wrapped_low (size_of ring) ring.first j start (omega arith) in
    let there : m < length (laid items shown) = omega arith in
    ap (λ (l : List Image). page_at (laid l shown) m) new_is
    ∙ (ap (λ (l : List (List ℕ)). page_at l m) (laid_push items n page shown)
    ∙ elim (cases_eq n m) [
      | inl e ↦
          ap (λ x. page_at (set (laid items shown) x page) m) e
          ∙ (get_or-set_same (laid items shown) m page [] there
          ∙ (copy (λ filled. filled_apart ring.count ring.first ring.used at octets k j start at_is room below few filled (omega (arith, n_is, e))) ∙ ap (page_at shown) e))
      | inr ne ↦ get_or-set_other (laid items shown) n m page [] (λ e. ne (sym e)) ∙ kept j below
    ])

pub keeps_stands : (ring : Ring) (old new : List (List ℕ)) (stood : List ℕ) → length stood ≡ ring.used → KeepsUsed ring old new → HasOctets old ring stood → HasOctets new ring stood
keeps_stands ring old new stood used kept stand k lt = ap (λ (page : List ℕ). get_or page (wrapped (size_of ring) (ring.first + k) % 16384) 0) (kept k (omega (arith, lt, used))) ∙ stand k lt
