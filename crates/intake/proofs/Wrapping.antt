-- Octets that are stored wrapped: what is written after them, and what stays when the first are dropped.
use Rattle.std.proofs.Common.{◌≡◌, ◌⊎◌, ◌<◌, ◌≤◌, ◌↔◌, ℕ, ◌+◌, ◌-◌, ◌%◌, List, ◌++◌, length, get_or, cond, refl, sym, ◌∙◌, ap, inl, inr, arith, length-append}
use Rattle.std.proofs.Math.Nat.{mod-eq_of_lt, add-mod_left}
use Rattle.std.proofs.lemmas.Bool.{cases_lt, lt-ltb, le-ltb}
use Rattle.std.proofs.lemmas.List.{get_or_append_left, get_or-append_right, get_or-append-add}
use Rattle.intake.specs.Ring.{wrapped, Reads}

-- a place below the size stays, and another is as much beyond the size as it lies from the first place
pub wrapped_is : (size at : ℕ) → ((at < size) × (wrapped size at ≡ at)) ⊎ ((size ≤ at) × (wrapped size at + size ≡ at))
wrapped_is size at = elim (cases_lt at size) [
  | inl lt ↦ inl (lt, ap (λ b. cond b at (at - size)) (lt-ltb at size lt))
  | inr ge ↦ inr (ge, let e : wrapped size at ≡ at - size = ap (λ b. cond b at (at - size)) (le-ltb at size ge) in omega (arith, e))
]

-- where the next octet goes, when n stand from the first on
abbrev IsNext : ℕ → ℕ → ℕ → ℕ → Type 0
IsNext size first n at = at ≡ wrapped size (first + n)

-- a place that is read lies outside of what is written after the octets
outside : (size first n at m k : ℕ) → first < size → n + m ≤ size → at + m ≤ size → IsNext size first n at → k < n → ((wrapped size (first + k) < at) ⊎ (at + m ≤ wrapped size (first + k))) × (wrapped size (first + k) < size)
outside size first n at m k lt fits ends next below =
    elim (wrapped_is size (first + k)) [
      | inl w ↦ let w0 = w.0 in let w1 = w.1 in elim (wrapped_is size (first + n)) [
        | inl v ↦ let v1 = v.1 in (inl (omega arith), omega arith)
        | inr v ↦ let v1 = v.1 in (inr (omega arith), omega arith)
      ]
      | inr w ↦ let w0 = w.0 in let w1 = w.1 in elim (wrapped_is size (first + n)) [
        | inl v ↦ let v0 = v.0 in absurd (omega arith)
        | inr v ↦ let v1 = v.1 in (inl (omega arith), omega arith)
      ]
    ]

-- a place that is written
pub inside : (size first n at m k : ℕ) → first < size → n + m ≤ size → at + m ≤ size → IsNext size first n at → n ≤ k → k < n + m → wrapped size (first + k) ≡ at + (k - n)
inside size first n at m k lt fits ends next low high =
    elim (wrapped_is size (first + k)) [
      | inl w ↦ let w0 = w.0 in let w1 = w.1 in elim (wrapped_is size (first + n)) [
        | inl v ↦ let v1 = v.1 in omega arith
        | inr v ↦ let v0 = v.0 in let v1 = v.1 in absurd (omega arith)
      ]
      | inr w ↦ let w0 = w.0 in let w1 = w.1 in elim (wrapped_is size (first + n)) [
        | inl v ↦ let v0 = v.0 in let v1 = v.1 in absurd (omega arith)
        | inr v ↦ let v1 = v.1 in omega arith
      ]
    ]

-- A piece is written after the octets that are there, without wrapping, and all else of the ring stays.
pub reads_more : (f g : ℕ → ℕ) (size first at : ℕ) (octets piece : List ℕ) → first < size → length octets + length piece ≤ size → at + length piece ≤ size → at ≡ wrapped size (first + length octets)
    → ((i : ℕ) → i < at → g i ≡ f i) → ((i : ℕ) → at + length piece ≤ i → i < size → g i ≡ f i) → ((k : ℕ) → k < length piece → g (at + k) ≡ get_or piece k 0)
    → Reads f size first octets → Reads g size first (octets ++ piece)
reads_more f g size first at octets piece lt fits ends next low high new reads k below =
    elim (cases_lt k (length octets)) [
      | inl old ↦
          let o = outside size first (length octets) at (length piece) k lt fits ends next old in
          let same : g (wrapped size (first + k)) ≡ f (wrapped size (first + k)) = elim o.0 [
            | inl l ↦ low (wrapped size (first + k)) l
            | inr h ↦ high (wrapped size (first + k)) h o.1
          ] in
          same ∙ (reads k old ∙ sym (get_or_append_left octets piece 0 k old))
      | inr ge ↦
          let len = length-append octets piece in
          let i = inside size first (length octets) at (length piece) k lt fits ends next ge (omega arith) in
          ap g i ∙ (new (k - length octets) (omega arith) ∙ sym (get_or-append_right octets piece (length octets) k 0 refl ge))
    ]

-- a place is wrapped once, or on the way
pub wrapped_twice : (size first n k : ℕ) → first < size → n + k ≤ size → wrapped size (wrapped size (first + n) + k) ≡ wrapped size (first + (n + k))
wrapped_twice size first n k lt few =
    elim (wrapped_is size (first + n)) [
      | inl v ↦ let v1 = v.1 in ap (wrapped size) (omega arith)
      | inr v ↦ let v0 = v.0 in let v1 = v.1 in elim (wrapped_is size (wrapped size (first + n) + k)) [
        | inl w ↦ let w1 = w.1 in elim (wrapped_is size (first + (n + k))) [
          | inl u ↦ let u0 = u.0 in absurd (omega arith)
          | inr u ↦ let u1 = u.1 in omega arith
        ]
        | inr w ↦ let w0 = w.0 in let w1 = w.1 in absurd (omega arith)
      ]
    ]

-- Octets stand, and others after them: all of them stand.
pub reads_both : (f : ℕ → ℕ) (size first : ℕ) (front rest : List ℕ) → first < size → length front + length rest ≤ size → Reads f size first front → Reads f size (wrapped size (first + length front)) rest → Reads f size first (front ++ rest)
reads_both f size first front rest lt fits one other k below =
    elim (cases_lt k (length front)) [
      | inl low ↦ one k low ∙ sym (get_or_append_left front rest 0 k low)
      | inr ge ↦
          let len = length-append front rest in
          let place : wrapped size (first + k) ≡ wrapped size (wrapped size (first + length front) + (k - length front)) =
          ap (λ (n : ℕ). wrapped size (first + n)) (let e : k ≡ length front + (k - length front) = omega arith in e) ∙ sym (wrapped_twice size first (length front) (k - length front) lt (omega arith)) in
          ap f place ∙ (other (k - length front) (omega arith) ∙ sym (get_or-append_right front rest (length front) k 0 refl ge))
    ]

-- The first octets are dropped.
pub reads_later : (f : ℕ → ℕ) (size first : ℕ) (front rest : List ℕ) → first < size → length front + length rest ≤ size → Reads f size first (front ++ rest) → Reads f size (wrapped size (first + length front)) rest
reads_later f size first front rest lt fits reads k below =
    let here : f (wrapped size (first + (length front + k))) ≡ get_or rest k 0 = reads (length front + k) (omega (arith, length-append front rest)) ∙ get_or-append-add front rest k 0 in
    let same : wrapped size (wrapped size (first + length front) + k) ≡ wrapped size (first + (length front + k)) = wrapped_twice size first (length front) k lt (omega arith) in
    ap f same ∙ here

pub reads_same : (f g : ℕ → ℕ) (size first : ℕ) (octets : List ℕ) → first < size → length octets ≤ size → ((i : ℕ) → i < size → g i ≡ f i) → Reads f size first octets → Reads g size first octets
reads_same f g size first octets lt few same reads k below = same (wrapped size (first + k)) (low size first k lt (omega arith)) ∙ reads k below
  where
    low : (size first k : ℕ) → first < size → k < size → wrapped size (first + k) < size
    low size first k lt few = elim (wrapped_is size (first + k)) [ inl w ↦ let w0 = w.0 in let w1 = w.1 in omega arith | inr w ↦ let w1 = w.1 in omega arith ]

-- the place after n octets lies in the ring
pub wrapped_low : (size first n : ℕ) → first < size → n ≤ size → wrapped size (first + n) < size
wrapped_low size first n lt few = elim (wrapped_is size (first + n)) [ inl w ↦ let w0 = w.0 in let w1 = w.1 in omega arith | inr w ↦ let w1 = w.1 in omega arith ]

-- a place of less than twice the size is the remainder
pub wrapped_mod : (size at : ℕ) → at < size + size → wrapped size at ≡ at % size
wrapped_mod size at lt =
    elim (wrapped_is size at) [
      | inl w ↦ w.1 ∙ sym (mod-eq_of_lt w.0)
      | inr w ↦
          let w1 = w.1 in
          let low : wrapped size at < size = omega arith in
          let is : at ≡ size + wrapped size at = omega arith in
          sym (ap (λ (n : ℕ). n % size) is ∙ (add-mod_left size (wrapped size at) ∙ mod-eq_of_lt low))
    ]

-- octets are in the ring exactly where each is at the place given by the remainder
pub reads_mod : (f : ℕ → ℕ) (size first : ℕ) (octets : List ℕ) → first < size → length octets ≤ size → Reads f size first octets ↔ ((k : ℕ) → k < length octets → f ((first + k) % size) ≡ get_or octets k 0)
reads_mod f size first octets lt few = (
  λ reads k below. ap f (sym (wrapped_mod size (first + k) (omega arith))) ∙ reads k below,
  λ reads k below. ap f (wrapped_mod size (first + k) (omega arith)) ∙ reads k below,
)
