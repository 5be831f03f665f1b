-- The ring of slots.
use Rattle.std.proofs.Common.{◌≡◌, ◌≢◌, ◌<◌, ◌≤◌, inl, inr, ⊎_elim, ℕ, zero, suc, ◌+◌, ◌-◌, ◌==◌, true, List, [], ◌∷◌, ◌++◌, length, refl, sym, ◌∙◌, ap, arith}
use Rattle.std.proofs.lemmas.Bool.{cases_eq, cases_lt, cond-true, eq-eqb, ne_eqb}
use Rattle.std.proofs.lemmas.Bool.Decides.{nat_tests}
use Rattle.page_journal.specs.Recovers.{IsListed}
use Rattle.page_journal.specs.Bookkeeping.{is_among, open_slots, ring_slot}

-- ---- a number among others

pub among_listed : (n : ℕ) (ns : List ℕ) → is_among n ns ≡ true → IsListed n ns
among_listed n [] is = absurd (cc)
among_listed n (m ∷ ns) is = elim (cases_eq m n) [
  | inl e ↦ inl (sym e)
  | inr ne ↦ let there = rw (ne_eqb m n ne) at is in inr (among_listed n ns there)
]

pub listed_among : (n : ℕ) (ns : List ℕ) → IsListed n ns → is_among n ns ≡ true
listed_among n [] listed = absurd listed
listed_among n (m ∷ ns) listed = elim (cases_eq m n) [
  | inl e ↦ cond-true (m == n) true (is_among n ns) (eq-eqb m n e)
  | inr ne ↦ rw (ne_eqb m n ne) (⊎_elim (λ (e : n ≡ m). absurd (ne (sym e))) (λ there. listed_among n ns there) listed)
]

-- ---- one slot

pub ring_low : (k : ℕ) → k < 8 → ring_slot k ≡ k
ring_low k low = grind (arith, nat_tests)

pub ring_high : (k : ℕ) → 8 ≤ k → ring_slot k ≡ k - 8
ring_high k high = grind (arith, nat_tests)

pub ring_below : (k : ℕ) → k < 16 → ring_slot k < 8
ring_below k lt = ⊎_elim (λ low. omega (arith, low, ring_low k low)) (λ high. omega (arith, lt, high, ring_high k high)) (cases_lt k 8)

-- two of eight that follow one another
ring_apart : (a b : ℕ) → a < b → b < a + 8 → b < 16 → ring_slot a ≢ ring_slot b
ring_apart a b lt near high is = ⊎_elim
    (λ low_a. ⊎_elim
    (λ low_b. absurd (omega (arith, lt, is, ring_low a low_a, ring_low b low_b)))
    (λ high_b. absurd (omega (arith, lt, near, is, high_b, ring_low a low_a, ring_high b high_b)))
    (cases_lt b 8))
    (λ high_a. absurd (omega (arith, lt, near, is, high_a, ring_high a high_a, ring_high b (omega (arith, lt, high_a)))))
    (cases_lt a 8)

-- the one that follows
pub ring_next : (first opened : ℕ) → first < 8 → opened < 8 → ring_slot (first + (opened + 1)) ≡ ring_slot (ring_slot (first + opened) + 1)
ring_next first opened low few = grind (arith, nat_tests)

-- and once the oldest is closed
pub ring_turn : (first opened : ℕ) → first < 8 → opened < 8 → ring_slot (ring_slot (first + 1) + opened) ≡ ring_slot (ring_slot (first + opened) + 1)
ring_turn first opened low few = grind (arith, nat_tests)

-- ---- several

pub length-open_slots : (k n : ℕ) → length (open_slots k n) ≡ n
length-open_slots k zero = refl
length-open_slots k (suc n) = omega (arith, length-open_slots (suc k) n)

slots_within : (k n t : ℕ) → IsListed t (open_slots k n) → (j : ℕ) × (k ≤ j) × (j < k + n) × (t ≡ ring_slot j)
slots_within k zero t listed = absurd listed
slots_within k (suc n) t listed = ⊎_elim
    (λ (e : t ≡ ring_slot k). (k, omega arith, omega arith, e))
    (λ there. let w = slots_within (suc k) n t there in (w.0, omega (arith, w.1), omega (arith, w.2), w.3)) listed

pub slots_below : (first opened t : ℕ) → first < 8 → opened ≤ 8 → IsListed t (open_slots first opened) → t < 8
slots_below first opened t low few listed =
    let w = slots_within first opened t listed in
    omega (arith, w.3, ring_below w.0 (omega (arith, low, few, w.2)))

-- the slot that follows them isn't one of them
pub next_unlisted : (first opened : ℕ) → first < 8 → opened < 8 → ¬ IsListed (ring_slot (first + opened)) (open_slots first opened)
next_unlisted first opened low few listed =
    let w = slots_within first opened (ring_slot (first + opened)) listed in
    ring_apart w.0 (first + opened) w.2 (omega (arith, few, w.1)) (omega (arith, low, few)) (sym w.3)

-- one more at the end
pub slots_push : (k n : ℕ) → open_slots k n ++ ring_slot (k + n) ∷ [] ≡ open_slots k (n + 1)
slots_push k zero = let e : k + 0 ≡ k = omega arith in ap (λ t. ring_slot t ∷ []) e
slots_push k (suc n) =
    let e : k + suc n ≡ suc k + n = omega arith in
    let more : suc n + 1 ≡ suc (n + 1) = omega arith in
    ap (λ t. ring_slot k ∷ open_slots (suc k) n ++ ring_slot t ∷ []) e ∙ ap (λ (l : List ℕ). ring_slot k ∷ l) (slots_push (suc k) n) ∙ ap (open_slots k) (sym more)

-- the oldest of those that are left, and the others
pub slots_first : (first k n : ℕ) → k < n → open_slots (first + k) (n - k) ≡ ring_slot (first + k) ∷ open_slots (first + (k + 1)) (n - (k + 1))
slots_first first k n lt =
    let e : n - k ≡ suc (n - (k + 1)) = omega (arith, lt) in
    let next : suc (first + k) ≡ first + (k + 1) = omega arith in
    ap (open_slots (first + k)) e ∙ ap (λ j. ring_slot (first + k) ∷ open_slots j (n - (k + 1))) next

pub slots_none : (at k n : ℕ) → n ≤ k → open_slots at (n - k) ≡ []
slots_none at k n le = let e : n - k ≡ 0 = omega (arith, le) in ap (open_slots at) e

-- once around
slots_again : (k n : ℕ) → k + n ≤ 8 → open_slots (k + 8) n ≡ open_slots k n
slots_again k zero le = refl
slots_again k (suc n) le =
    let here : ring_slot (k + 8) ≡ ring_slot k = omega (arith, le, ring_high (k + 8) (omega arith), ring_low k (omega (arith, le))) in
    let next : suc (k + 8) ≡ suc k + 8 = omega arith in
    ap (λ t. t ∷ open_slots (suc (k + 8)) n) here ∙ ap (λ j. ring_slot k ∷ open_slots j n) next ∙ ap (λ (l : List ℕ). ring_slot k ∷ l) (slots_again (suc k) n (omega (arith, le)))

-- those that follow the oldest, from there on
pub slots_rest : (first n : ℕ) → first < 8 → n < 8 → open_slots (first + 1) n ≡ open_slots (ring_slot (first + 1)) n
slots_rest first n low few = ⊎_elim
    (λ lt. ap (λ k. open_slots k n) (sym (ring_low (first + 1) lt)))
    (λ (high : 8 ≤ first + 1).
    let e : first + 1 ≡ 0 + 8 = omega (arith, low, high) in
    let none : 0 ≡ ring_slot (first + 1) = omega (arith, low, high, ring_high (first + 1) high) in
    ap (λ k. open_slots k n) e ∙ slots_again 0 n (omega (arith, few)) ∙ ap (λ k. open_slots k n) none)
    (cases_lt (first + 1) 8)

-- the oldest is the first, and the others follow
pub slots_oldest : (first n : ℕ) → first < 8 → n < 8 → 0 < n → open_slots first n ≡ first ∷ open_slots (first + 1) (n - 1)
slots_oldest first n low few some =
    let e : n ≡ suc (n - 1) = omega (arith, some) in
    let next : suc first ≡ first + 1 = omega arith in
    ap (open_slots first) e ∙ ap (λ t. t ∷ open_slots (suc first) (n - 1)) (ring_low first low) ∙ ap (λ k. first ∷ open_slots k (n - 1)) next

-- the slot that follows them isn't the oldest
pub is_apart : (first opened slot : ℕ) → first < 8 → opened < 8 → 0 < opened → slot ≡ ring_slot (first + opened) → slot ≢ first
is_apart first opened slot low few some is e = ring_apart first (first + opened) (omega (arith, some)) (omega (arith, few)) (omega (arith, low, few)) (ring_low first low ∙ sym e ∙ is)

-- and one more at the end, as the oldest goes
pub slots_turn : (first n : ℕ) → first < 8 → n < 8 → 0 < n → open_slots (first + 1) (n - 1) ++ ring_slot (first + n) ∷ [] ≡ open_slots (ring_slot (first + 1)) n
slots_turn first n low few some =
    let e : first + n ≡ first + 1 + (n - 1) = omega (arith, some) in
    let m : n - 1 + 1 ≡ n = omega (arith, some) in
    ap (λ k. open_slots (first + 1) (n - 1) ++ ring_slot k ∷ []) e ∙ slots_push (first + 1) (n - 1) ∙ ap (open_slots (first + 1)) m ∙ slots_rest first n low few
