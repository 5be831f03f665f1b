-- Stamps whose times are multiplied keep their order.
use Rattle.std.proofs.Common.{◌≡◌, ℕ, suc, ◌+◌, ◌*◌, ◌/◌, ◌%◌, ◌^◌, ◌<◌, ◌≤◌, ◌↔◌, inl, inr, ap, ◌∙◌, arith}
use Rattle.std.proofs.Math.Nat.{mul-le-mul_right, mul_comm, div-add-mod, suc-mul}
use Rattle.std.proofs.lemmas.Bool.{cases_lt}
use Rattle.route_model.specs.Units.{moments_in, written}
use Rattle.route_model.proofs.api.Units.{written_one}
use Rattle.tsb_node.specs.Scaling.{scaled}

-- of a later time the product is greater by k at least
later : (k t u : ℕ) → t < u → t * k + k ≤ u * k
later k t u lt =
    let more : suc t * k ≤ u * k = mul-le-mul_right {m = suc t} {n = u} k (let le : suc t ≤ u = omega arith in le) in
    omega (arith, more, suc-mul t k)

pub scaled_rises : (k a b : ℕ) → 1 ≤ k → a < b → scaled k a < scaled k b
unfolding scaled
scaled_rises k a b some lt = elim (cases_lt (a / 2 ^ 64) (b / 2 ^ 64)) [
  | inl before ↦ omega (arith, later k (a / 2 ^ 64) (b / 2 ^ 64) before, some, lt)
  | inr from ↦ (let same : a / 2 ^ 64 ≡ b / 2 ^ 64 = omega (arith, from, lt) in
      let product : a / 2 ^ 64 * k ≡ b / 2 ^ 64 * k = ap (λ (t : ℕ). t * k) same in
      omega (arith, product, same, lt))
]

pub scaled_stays : (k a b : ℕ) → 1 ≤ k → a ≤ b → scaled k a ≤ scaled k b
scaled_stays k a b some le = elim (cases_lt a b) [
  | inl lt ↦ (let l = scaled_rises k a b some lt in omega (arith, l))
  | inr ge ↦ (let same : a ≡ b = omega (arith, le, ge) in let e : scaled k a ≡ scaled k b = ap (scaled k) same in omega (arith, e))
]

-- the order of stamps is that of the products
pub scaled_back : (k a b : ℕ) → 1 ≤ k → scaled k a < scaled k b → a < b
scaled_back k a b some lt = elim (cases_lt a b) [
  | inl below ↦ below
  | inr from ↦ absurd (let l = scaled_stays k b a some from in omega (arith, l, lt))
]

pub scaled_zero : (k : ℕ) → scaled k 0 ≡ 0
unfolding scaled
scaled_zero k = omega arith

pub scaled_one : (s : ℕ) → scaled 1 s ≡ s
unfolding scaled
scaled_one s = omega arith

pub scaled_now : (s : ℕ) → scaled (moments_in written) s ≡ s
scaled_now s = ap (λ (k : ℕ). scaled k s) written_one ∙ scaled_one s

-- the last stamp whose product isn't after another, where k divides its time
pub floor_whole : (k t o s : ℕ) → 1 ≤ k → o < 2 ^ 64 → t % k ≡ 0 → scaled k s ≤ t * 2 ^ 64 + o ↔ s ≤ t / k * 2 ^ 64 + o
unfolding scaled
floor_whole k t o s some fits even =
    let q : ℕ = t / k in
    let u : ℕ = s / 2 ^ 64 in
    let whole : k * (t / k) + t % k ≡ t = div-add-mod t k in
    let turned : k * (t / k) ≡ t / k * k = mul_comm k (t / k) in
    elim (cases_lt (s / 2 ^ 64) (t / k)) [
      | inl below ↦ (let l = later k (s / 2 ^ 64) (t / k) below in (λ h. omega (arith, below, h), λ h. omega (arith, l, some, whole, turned, even)))
      | inr from ↦ elim (cases_lt (t / k) (s / 2 ^ 64)) [
        | inl above ↦ (let l = later k (t / k) (s / 2 ^ 64) above in (λ h. absurd (omega (arith, l, some, whole, turned, even, h, fits)), λ h. absurd (omega (arith, above, h, fits))))
        | inr to ↦ (let same : s / 2 ^ 64 ≡ t / k = omega (arith, from, to) in
            let product : s / 2 ^ 64 * k ≡ t / k * k = ap (λ (x : ℕ). x * k) same in
            (λ h. omega (arith, same, product, whole, turned, even, h), λ h. omega (arith, same, product, whole, turned, even, h)))
      ]
    ]

-- and where it doesn't
pub floor_part : (k t o s : ℕ) → 1 ≤ k → o < 2 ^ 64 → (t % k ≡ 0 → ⊥) → scaled k s ≤ t * 2 ^ 64 + o ↔ s ≤ t / k * 2 ^ 64 + 18446744073709551615
unfolding scaled
floor_part k t o s some fits odd =
    let whole : k * (t / k) + t % k ≡ t = div-add-mod t k in
    let turned : k * (t / k) ≡ t / k * k = mul_comm k (t / k) in
    let rest : t % k < k = omega (arith, some) in
    let left : 0 < t % k = omega (arith, odd) in
    elim (cases_lt (t / k) (s / 2 ^ 64)) [
      | inl above ↦ (let l = later k (t / k) (s / 2 ^ 64) above in (λ h. absurd (omega (arith, l, whole, turned, rest, h, fits)), λ h. absurd (omega (arith, above, h))))
      | inr to ↦ (let l : s / 2 ^ 64 * k ≤ t / k * k = mul-le-mul_right {m = s / 2 ^ 64} {n = t / k} k to in (λ h. omega (arith, to), λ h. omega (arith, l, whole, turned, left)))
    ]

-- the last stamp whose product isn't after that of a stamp is the stamp
pub floor_exact : (k s fl : ℕ) → 1 ≤ k → ((r : ℕ) → scaled k r ≤ scaled k s ↔ r ≤ fl) → fl ≡ s
floor_exact k s fl some floor =
    let low : s ≤ fl = (floor s).0 (omega arith) in
    let high : scaled k fl ≤ scaled k s = (floor fl).1 (omega arith) in
    elim (cases_lt s fl) [
      | inl lt ↦ absurd (let l = scaled_rises k s fl some lt in omega (arith, l, high))
      | inr ge ↦ omega (arith, low, ge)
    ]
