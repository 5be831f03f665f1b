-- How the open slots are counted, one by one.
use Rattle.std.proofs.Common.{◌≡◌, ◌<◌, ℕ, suc, ◌+◌, Option, Some, None, inl, inr, refl, ap, ◌∙◌, sym, add-one, arith}
use Rattle.std.specs.Prelude.{IfSome, IfNone, is_some, unwrap_or, max}
use Rattle.std.specs.Int.{from_bool}
use Rattle.std.proofs.lemmas.Bool.{cases_lt, eq-eqb, ne_eqb}
use Rattle.page_journal.specs.Layout.{IsOpen, gate_place, transaction}
use Rattle.file_archive.specs.Slots.{open_count}

-- none of none is open
pub none_open : (f : ℕ → ℕ) → open_count f 0 ≡ 0
unfolding open_count
none_open f = refl

open_next : (f : ℕ → ℕ) (n : ℕ) → IsOpen f n → open_count f (suc n) ≡ open_count f n + 1
unfolding open_count
open_next f n is_open = rw (eq-eqb (f (gate_place n)) 165 is_open) refl

closed_next : (f : ℕ → ℕ) (n : ℕ) → ¬ IsOpen f n → open_count f (suc n) ≡ open_count f n
unfolding open_count
closed_next f n closed = rw (ne_eqb (f (gate_place n)) 165 closed) refl

one_open : (f : ℕ → ℕ) (n : ℕ) → IsOpen f n → open_count f (n + 1) ≡ open_count f n + 1
one_open f n is_open = rw (add-one n) (open_next f n is_open)

none_more : (f : ℕ → ℕ) (n : ℕ) → ¬ IsOpen f n → open_count f (n + 1) ≡ open_count f n
none_more f n closed = rw (add-one n) (closed_next f n closed)

abbrev IsNumber : (ℕ → ℕ) → ℕ → Option ℕ → Type 0
IsNumber f slot number = IfSome number (λ n. IsOpen f slot × (n ≡ transaction f slot))

-- a slot more is counted if it has a number
pub counted : (f h : ℕ → ℕ) (slot count : ℕ) (number : Option ℕ) → h ≡ f → IsNumber h slot number → IfNone number (¬ IsOpen h slot) → count ≡ open_count f slot → count + from_bool (is_some number) ≡ open_count f (slot + 1)
counted f h slot count None same some none is =
    let here : h (gate_place slot) ≡ f (gate_place slot) = ap (λ (g : ℕ → ℕ). g (gate_place slot)) same in
    let more = none_more f slot (λ is_open. none (here ∙ is_open)) in
    omega (arith, more, is)
counted f h slot count (Some n) same some none is =
    let here : h (gate_place slot) ≡ f (gate_place slot) = ap (λ (g : ℕ → ℕ). g (gate_place slot)) same in
    let more = one_open f slot (sym here ∙ some.0) in
    omega (arith, more, is)

-- the highest number is one of an open slot's
abbrev IsOne : (ℕ → ℕ) → ℕ → Type 0
IsOne f most = 0 < most → (slot : ℕ) × (slot < 8) × IsOpen f slot × (most ≡ transaction f slot)

-- and so it is with a slot more
pub newest_one : (f h : ℕ → ℕ) (slot most : ℕ) (number : Option ℕ) → h ≡ f → slot < 8 → IsNumber h slot number → IsOne f most → IsOne f (max most (unwrap_or number 0))
newest_one f h slot most None same less some one = let e : max most 0 ≡ most = omega arith in rw e one
newest_one f h slot most (Some n) same less some one = elim (cases_lt most n) [
  | inl low ↦
      let e : max most n ≡ n = omega (arith, low) in
      let here : h (gate_place slot) ≡ f (gate_place slot) = ap (λ (g : ℕ → ℕ). g (gate_place slot)) same in
      let number : transaction h slot ≡ transaction f slot = ap (λ (g : ℕ → ℕ). transaction g slot) same in
      rw e (λ _. (slot, less, sym here ∙ some.0, some.1 ∙ number))
  | inr high ↦ let e : max most n ≡ most = omega (arith, high) in rw e one
]
