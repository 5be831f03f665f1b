-- Keys and stamps are compared as their numbers are.
use Rattle.std.proofs.Common.{◌≡◌, ℕ, ◌<◌, ◌≤◌, arith, Bool, true, false, sym, ◌∙◌, nat_cmp, is_le, is_lt, is_ge}
use Rattle.std.specs.Bool.{◌==◌}
use Rattle.std.proofs.lemmas.Bool.{eqb-true, eq-eqb}
use Rattle.std.proofs.lemmas.Bool.Decides.{nat_tests}

pub eq_yes : (r : Bool) (a b : ℕ) → r ≡ (a == b) → r ≡ true → a ≡ b
eq_yes r a b is h = eqb-true a b (sym is ∙ h)

pub eq_no : (r : Bool) (a b : ℕ) → r ≡ (a == b) → r ≡ false → a ≡ b → ⊥
eq_no r a b is h same = cc (eq-eqb a b same)

pub le_yes : (r : Bool) (a b : ℕ) → r ≡ is_le (nat_cmp a b) → r ≡ true → a ≤ b
le_yes r a b is h = grind (arith, nat_tests)

pub le_no : (r : Bool) (a b : ℕ) → r ≡ is_le (nat_cmp a b) → r ≡ false → b < a
le_no r a b is h = grind (arith, nat_tests)

pub lt_yes : (r : Bool) (a b : ℕ) → r ≡ is_lt (nat_cmp a b) → r ≡ true → a < b
lt_yes r a b is h = grind (arith, nat_tests)

pub lt_no : (r : Bool) (a b : ℕ) → r ≡ is_lt (nat_cmp a b) → r ≡ false → b ≤ a
lt_no r a b is h = grind (arith, nat_tests)

pub ge_yes : (r : Bool) (a b : ℕ) → r ≡ is_ge (nat_cmp a b) → r ≡ true → b ≤ a
ge_yes r a b is h = grind (arith, nat_tests)

pub ge_no : (r : Bool) (a b : ℕ) → r ≡ is_ge (nat_cmp a b) → r ≡ false → a < b
ge_no r a b is h = grind (arith, nat_tests)
