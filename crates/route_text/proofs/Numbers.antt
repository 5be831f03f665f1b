-- Decimal digits.
use Rattle.std.proofs.Common.{◌≡◌, ◌≢◌, ℕ, ◌<◌, ◌≤◌, ◌^◌, length, List, [], ◌∷◌, get_or, decimal, sym, ap, subst, ◌∙◌, ⊎_elim, arith, Result, Ok, Err, Option, IfSome, IfNone}
use Rattle.std.specs.Int.{IsInRange}
use Rattle.std.specs.Result.{result_ok}
use Rattle.std.specs.Str.Parse.{ParsesUnsigned, AllDigits, digits_value}
use Rattle.std.proofs.lemmas.Bool.{cases_lt}
use Rattle.std.proofs.lemmas.Str.Parse.{digit_at, IsNumeralModel, numerals_by_value, tells_digits, parse_plain, digits_value_short}
use Rattle.std.proofs.lemmas.Fmt.{decimal_is_IsNumeral, decimal_digit, first_decimal, decimal_nonempty, decimal-digits_value, parse-decimal}
use Rattle.route_text.specs.Octets.{Lacks}

own : IsNumeralModel (AllDigits 10) (digits_value 10)
own = numerals_by_value (AllDigits 10) tells_digits

-- digits hold nothing but digits
pub Lacks-decimal : (c n : ℕ) → n < 2 ^ 64 → (IsInRange 48 57 c → ⊥) → Lacks c (decimal n)
Lacks-decimal c n fits other =
    let digits = (decimal_is_IsNumeral n fits).0.1 in
    let P : ℕ → Type 0 = IsInRange 48 57 in
    record { nowhere = λ i h e. other (subst P e (digit_at (decimal n) i digits h)) }

-- no number but 0 begins with a zero
pub first_decimal-zero : (n : ℕ) (text : List ℕ) → n < 2 ^ 64 → text ≡ decimal n → get_or text 0 0 ≡ 48 → text ≡ 48 ∷ []
first_decimal-zero n text fits e zero =
    ⊎_elim (λ large. absurd (omega (arith, first_decimal n large fits, sym (ap (λ t. get_or t 0 0) e) ∙ zero))) (λ small. e ∙ ap decimal (omega arith) ∙ decimal_digit 0 (omega arith)) (cases_lt 0 n)

-- no number begins with a sign
pub first_decimal-plus : (n : ℕ) (text : List ℕ) → n < 2 ^ 64 → text ≡ decimal n → get_or text 0 0 ≢ 43
first_decimal-plus n text fits e plus =
    (Lacks-decimal 43 n fits (λ h. omega arith)).nowhere 0 (decimal_nonempty n fits) (sym (ap (λ t. get_or t 0 0) e) ∙ plus)

-- few digits have a small value
pub value_below : (digits : List ℕ) (k : ℕ) → AllDigits 10 digits → length digits ≤ k → digits_value 10 digits < 10 ^ k
value_below digits k are few = digits_value_short own digits k are few

module _ {E : Type 0} where
  -- what `parse` reads of a text without a sign or a leading zero is written as that text
  pub parse_found : (text : List ℕ) (r : Result ℕ E) (o : Option ℕ) → ParsesUnsigned 64 10 text r → o ≡ result_ok r → get_or text 0 0 ≢ 43 → get_or text 0 0 ≢ 48 → IfSome o (λ n. text ≡ decimal n)
  parse_found text (Ok n) o parsed is plus zero =
      let plain = parse_plain own {E = E} 64 text (Ok n) parsed plus in
      rw is (sym (ap decimal plain.1 ∙ decimal-digits_value own text plain.0.0 plain.0.1 (λ e. absurd (zero e)) plain.0.2))
  parse_found text (Err e) o parsed is plus zero = rw is tt

  -- and where it reads none, no number is
  pub parse_none : (text : List ℕ) (r : Result ℕ E) (o : Option ℕ) → ParsesUnsigned 64 10 text r → o ≡ result_ok r → IfNone o ((n : ℕ) → n < 2 ^ 64 → text ≢ decimal n)
  parse_none text (Ok n) o parsed is = rw is tt
  parse_none text (Err e) o parsed is = rw is (λ n fits same. let bad = parse-decimal {E = E} 64 n text (Err e) fits fits same parsed in cc)
