-- Texts of seconds, whole or with a fraction: each has one value, and what is written is read again.
use Rattle.std.proofs.Common.{◌≡◌, ℕ, ◌+◌, ◌-◌, ◌*◌, ◌/◌, ◌%◌, ◌^◌, ◌<◌, ◌≤◌, ◌==◌, zero, suc, Bool, true, false, if◌then◌else◌, List, [], ◌∷◌, ◌++◌, length, inl, inr, decimal, arith, refl, sym, ap, subst, ◌∙◌}
use Rattle.std.specs.Char.{digit_value}
use Rattle.std.specs.Str.Parse.{AllDigits, digits_value}
use Rattle.std.proofs.lemmas.Bool.{eqb-true}
use Rattle.std.proofs.lemmas.List.{append-nil}
use Rattle.std.proofs.lemmas.Fmt.{decimal_digit, decimal_injective, decimal_is_IsNumeral}
use Rattle.std.proofs.lemmas.Str.{digit_value_digit}
use Rattle.route_text.specs.MomentText.{IsFraction, IsWhole, IsWithFraction, IsSeconds, six_digits, fraction_text, moment_text}
use Rattle.route_text.specs.Octets.{Lacks}
use Rattle.route_text.proofs.Cuts.{Lacks-at, Lacks-same, first_cut}
use Rattle.route_text.proofs.Numbers.{Lacks-decimal}
use Rattle.route_text.proofs.Timestamps.{Left, Left-digits, Left-fraction}

-- a second within 64 bits of microseconds is a number of 64 bits
second_fits : (last moment second more : ℕ) → last < 2 ^ 64 → moment ≤ last → moment ≡ second * 1000000 + more → second < 2 ^ 64
second_fits last moment second more fits within value = omega (arith, fits, within, value)

whole_fits : (last : ℕ) → last < 2 ^ 64 → (text : List ℕ) (a : ℕ) → a ≤ last → (h : IsWhole text a) → h.second < 2 ^ 64
whole_fits last fits text a within h = second_fits last a h.second 0 fits within (let value = h.value in omega (arith, value))

fraction_fits : (last : ℕ) → last < 2 ^ 64 → (text : List ℕ) (a : ℕ) → a ≤ last → (h : IsWithFraction text a) → h.second < 2 ^ 64
fraction_fits last fits text a within h = second_fits last a h.second h.micros fits within h.value

no_point : (n : ℕ) → n < 2 ^ 64 → Lacks 46 (decimal n)
no_point n fits = Lacks-decimal 46 n fits (λ d. omega (arith, d.0))

-- a number has no point
whole_or_fraction : (second other : ℕ) (text digits : List ℕ) → second < 2 ^ 64 → text ≡ decimal second → text ≡ decimal other ++ 46 ∷ digits → ⊥
whole_or_fraction second other text digits fits e f = Lacks-at 46 (decimal other) digits (Lacks-same 46 (decimal second) (decimal other ++ 46 ∷ digits) (sym e ∙ f) (no_point second fits))

same_fractions : (text : List ℕ) (a b : ℕ) → (h : IsWithFraction text a) (k : IsWithFraction text b) → h.second < 2 ^ 64 → k.second < 2 ^ 64 → a ≡ b
same_fractions text a b h k small also =
    let cut = first_cut 46 (decimal h.second) h.digits (decimal k.second) k.digits (sym h.encoded ∙ k.encoded) (no_point h.second small) (no_point k.second also) in
    let second : h.second ≡ k.second = decimal_injective h.second k.second small also cut.0 in
    let micros : h.micros ≡ k.micros = h.fraction.value ∙ ap (λ (ds : List ℕ). digits_value 10 ds * 10 ^ (6 - length ds)) cut.1 ∙ sym k.fraction.value in
    h.value ∙ (λ i. second i * 1000000 + micros i) ∙ sym k.value

pub one_seconds : (last : ℕ) → last < 2 ^ 64 → (text : List ℕ) (a b : ℕ) → a ≤ last → b ≤ last → IsSeconds text a → IsSeconds text b → a ≡ b
one_seconds last fits text a b small also (inl h) (inl k) =
    let second : h.second ≡ k.second = decimal_injective h.second k.second (whole_fits last fits text a small h) (whole_fits last fits text b also k) (sym h.encoded ∙ k.encoded) in
    h.value ∙ ap (λ (n : ℕ). n * 1000000) second ∙ sym k.value
one_seconds last fits text a b small also (inl h) (inr k) = absurd (whole_or_fraction h.second k.second text k.digits (whole_fits last fits text a small h) h.encoded k.encoded)
one_seconds last fits text a b small also (inr h) (inl k) = absurd (whole_or_fraction k.second h.second text h.digits (whole_fits last fits text b also k) k.encoded h.encoded)
one_seconds last fits text a b small also (inr h) (inr k) = same_fractions text a b h k (fraction_fits last fits text a small h) (fraction_fits last fits text b also k)

pub seconds_left : (last : ℕ) → last < 2 ^ 64 → (text : List ℕ) (a : ℕ) → a ≤ last → IsSeconds text a → Left text
seconds_left last fits text a within (inl h) = subst Left (sym h.encoded) (Left-digits (decimal h.second) (decimal_is_IsNumeral h.second (whole_fits last fits text a within h)).0.1)
seconds_left last fits text a within (inr h) =
    subst Left (sym h.encoded) (Left-fraction (decimal h.second) h.digits (decimal_is_IsNumeral h.second (fraction_fits last fits text a within h)).0.1 h.fraction.are)

-- ---- what is read

-- the digits as if zeros followed are less than a second
pub unit_fits : (n value unit : ℕ) → 1 ≤ n → n ≤ 6 → unit ≡ 10 ^ (6 - n) → value < 10 ^ n → value * unit < 1000000
unit_fits zero v u some few is small = absurd (omega (arith, some))
unit_fits (suc zero) v u some few is small = rw is (omega (arith, small))
unit_fits (suc (suc zero)) v u some few is small = rw is (omega (arith, small))
unit_fits (suc (suc (suc zero))) v u some few is small = rw is (omega (arith, small))
unit_fits (suc (suc (suc (suc zero)))) v u some few is small = rw is (omega (arith, small))
unit_fits (suc (suc (suc (suc (suc zero))))) v u some few is small = rw is (omega (arith, small))
unit_fits (suc (suc (suc (suc (suc (suc zero)))))) v u some few is small = rw is (omega (arith, small))
unit_fits (suc (suc (suc (suc (suc (suc (suc n))))))) v u some few is small = absurd (omega (arith, few))

pub whole_none : (last : ℕ) (text : List ℕ) → Lacks 46 text → ((n : ℕ) → n ≤ last / 1000000 → text ≡ decimal n → ⊥) → (moment : ℕ) → moment ≤ last → IsSeconds text moment → ⊥
whole_none last text lacks none moment within (inl h) = none h.second (let value = h.value in omega (arith, within, value)) h.encoded
whole_none last text lacks none moment within (inr h) = Lacks-at 46 (decimal h.second) h.digits (Lacks-same 46 text (decimal h.second ++ 46 ∷ h.digits) h.encoded lacks)

-- a text that is cut at its first point writes a second before it and a fraction after it
pub record HasParts (whole digits : List ℕ) (moment : ℕ) : Type 0 where
  pub second : ℕ
  pub micros : ℕ
  pub is_whole : whole ≡ decimal second
  pub small : second < 2 ^ 64
  pub fraction : IsFraction digits micros
  pub value : moment ≡ second * 1000000 + micros

pub parts_of : (last : ℕ) → last < 2 ^ 64 → (text whole digits : List ℕ) → text ≡ whole ++ 46 ∷ digits → Lacks 46 whole → (moment : ℕ) → moment ≤ last → IsSeconds text moment → HasParts whole digits moment
parts_of last fits text whole digits cut lacks moment within (inl h) =
    absurd (Lacks-at 46 whole digits (Lacks-same 46 (decimal h.second) (whole ++ 46 ∷ digits) (sym h.encoded ∙ cut) (no_point h.second (whole_fits last fits text moment within h))))
parts_of last fits text whole digits cut lacks moment within (inr h) =
    let small = fraction_fits last fits text moment within h in
    let parts = first_cut 46 whole digits (decimal h.second) h.digits (sym cut ∙ h.encoded) lacks (no_point h.second small) in
    record {
      second = h.second;
      micros = h.micros;
      is_whole = parts.0;
      small = small;
      fraction = subst (λ (ds : List ℕ). IsFraction ds h.micros) (sym parts.1) h.fraction;
      value = h.value;
    }

-- a second and a fraction that are read are those of each moment that the text writes
pub parts_above : (last moment second micros : ℕ) (whole digits : List ℕ) → second < 2 ^ 64 → whole ≡ decimal second → IsFraction digits micros → last < second * 1000000 + micros → moment ≤ last → HasParts whole digits moment → ⊥
parts_above last moment second micros whole digits small is_whole fraction above within h =
    let same : second ≡ h.second = decimal_injective second h.second small h.small (sym is_whole ∙ h.is_whole) in
    let fractions : micros ≡ h.micros = fraction.value ∙ sym h.fraction.value in
    let value = h.value in
    omega (arith, same, fractions, value, above, within)

-- ---- what is written

digit_code : (d : ℕ) → d < 10 → digit_value (48 + d) ≡ d
digit_code d small = let e = digit_value_digit (48 + d) (omega arith, omega arith) in omega (arith, e)

digit_small : (d : ℕ) → d < 10 → digit_value (48 + d) < 10
digit_small d small = let e = digit_code d small in omega (arith, e, small)

ones : (n : ℕ) → n % 10 < 10
ones n = omega arith

abbrev six_codes : ℕ → ℕ → ℕ → ℕ → ℕ → ℕ → List ℕ
six_codes a b c d e f = (48 + a) ∷ (48 + b) ∷ (48 + c) ∷ (48 + d) ∷ (48 + e) ∷ (48 + f) ∷ []

abbrev codes_of : ℕ → List ℕ
codes_of m = six_codes (m / 100000 % 10) (m / 10000 % 10) (m / 1000 % 10) (m / 100 % 10) (m / 10 % 10) (m / 1 % 10)

six_are : (m : ℕ) → six_digits m ≡ codes_of m
six_are m =
    rw (decimal_digit (m / 100000 % 10) (ones (m / 100000)), decimal_digit (m / 10000 % 10) (ones (m / 10000)), decimal_digit (m / 1000 % 10) (ones (m / 1000)), decimal_digit (m / 100 % 10) (ones (m / 100)), decimal_digit (m / 10 % 10) (ones (m / 10)), decimal_digit (m / 1 % 10) (ones (m / 1))) refl

codes_fraction : (a b c d e f m : ℕ) → a < 10 → b < 10 → c < 10 → d < 10 → e < 10 → f < 10 → m ≡ ((((a * 10 + b) * 10 + c) * 10 + d) * 10 + e) * 10 + f → IsFraction (six_codes a b c d e f) m
codes_fraction a b c d e f m la lb lc ld le lf is = record {
  are = (digit_small a la, (digit_small b lb, (digit_small c lc, (digit_small d ld, (digit_small e le, (digit_small f lf, tt))))));
  some = omega arith;
  few = omega arith;
  value = is ∙ worth;
}
  where
    worth : ((((a * 10 + b) * 10 + c) * 10 + d) * 10 + e) * 10 + f ≡ digits_value 10 (six_codes a b c d e f) * 10 ^ 0
    worth = rw (digit_code a la, digit_code b lb, digit_code c lc, digit_code d ld, digit_code e le, digit_code f lf) (omega arith)

pub six_fraction : (m : ℕ) → m < 1000000 → IsFraction (six_digits m) m
six_fraction m small =
    subst (λ (ds : List ℕ). IsFraction ds m) (sym (six_are m))
    (codes_fraction (m / 100000 % 10) (m / 10000 % 10) (m / 1000 % 10) (m / 100 % 10) (m / 10 % 10) (m / 1 % 10) m (ones (m / 100000)) (ones (m / 10000)) (ones (m / 1000)) (ones (m / 100)) (ones (m / 10)) (ones (m / 1)) (omega (arith, small)))

-- what is written of a number of microseconds writes them
pub moment_read : (n : ℕ) → IsSeconds (moment_text n) n
moment_read n = by_fraction (n % 1000000 == 0) refl
  where
    by_fraction : (b : Bool) → (n % 1000000 == 0) ≡ b → IsSeconds (moment_text n) n
    by_fraction true e = inl (record {
      second = n / 1000000;
      encoded = rw e (append-nil (decimal (n / 1000000)));
      value = omega (arith, eqb-true (n % 1000000) 0 e);
    })
    by_fraction false e = inr (record {
      second = n / 1000000;
      digits = six_digits (n % 1000000);
      micros = n % 1000000;
      encoded = rw e refl;
      fraction = six_fraction (n % 1000000) (omega arith);
      value = omega arith;
    })
