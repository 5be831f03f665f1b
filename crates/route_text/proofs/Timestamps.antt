-- Seconds are no timestamp: what would follow its date are digits and points, and a time begins with a letter or a space.
use Rattle.std.proofs.Common.{◌≡◌, ℕ, ◌+◌, ◌*◌, ◌<◌, ◌≤◌, ◌==◌, ◌&&◌, Bool, true, false, cond, List, [], ◌∷◌, ◌++◌, inl, inr, Option, Some, None, option_map, Result, Ok, Err, IfOk, IfSome, IsErr, arith, refl, subst}
use Rattle.std.specs.Prelude.{◌⊎◌}
use Rattle.std.specs.List.{AllByRecursion}
use Rattle.std.specs.Option.{option_and_then}
use Rattle.std.specs.Char.{is_ascii_digit}
use Rattle.std.specs.Str.Parse.{AllDigits}
use Rattle.std.specs.Char.{digit_value}
use Rattle.std.proofs.lemmas.Bool.{ne_eqb}
use Rattle.std.proofs.lemmas.Str.Parse.{digit_from_value}
use Rattle.jiff.specs.Words.{parse_timestamp}
use Rattle.jiff_core.specs.declared.error.Error.{Error}
use Rattle.jiff_core.specs.declared.error.Error.TheVariants.{Parse}
use Rattle.jiff_core.specs.declared.error.Syntax.TheVariants as Syntax
use Rattle.jiff_core.specs.declared.error.Syntax.{Syntax as Missing}
use Rattle.jiff_core.specs.declared.error.Bound.{Bound}
use Rattle.jiff_fmt.specs.Reader.{Read, Digits, ◌>>=◌, or_err, two_digits, four_digits, field}
use Rattle.jiff_fmt.specs.Temporal.{DateParts, year, date_separator, date_spec, after_date, temporal_datetime, full, to_timestamp}
use Rattle.jiff_fmt.specs.Rfc9557.{ZoneAnnotation}
use Rattle.jiff_fmt.specs.Rfc9557 as Rfc9557

-- ---- digits and points are left

abbrev InSeconds : ℕ → Type 0
InSeconds c = (digit_value c < 10) ⊎ (c ≡ 46)

abbrev pub Left : List ℕ → Type 0
Left rest = AllByRecursion InSeconds rest

pub Left-digits : (text : List ℕ) → AllDigits 10 text → Left text
Left-digits [] d = tt
Left-digits (c ∷ rest) d = (inl d.0, Left-digits rest d.1)

pub Left-fraction : (text digits : List ℕ) → AllDigits 10 text → AllDigits 10 digits → Left (text ++ 46 ∷ digits)
Left-fraction [] digits d e = (inr refl, Left-digits digits e)
Left-fraction (c ∷ rest) digits d e = (inl d.0, Left-fraction rest digits d.1 e)

abbrev Leaves : {A : Type 0} → Read A → Type 0
Leaves r = IfOk r (λ p. Left p.1)

abbrev LeavesIf : {A : Type 0} → Digits A → Type 0
LeavesIf o = IfSome o (λ p. Left p.1)

then : {A B : Type 0} (r : Read A) (f : A × List ℕ → Read B) → Leaves r → ((p : A × List ℕ) → Left p.1 → Leaves (f p)) → Leaves (r >>= f)
then (Ok p) f h k = k p h
then (Err e) f h k = tt

then_text : {B : Type 0} (r : Result (List ℕ) Error) (f : List ℕ → Read B) → IfOk r Left → ((t : List ℕ) → Left t → Leaves (f t)) → Leaves (r >>= f)
then_text (Ok t) f h k = k t h
then_text (Err e) f h k = tt

or_left : {A : Type 0} (e : Error) (o : Digits A) → LeavesIf o → Leaves (or_err e o)
or_left e None h = tt
or_left e (Some p) h = h

kept : {A : Type 0} (b : Bool) (e : Error) (p : A × List ℕ) → Left p.1 → Leaves (cond b (Err e) (Ok p))
kept true e p h = tt
kept false e p h = h

found : (b : Bool) (v : ℕ) (rest : List ℕ) → Left rest → LeavesIf (cond b (Some (v, rest)) None)
found true v rest h = h
found false v rest h = tt

more : (n : ℕ) (o : Digits ℕ) → LeavesIf o → LeavesIf (option_map (λ y. (n + y.0, y.1)) o)
more n None h = tt
more n (Some p) h = h

two : (text : List ℕ) → Left text → LeavesIf (two_digits text)
unfolding two_digits
two [] d = tt
two (a ∷ []) d = tt
two (a ∷ b ∷ rest) d = found (is_ascii_digit a && is_ascii_digit b) _ rest d.1.1

four_from : (o : Digits ℕ) → LeavesIf o → LeavesIf (option_and_then (λ century. option_map (λ year. (century.0 * 100 + year.0, year.1)) (two_digits century.1)) o)
four_from None h = tt
four_from (Some c) h = more (c.0 * 100) (two_digits c.1) (two c.1 h)

four : (text : List ℕ) → Left text → LeavesIf (four_digits text)
unfolding four_digits
four text d = four_from (two_digits text) (two text d)

other_byte : (c k : ℕ) → InSeconds c → ((46 ≤ k) × (k ≤ 57) → ⊥) → (c == k) ≡ false
other_byte c k in_seconds other = ne_eqb c k (λ e. other (subst (λ (n : ℕ). (46 ≤ n) × (n ≤ 57)) e (range c in_seconds)))
  where
    digit : (c : ℕ) → (48 ≤ c) × (c ≤ 57) → (46 ≤ c) × (c ≤ 57)
    digit c h = (omega (arith, h.0), h.1)

    range : (c : ℕ) → InSeconds c → (46 ≤ c) × (c ≤ 57)
    range c (inl h) = digit c (digit_from_value c h)
    range c (inr e) = (omega (arith, e), omega (arith, e))

year_left : (text : List ℕ) → Left text → Leaves (year text)
unfolding year
year_left [] d = then (or_err (Parse Syntax.Year) (four_digits [])) _ (or_left _ (four_digits []) (four [] d)) (λ p h. h)
year_left (c ∷ rest) d =
    rw (other_byte c 43 d.0 (λ r. omega arith), other_byte c 45 d.0 (λ r. omega (arith, r.0)))
    (then (or_err (Parse Syntax.Year) (four_digits (c ∷ rest))) _ (or_left _ (four_digits (c ∷ rest)) (four (c ∷ rest) d)) (λ p h. h))

separated : (extended : Bool) (text : List ℕ) → Left text → IfOk (date_separator extended text) Left
separated true [] d = tt
separated false [] d = tt
separated extended (c ∷ rest) d = rw (other_byte c 45 d.0 (λ r. omega (arith, r.0))) (go extended)
  where
    go : (b : Bool) → IfOk (cond b (Err (Parse Syntax.Separator)) (Ok (c ∷ rest))) Left
    go true = tt
    go false = d

field_left : (missing : Missing) (low high : ℕ) (bound : Bound) (text : List ℕ) → Left text → Leaves (field missing low high bound text)
unfolding field
field_left missing low high bound text d = then (or_err (Parse missing) (two_digits text)) _ (or_left _ (two_digits text) (two text d)) (λ p h. kept _ _ p h)

date_left : (text : List ℕ) → Left text → Leaves (date_spec text)
unfolding date_spec
date_left text d =
    then (year text) _ (year_left text d) (λ y left.
    then_text (date_separator _ y.1) _ (separated _ y.1 left) (λ a left-2.
    then _ _ (field_left _ _ _ _ a left-2) (λ m left-3.
    then_text (date_separator _ m.1) _ (separated _ m.1 left-3) (λ b left-4.
    then _ _ (field_left _ _ _ _ b left-4) (λ n left-5. kept _ _ _ left-5)))))

-- ---- no time follows

no_instant : (date : DateParts) (r : Read (Option ZoneAnnotation))
    → IsErr (full (r >>= (λ zone. Ok (record { date = date; time = None; offset = None; zone = zone.0 }, zone.1))) >>= to_timestamp)
no_instant date (Err e) = refl
no_instant date (Ok (annotated, [])) = refl
no_instant date (Ok (annotated, c ∷ rest)) = refl

date_alone : (p : DateParts × List ℕ) → Left p.1 → IsErr (full (after_date p) >>= to_timestamp)
date_alone (date, []) d = no_instant date (Rfc9557.parse [])
date_alone (date, c ∷ rest) d =
    rw (other_byte c 32 d.0 (λ r. omega arith), other_byte c 84 d.0 (λ r. omega arith), other_byte c 116 d.0 (λ r. omega arith))
    (no_instant date (Rfc9557.parse (c ∷ rest)))

pub seconds-not_timestamp : (text : List ℕ) → Left text → IsErr (parse_timestamp text)
unfolding temporal_datetime
seconds-not_timestamp text d = go (date_spec text) (date_left text d)
  where
    go : (r : Read DateParts) → Leaves r → IsErr (full (r >>= after_date) >>= to_timestamp)
    go (Ok p) h = date_alone p h
    go (Err e) h = refl
