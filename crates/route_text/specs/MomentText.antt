-- The texts of moments and marks: seconds since 1970-01-01T00:00:00Z, whole or with a fraction, and timestamps.
use Rattle.std.specs.Prelude.{◌≡◌, ℕ, ◌+◌, ◌-◌, ◌*◌, ◌/◌, ◌%◌, ◌^◌, ◌≤◌, ◌⊎◌, ◌==◌, if◌then◌else◌, List, [], ◌∷◌, ◌++◌, length, Ok, pos, decimal}
use Rattle.std.specs.List.{flat_map}
use Rattle.std.specs.Str.Parse.{AllDigits, digits_value}
use Rattle.route_model.specs.Moments.{micros_a_second, latest_moment, last_mark}
use Rattle.jiff.specs.Words.{parse_timestamp}
use Rattle.route_text.specs.Octets.{Lacks}

-- 1 to 6 digits after a point write a number of microseconds, as if zeros followed them
pub record IsFraction (digits : List ℕ) (micros : ℕ) : Type 0 where
  pub are : AllDigits 10 digits
  pub some : 1 ≤ length digits
  pub few : length digits ≤ 6
  pub value : micros ≡ digits_value 10 digits * 10 ^ (6 - length digits)

-- the text writes whole seconds
pub record IsWhole (text : List ℕ) (moment : ℕ) : Type 0 where
  pub second : ℕ
  pub encoded : text ≡ decimal second
  pub value : moment ≡ second * micros_a_second

-- the text writes seconds with a fraction
pub record IsWithFraction (text : List ℕ) (moment : ℕ) : Type 0 where
  pub second : ℕ
  pub digits : List ℕ
  pub micros : ℕ
  pub encoded : text ≡ decimal second ++ 46 ∷ digits
  pub fraction : IsFraction digits micros
  pub value : moment ≡ second * micros_a_second + micros

-- the text writes seconds
abbrev pub IsSeconds : List ℕ → ℕ → Type 0
IsSeconds text moment = IsWhole text moment ⊎ IsWithFraction text moment

-- the text is a timestamp without a space, and its instant is a whole number of microseconds after 1970-01-01T00:00:00Z
pub record IsTimestamp (text : List ℕ) (moment : ℕ) : Type 0 where
  pub no_space : Lacks 32 text
  pub instant : parse_timestamp text ≡ Ok (pos (moment * 1000))

-- the text writes at most `last` microseconds, as seconds or as a timestamp
pub record IsInstant (last : ℕ) (text : List ℕ) (moment : ℕ) : Type 0 where
  pub within : moment ≤ last
  pub encoded : IsSeconds text moment ⊎ IsTimestamp text moment

-- the text writes this moment
abbrev pub IsMomentText : List ℕ → ℕ → Type 0
IsMomentText text moment = IsInstant latest_moment text moment

-- the text writes this mark
abbrev pub IsMarkText : List ℕ → ℕ → Type 0
IsMarkText text mark = IsInstant last_mark text mark

-- the six digits of the microseconds within a second
abbrev pub six_digits : ℕ → List ℕ
six_digits micros = flat_map (λ ten. decimal (micros / ten % 10)) (100000 ∷ 10000 ∷ 1000 ∷ 100 ∷ 10 ∷ 1 ∷ [])

-- a point and the six digits, or nothing in a whole second
abbrev pub fraction_text : ℕ → List ℕ
fraction_text micros = if micros == 0 then [] else 46 ∷ six_digits micros

-- how a moment or a mark is written: as seconds, with a fraction of six digits where they aren't whole
abbrev pub moment_text : ℕ → List ℕ
moment_text n = decimal (n / micros_a_second) ++ fraction_text (n % micros_a_second)
