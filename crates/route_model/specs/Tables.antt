-- Tables of what a list uses: each value once, in the order of first use. Two values are the same where their encodings are.
use Rattle.std.specs.Prelude.{ℕ, ◌+◌, Bool, false, ◌||◌, not, List, [], ◌∷◌, ◌++◌, filter, if◌then◌else◌}
use Rattle.std.specs.Str.{bytes_eq}

-- each row once, where it stands first
abbrev pub distinct : List (List ℕ) → List (List ℕ)
distinct [] = []
distinct (x ∷ xs) = x ∷ filter (λ y. not (bytes_eq x y)) (distinct xs)

-- each value once, where it stands first
abbrev pub first_uses : {A : Type 0} → (A → List ℕ) → List A → List A
first_uses encode [] = []
first_uses encode (x ∷ xs) = x ∷ filter (λ y. not (bytes_eq (encode x) (encode y))) (first_uses encode xs)

-- where a row stands first, or the length
abbrev pub place_of : List (List ℕ) → List ℕ → ℕ
place_of [] x = 0
place_of (y ∷ ys) x = if bytes_eq y x then 0 else place_of ys x + 1

-- whether the row stands among the rows
abbrev pub has_row : List (List ℕ) → List ℕ → Bool
has_row [] x = false
has_row (y ∷ ys) x = bytes_eq y x || has_row ys x

-- the table with the row at its end, where it has no such row
abbrev pub enter : List (List ℕ) → List ℕ → List (List ℕ)
enter rows x = if has_row rows x then rows else rows ++ x ∷ []
