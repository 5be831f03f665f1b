-- Tables that grow by one row at a time.
use Rattle.std.proofs.Common.{◌≡◌, ℕ, Bool, true, false, not, ◌||◌, List, [], ◌∷◌, ◌++◌, ◌<◌, length, map, refl, ap, ◌∙◌, arith, ◌⊎◌, inl, inr}
use Rattle.std.specs.Prelude.{filter}
use Rattle.std.specs.Str.{bytes_eq}
use Rattle.std.proofs.lemmas.List.{append-nil}
use Rattle.std.proofs.lemmas.Slice.Eq.{bytes_eq-Decides}
use Rattle.route_model.specs.Tables.{distinct, first_uses, place_of, has_row, enter}

pub same : (xs : List ℕ) → bytes_eq xs xs ≡ true
same xs = (bytes_eq-Decides xs xs).1 refl

pub is_same : (xs ys : List ℕ) → bytes_eq xs ys ≡ true → xs ≡ ys
is_same xs ys e = (bytes_eq-Decides xs ys).0 e

pub bool_cases : (b : Bool) → (b ≡ true) ⊎ (b ≡ false)
bool_cases true = inl refl
bool_cases false = inr refl

filter-append : (t : List ℕ → Bool) (xs ys : List (List ℕ)) → filter t (xs ++ ys) ≡ filter t xs ++ filter t ys
filter-append t [] ys = refl
filter-append t (x ∷ xs) ys = elim (bool_cases (t x)) [ inl p ↦ rw p (ap (λ (l : List (List ℕ)). x ∷ l) (filter-append t xs ys)) | inr p ↦ rw p (filter-append t xs ys) ]

-- a row that the filter keeps is found as before
pub has_row-filter : (r x : List ℕ) (rows : List (List ℕ)) → bytes_eq r x ≡ false → has_row (filter (λ y. not (bytes_eq r y)) rows) x ≡ has_row rows x
has_row-filter r x [] ne = refl
has_row-filter r x (y ∷ rows) ne = elim (bool_cases (bytes_eq r y)) [
  | inl p ↦
      let other : bytes_eq y x ≡ false = rw (← is_same r y p) ne in
      rw (p, other) (has_row-filter r x rows ne)
  | inr p ↦ rw p (ap (λ (b : Bool). bytes_eq y x || b) (has_row-filter r x rows ne))
]

enter-first : (r x : List ℕ) (rows : List (List ℕ)) → r ∷ filter (λ y. not (bytes_eq r y)) (enter rows x) ≡ enter (r ∷ filter (λ y. not (bytes_eq r y)) rows) x
enter-first r x rows = elim (bool_cases (bytes_eq r x)) [
  | inl p ↦ elim (bool_cases (has_row rows x)) [
    | inl q ↦ rw (p, q) refl
    | inr q ↦ rw (q, p, filter-append (λ y. not (bytes_eq r y)) rows (x ∷ []), p) (ap (λ (l : List (List ℕ)). r ∷ l) (append-nil (filter (λ y. not (bytes_eq r y)) rows)))
  ]
  | inr p ↦ elim (bool_cases (has_row rows x)) [
    | inl q ↦ rw (p, has_row-filter r x rows p, q) refl
    | inr q ↦ rw (p, has_row-filter r x rows p, q, filter-append (λ y. not (bytes_eq r y)) rows (x ∷ []), p) refl
  ]
]

pub distinct-push : (rows : List (List ℕ)) (x : List ℕ) → distinct (rows ++ x ∷ []) ≡ enter (distinct rows) x
distinct-push [] x = refl
distinct-push (r ∷ rows) x = rw (distinct-push rows x) (enter-first r x (distinct rows))

map-filter : {A : Type 0} (encode : A → List ℕ) (t : List ℕ → Bool) (xs : List A) → map encode (filter (λ y. t (encode y)) xs) ≡ filter t (map encode xs)
map-filter encode t [] = refl
map-filter encode t (x ∷ xs) = elim (bool_cases (t (encode x))) [ inl p ↦ rw p (ap (λ (l : List (List ℕ)). encode x ∷ l) (map-filter encode t xs)) | inr p ↦ rw p (map-filter encode t xs) ]

-- the rows of the values that are used are the rows that are used
pub map-first_uses : {A : Type 0} (encode : A → List ℕ) (xs : List A) → map encode (first_uses encode xs) ≡ distinct (map encode xs)
map-first_uses encode [] = refl
map-first_uses encode (x ∷ xs) = ap (λ (l : List (List ℕ)). encode x ∷ l) (map-filter encode (λ y. not (bytes_eq (encode x) y)) (first_uses encode xs) ∙ ap (filter (λ y. not (bytes_eq (encode x) y))) (map-first_uses encode xs))

-- a row whose place is before the end stands there
pub place_some : (rows : List (List ℕ)) (x : List ℕ) → place_of rows x < length rows → has_row rows x ≡ true
place_some [] x lt = absurd (omega (arith, lt))
place_some (r ∷ rows) x lt = elim (bool_cases (bytes_eq r x)) [
  | inl p ↦ rw p refl
  | inr p ↦ rw p (place_some rows x (omega (arith, rw p at lt)))
]
