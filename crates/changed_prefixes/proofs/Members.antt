-- What lists have that are joined, filtered and mapped.
use Rattle.std.proofs.Common.{◌≡◌, ℕ, zero, suc, ◌<◌, ◌⊎◌, inl, inr, List, [], ◌∷◌, ◌++◌, length, map, get_or, Bool, true, false, cond, Option, Some, None, refl, sym, ap, ◌∙◌, arith, subst, Contains}
use Rattle.std.specs.List.{AllByRecursion, filter, filter_map, cons_option}

-- x is one of the list, by recursion
abbrev pub IsIn : {X : Type 0} → X → List X → Type 0
IsIn x [] = ⊥
IsIn x (y ∷ ys) = (y ≡ x) ⊎ IsIn x ys

found_at : {X : Type 0} (x : X) (xs : List X) (k : ℕ) → k < length xs → get_or xs k x ≡ x → IsIn x xs
found_at x [] k lt e = absurd (omega arith)
found_at x (y ∷ ys) zero lt e = inl e
found_at x (y ∷ ys) (suc k) lt e = inr (found_at x ys k (omega arith) e)

pub is_in : {X : Type 0} (x : X) (xs : List X) → Contains xs x → IsIn x xs
is_in x xs c = found_at x xs c.0 c.1 c.2

pub contains : {X : Type 0} (x : X) (xs : List X) → IsIn x xs → Contains xs x
contains x [] h = absurd h
contains x (y ∷ ys) h = elim h [
  | inl e ↦ (0, omega arith, e)
  | inr rest ↦ let r = contains x ys rest in (suc r.0, omega (arith, r.1), r.2)
]

pub in_front : {X : Type 0} (x : X) (xs ys : List X) → IsIn x xs → IsIn x (xs ++ ys)
in_front x [] ys h = absurd h
in_front x (z ∷ zs) ys h = elim h [ inl e ↦ inl e | inr rest ↦ inr (in_front x zs ys rest) ]

pub in_rest : {X : Type 0} (x : X) (xs ys : List X) → IsIn x ys → IsIn x (xs ++ ys)
in_rest x [] ys h = h
in_rest x (z ∷ zs) ys h = inr (in_rest x zs ys h)

pub in_either : {X : Type 0} (x : X) (xs ys : List X) → IsIn x (xs ++ ys) → IsIn x xs ⊎ IsIn x ys
in_either x [] ys h = inr h
in_either x (z ∷ zs) ys h = elim h [
  | inl e ↦ inl (inl e)
  | inr rest ↦ elim (in_either x zs ys rest) [ inl front ↦ inl (inr front) | inr back ↦ inr back ]
]

-- what holds of each that is in the list
pub all_in : {X : Type 0} (P : X → Type 0) (xs : List X) → ((x : X) → IsIn x xs → P x) → AllByRecursion P xs
all_in P [] f = tt
all_in P (x ∷ xs) f = (f x (inl refl), all_in P xs (λ y h. f y (inr h)))

pub in_all : {X : Type 0} (P : X → Type 0) (x : X) (xs : List X) → AllByRecursion P xs → IsIn x xs → P x
in_all P x [] a h = absurd h
in_all P x (y ∷ ys) a h = elim h [ inl e ↦ subst P e a.0 | inr rest ↦ in_all P x ys a.1 rest ]

-- ---- filtered

kept : {X : Type 0} (b : Bool) (y x : X) (rest : List X) → IsIn x (cond b (y ∷ rest) rest) → ((b ≡ true) × (y ≡ x)) ⊎ IsIn x rest
kept true y x rest h = elim h [ inl e ↦ inl (refl, e) | inr r ↦ inr r ]
kept false y x rest h = inr h

keeps : {X : Type 0} (b : Bool) (y x : X) (rest : List X) → IsIn x rest → IsIn x (cond b (y ∷ rest) rest)
keeps true y x rest h = inr h
keeps false y x rest h = h

keeps_first : {X : Type 0} (b : Bool) (y x : X) (rest : List X) → b ≡ true → y ≡ x → IsIn x (cond b (y ∷ rest) rest)
keeps_first true y x rest t e = inl e
keeps_first false y x rest t e = absurd cc

pub in_filter : {X : Type 0} (p : X → Bool) (x : X) (xs : List X) → IsIn x (filter p xs) → IsIn x xs × (p x ≡ true)
in_filter p x [] h = absurd h
in_filter p x (y ∷ ys) h = elim (kept (p y) y x (filter p ys) h) [
  | inl here ↦ (inl here.1, ap p (sym here.1) ∙ here.0)
  | inr rest ↦ let r = in_filter p x ys rest in (inr r.0, r.1)
]

pub filter_in : {X : Type 0} (p : X → Bool) (x : X) (xs : List X) → IsIn x xs → p x ≡ true → IsIn x (filter p xs)
filter_in p x [] h t = absurd h
filter_in p x (y ∷ ys) h t = elim h [
  | inl e ↦ keeps_first (p y) y x (filter p ys) (ap p e ∙ t) e
  | inr rest ↦ keeps (p y) y x (filter p ys) (filter_in p x ys rest t)
]

-- ---- mapped

pub map_in : {X Y : Type 0} (f : X → Y) (x : X) (xs : List X) → IsIn x xs → IsIn (f x) (map f xs)
map_in f x [] h = absurd h
map_in f x (y ∷ ys) h = elim h [ inl e ↦ inl (ap f e) | inr rest ↦ inr (map_in f x ys rest) ]

pub in_map : {X Y : Type 0} (f : X → Y) (y : Y) (xs : List X) → IsIn y (map f xs) → (x : X) × IsIn x xs × (f x ≡ y)
in_map f y [] h = absurd h
in_map f y (x ∷ xs) h = elim h [
  | inl e ↦ (x, inl refl, e)
  | inr rest ↦ let r = in_map f y xs rest in (r.0, inr r.1, r.2)
]

given : {Y : Type 0} (o : Option Y) (y : Y) (rest : List Y) → IsIn y (cons_option o rest) → (o ≡ Some y) ⊎ IsIn y rest
given None y rest h = inr h
given (Some z) y rest h = elim h [ inl e ↦ inl (ap Some e) | inr r ↦ inr r ]

gives : {Y : Type 0} (o : Option Y) (y : Y) (rest : List Y) → IsIn y rest → IsIn y (cons_option o rest)
gives None y rest h = h
gives (Some z) y rest h = inr h

pub in_filter_map : {X Y : Type 0} (f : X → Option Y) (y : Y) (xs : List X) → IsIn y (filter_map f xs) → (x : X) × IsIn x xs × (f x ≡ Some y)
in_filter_map f y [] h = absurd h
in_filter_map f y (x ∷ xs) h = elim (given (f x) y (filter_map f xs) h) [
  | inl e ↦ (x, inl refl, e)
  | inr rest ↦ let r = in_filter_map f y xs rest in (r.0, inr r.1, r.2)
]

pub filter_map_in : {X Y : Type 0} (f : X → Option Y) (x : X) (y : Y) (xs : List X) → IsIn x xs → f x ≡ Some y → IsIn y (filter_map f xs)
filter_map_in f x y [] h t = absurd h
filter_map_in f x y (z ∷ zs) h t = elim h [
  | inl e ↦ rw (ap f e ∙ t) (inl refl)
  | inr rest ↦ gives (f z) y (filter_map f zs) (filter_map_in f x y zs rest t)
]
