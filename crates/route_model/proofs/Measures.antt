-- Lengths and validity, as a loop goes over a list.
use Rattle.std.proofs.Common.{◌≡◌, ℕ, ◌+◌, ◌*◌, ◌<◌, ◌≤◌, List, [], ◌∷◌, ◌++◌, length, get_or, take, refl, sym, ap, subst, ◌∙◌, arith, suc}
use Rattle.std.specs.List.{flat_map, AllByRecursion}
use Rattle.std.specs.Int.{w32, to_be_bytes}
use Rattle.std.proofs.lemmas.List.{length-append, append-nil, take_all}
use Rattle.std.proofs.lemmas.List.Concat.{flat_map-append}
use Rattle.route_model.proofs.api.Admissions.{take_item}

pub length-numbers : (ns : List ℕ) → length (flat_map (to_be_bytes w32) ns) ≡ 4 * length ns
length-numbers [] = refl
length-numbers (n ∷ ns) = omega (arith, length-numbers ns)

pub all_below : (limit : ℕ) (ns : List ℕ) → ((i : ℕ) → get_or ns i 0 < limit) → AllByRecursion (λ n. n < limit) ns
all_below limit [] each = tt
all_below limit (n ∷ ns) each = (each 0, all_below limit ns (λ i. each (suc i)))

-- one more item
pub length-flat_map-take : {A : Type 0} (f : A → List ℕ) (xs : List A) (i : ℕ) (x : A) → i < length xs → x ≡ get_or xs i x → length (flat_map f (take (i + 1) xs)) ≡ length (flat_map f (take i xs)) + length (f x)
length-flat_map-take {A} f xs i x lt is =
    let e : flat_map f (take (i + 1) xs) ≡ flat_map f (take i xs) ++ f x =
    ap (flat_map f) (take_item xs i x lt is) ∙ flat_map-append f (take i xs) (x ∷ []) ∙ ap (λ (t : List ℕ). flat_map f (take i xs) ++ t) (append-nil (f x)) in
    ap length e ∙ length-append (flat_map f (take i xs)) (f x)

All-append : {A : Type 0} (P : A → Type 0) (xs ys : List A) → AllByRecursion P xs → AllByRecursion P ys → AllByRecursion P (xs ++ ys)
All-append P [] ys all more = more
All-append P (x ∷ xs) ys all more = (all.0, All-append P xs ys all.1 more)

pub All-take : {A : Type 0} (P : A → Type 0) (xs : List A) (i : ℕ) (x : A) → i < length xs → x ≡ get_or xs i x → AllByRecursion P (take i xs) → P x → AllByRecursion P (take (i + 1) xs)
All-take {A} P xs i x lt is all here = subst (λ (t : List A). AllByRecursion P t) (sym (take_item xs i x lt is)) (All-append P (take i xs) (x ∷ []) all (here, tt))

pub All-taken : {A : Type 0} (P : A → Type 0) (xs : List A) (i : ℕ) → length xs ≤ i → AllByRecursion P (take i xs) → AllByRecursion P xs
All-taken {A} P xs i le all = subst (λ (t : List A). AllByRecursion P t) (take_all i xs le) all

pub length-flat_map-taken : {A : Type 0} (f : A → List ℕ) (xs : List A) (i : ℕ) → length xs ≤ i → length (flat_map f (take i xs)) ≡ length (flat_map f xs)
length-flat_map-taken {A} f xs i le = ap (λ (t : List A). length (flat_map f t)) (take_all i xs le)
