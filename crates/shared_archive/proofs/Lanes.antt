-- Lists of which each element has its value in another list, where one element more comes.
use Rattle.std.proofs.Common.{◌≡◌, ◌∙◌, ◌+◌, ◌++◌, ℕ, zero, suc, List, [], ◌∷◌, length, Some, refl, sym, ap, arith}
use Rattle.std.specs.List.{slice_get}
use Rattle.std.proofs.lemmas.Option.{same_Some}

length_more : {X : Type 0} (xs : List X) (x : X) → length (xs ++ x ∷ []) ≡ length xs + 1
length_more [] x = refl
length_more (y ∷ xs) x = let rest = length_more xs x in omega (arith, rest)

each_more : {X Y : Type 0} (f : X → Y) (xs : List X) (x : X) (ys : List Y) → ((k : ℕ) (z : X) → slice_get xs k ≡ Some z → slice_get ys k ≡ Some (f z)) → slice_get ys (length xs) ≡ Some (f x)
    → (k : ℕ) (z : X) → slice_get (xs ++ x ∷ []) k ≡ Some z → slice_get ys k ≡ Some (f z)
each_more f [] x ys each here zero z at = here ∙ ap (λ t. Some (f t)) (same_Some x z at)
each_more f [] x ys each here (suc k) z at = absurd (cc)
each_more f (y ∷ xs) x ys each here zero z at = each zero z at
each_more f (y ∷ xs) x [] each here (suc k) z at = absurd (cc)
each_more f (y ∷ xs) x (w ∷ ys) each here (suc k) z at = each_more f xs x ys (λ j t. each (suc j) t) here k z at

-- the same of a list that is known to be these elements and that one
pub length_after : {X : Type 0} (xs after : List X) (x : X) → after ≡ xs ++ x ∷ [] → length after ≡ length xs + 1
length_after xs after x is = ap (λ t. length t) is ∙ length_more xs x

pub each_after : {X Y : Type 0} (f : X → Y) (xs after : List X) (x : X) (ys : List Y) → after ≡ xs ++ x ∷ [] → ((k : ℕ) (z : X) → slice_get xs k ≡ Some z → slice_get ys k ≡ Some (f z)) → slice_get ys (length xs) ≡ Some (f x)
    → (k : ℕ) (z : X) → slice_get after k ≡ Some z → slice_get ys k ≡ Some (f z)
each_after f xs after x ys is each here k z at = each_more f xs x ys each here k z (ap (λ t. slice_get t k) (sym is) ∙ at)
