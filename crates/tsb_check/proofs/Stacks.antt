-- Places that are left, and those after them.
use Rattle.std.proofs.Common.{◌≡◌, ℕ, ◌+◌, List, [], ◌∷◌, ◌++◌, Option, inl, inr, refl, subst, arith}
use Rattle.std.specs.List.{AllByRecursion}
use Rattle.version_model.specs.declared.part.Part.{Part}
use Rattle.version_model.specs.declared.part.Place.{Place}
use Rattle.version_model.specs.Ranges.{range_of}
use Rattle.version_model.specs.Counts.{count_in}
use Rattle.tsb_check.specs.Counted.{AreCounted, none_counted, leaf_counted, column_counted, IsOneOf, places_of}

pub all_front : {X : Type 0} (P : X → Type 0) (xs ys : List X) → AllByRecursion P (xs ++ ys) → AllByRecursion P xs
all_front P [] ys all = tt
all_front P (x ∷ xs) ys all = (all.0, all_front P xs ys all.1)

pub all_back : {X : Type 0} (P : X → Type 0) (xs ys : List X) → AllByRecursion P (xs ++ ys) → AllByRecursion P ys
all_back P [] ys all = all
all_back P (x ∷ xs) ys all = all_back P xs ys all.1

pub all_both : {X : Type 0} (P : X → Type 0) (xs ys : List X) → AllByRecursion P xs → AllByRecursion P ys → AllByRecursion P (xs ++ ys)
all_both P [] ys front back = back
all_both P (x ∷ xs) ys front back = (front.0, all_both P xs ys front.1 back)

pub all_from : {X : Type 0} (P : X → Type 0) (xs : List X) → ((x : X) → IsOneOf xs x → P x) → AllByRecursion P xs
all_from P [] each = tt
all_from P (x ∷ xs) each = (each x (inl refl), all_from P xs (λ y is. each y (inr is)))

pub all_at : {X : Type 0} (P : X → Type 0) (xs : List X) (x : X) → AllByRecursion P xs → IsOneOf xs x → P x
all_at P [] x all is = absurd is
all_at P (y ∷ xs) x all (inl here) = subst P here all.0
all_at P (y ∷ xs) x all (inr there) = all_at P xs x all.1 there

module _ (known : ℕ → Option (List ℕ)) (count : ℕ) where
  pub counted_both : (xs ys : List Place) (n m : ℕ) → AreCounted known count xs n → AreCounted known count ys m → AreCounted known count (xs ++ ys) (n + m)
  counted_both _ ys _ m none_counted more =
      let e : m ≡ 0 + m = omega arith in
      subst (AreCounted known count ys) e more
  counted_both _ ys _ m (leaf_counted place rest octets versions k is leaf rests) more =
      let c = count_in versions (range_of place.bounds) in
      let e : c + (k + m) ≡ c + k + m = omega arith in
      subst (AreCounted known count (place ∷ (rest ++ ys))) e (leaf_counted place (rest ++ ys) octets versions (k + m) is leaf (counted_both rest ys k m rests more))
  counted_both _ ys _ m (column_counted place rest octets parts c k is column lower inner rests) more =
      let e : c + (k + m) ≡ c + k + m = omega arith in
      subst (AreCounted known count (place ∷ (rest ++ ys))) e (column_counted place (rest ++ ys) octets parts c (k + m) is column lower inner (counted_both rest ys k m rests more))

  pub record CountedApart (xs ys : List Place) (t : ℕ) : Type 0 where
    pub front : ℕ
    pub back : ℕ
    pub counts_front : AreCounted known count xs front
    pub counts_back : AreCounted known count ys back
    pub is : t ≡ front + back

  none_before : (ys zs : List Place) (t : ℕ) → zs ≡ ys → AreCounted known count zs t → CountedApart [] ys t
  none_before ys zs t e c = record { front = 0; back = t; counts_front = none_counted; counts_back = subst (λ ps. AreCounted known count ps t) e c; is = omega arith }

  pub counted_apart : (zs : List Place) (t : ℕ) → AreCounted known count zs t → (xs ys : List Place) → zs ≡ xs ++ ys → CountedApart xs ys t
  counted_apart zs t c [] ys e = none_before ys zs t e c
  counted_apart _ _ none_counted (x ∷ xs) ys e = absurd (cc)
  counted_apart _ _ (leaf_counted place rest octets versions k is leaf rests) (x ∷ xs) ys e =
      let same : place ≡ x = cc in
      let tail : rest ≡ xs ++ ys = cc in
      let apart = counted_apart rest k rests xs ys tail in
      let c = count_in versions (range_of place.bounds) in
      record {
        front = c + apart.front;
        back = apart.back;
        counts_front = subst (λ p. AreCounted known count (p ∷ xs) (c + apart.front)) same (leaf_counted place xs octets versions apart.front is leaf apart.counts_front);
        counts_back = apart.counts_back;
        is = omega (arith, apart.is);
      }
  counted_apart _ _ (column_counted place rest octets parts c k is column lower inner rests) (x ∷ xs) ys e =
      let same : place ≡ x = cc in
      let tail : rest ≡ xs ++ ys = cc in
      let apart = counted_apart rest k rests xs ys tail in
      record {
        front = c + apart.front;
        back = apart.back;
        counts_front = subst (λ p. AreCounted known count (p ∷ xs) (c + apart.front)) same (column_counted place xs octets parts c apart.front is column lower inner apart.counts_front);
        counts_back = apart.counts_back;
        is = omega (arith, apart.is);
      }
