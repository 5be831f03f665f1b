-- Places of pages that are left, and those after them; and what is left to read grows less.
use Rattle.std.proofs.Common.{◌≡◌, ℕ, suc, ◌+◌, ◌-◌, ◌*◌, ◌^◌, ◌<◌, ◌≤◌, List, [], ◌∷◌, ◌++◌, Option, length, subst, arith}
use Rattle.std.proofs.Math.Nat.{pow-suc, one-le-pow, mul-le-mul_right, add-mul}
use Rattle.version_model.specs.declared.child.Child.{Child}
use Rattle.version_model.specs.Counts.{count_in}
use Rattle.version_model.specs.Pages.{current_range}
use Rattle.tsb_walk.specs.declared.page_place.PagePlace.{PagePlace}
use Rattle.tsb_walk.specs.Shown.{keys_at}
use Rattle.tsb_check.specs.Pages.{AreCountedUnder, none_under, column_under, children_under, children_of, places_under}
use Rattle.tsb_check.specs.inner.GoingUnder.{page_weight}

module _ (shown : List (List ℕ)) (known : ℕ → Option (List ℕ)) (count : ℕ) where
  pub under_both : (xs ys : List PagePlace) (n m : ℕ) → AreCountedUnder shown known count xs n → AreCountedUnder shown known count ys m → AreCountedUnder shown known count (xs ++ ys) (n + m)
  under_both _ ys _ m none_under more =
      let e : m ≡ 0 + m = omega arith in
      subst (AreCountedUnder shown known count ys) e more
  under_both _ ys _ m (column_under place rest parts start current versions c k level represents_node leaf counted rests) more =
      let n = c + count_in versions (current_range (keys_at place) start) in
      let e : n + (k + m) ≡ n + k + m = omega arith in
      subst (AreCountedUnder shown known count (place ∷ (rest ++ ys))) e (column_under place (rest ++ ys) parts start current versions c (k + m) level represents_node leaf counted (under_both rest ys k m rests more))
  under_both _ ys _ m (children_under place rest children c k represents_node inner rests) more =
      let e : c + (k + m) ≡ c + k + m = omega arith in
      subst (AreCountedUnder shown known count (place ∷ (rest ++ ys))) e (children_under place (rest ++ ys) children c (k + m) represents_node inner (under_both rest ys k m rests more))

  pub record UnderApart (xs ys : List PagePlace) (t : ℕ) : Type 0 where
    pub front : ℕ
    pub back : ℕ
    pub counts_front : AreCountedUnder shown known count xs front
    pub counts_back : AreCountedUnder shown known count ys back
    pub is : t ≡ front + back

  none_before : (ys zs : List PagePlace) (t : ℕ) → zs ≡ ys → AreCountedUnder shown known count zs t → UnderApart [] ys t
  none_before ys zs t e c = record { front = 0; back = t; counts_front = none_under; counts_back = subst (λ ps. AreCountedUnder shown known count ps t) e c; is = omega arith }

  pub under_apart : (zs : List PagePlace) (t : ℕ) → AreCountedUnder shown known count zs t → (xs ys : List PagePlace) → zs ≡ xs ++ ys → UnderApart xs ys t
  under_apart zs t c [] ys e = none_before ys zs t e c
  under_apart _ _ none_under (x ∷ xs) ys e = absurd (cc)
  under_apart _ _ (column_under place rest parts start current versions c k level represents_node leaf counted rests) (x ∷ xs) ys e =
      let same : place ≡ x = cc in
      let tail : rest ≡ xs ++ ys = cc in
      let apart = under_apart rest k rests xs ys tail in
      let n = c + count_in versions (current_range (keys_at place) start) in
      record {
        front = n + apart.front;
        back = apart.back;
        counts_front = subst (λ p. AreCountedUnder shown known count (p ∷ xs) (n + apart.front)) same (column_under place xs parts start current versions c apart.front level represents_node leaf counted apart.counts_front);
        counts_back = apart.counts_back;
        is = omega (arith, apart.is);
      }
  under_apart _ _ (children_under place rest children c k represents_node inner rests) (x ∷ xs) ys e =
      let same : place ≡ x = cc in
      let tail : rest ≡ xs ++ ys = cc in
      let apart = under_apart rest k rests xs ys tail in
      record {
        front = c + apart.front;
        back = apart.back;
        counts_front = subst (λ p. AreCountedUnder shown known count (p ∷ xs) (c + apart.front)) same (children_under place xs children c apart.front represents_node inner apart.counts_front);
        counts_back = apart.counts_back;
        is = omega (arith, apart.is);
      }

page_weight_both : (xs ys : List PagePlace) → page_weight (xs ++ ys) ≡ page_weight xs + page_weight ys
page_weight_both [] ys = omega arith
page_weight_both (x ∷ xs) ys = omega (arith, page_weight_both xs ys)

children_weight : (level : ℕ) (high : Option ℕ) (children : List Child) → page_weight (children_of level high children) ≡ length children * 339 ^ level
children_weight level high [] = omega arith
children_weight level high (c ∷ cs) =
    let more : (1 + length cs) * 339 ^ level ≡ 1 * 339 ^ level + length cs * 339 ^ level = add-mul 1 (length cs) (339 ^ level) in
    omega (arith, more, children_weight level high cs)

-- a place gives way to those of its children
pub page_falls : (place : PagePlace) (rest : List PagePlace) (children : List Child) → 1 ≤ place.level → length children ≤ 338 → page_weight (rest ++ places_under place children) < page_weight (rest ++ place ∷ [])
page_falls place rest children above few =
    let level = place.level - 1 in
    let some : 1 ≤ 339 ^ level = one-le-pow level 339 (omega arith) in
    let inner = children_weight level place.high children in
    let most : length children * 339 ^ level ≤ 338 * 339 ^ level = mul-le-mul_right (339 ^ level) few in
    let power : 339 ^ suc level ≡ 339 ^ level * 339 = pow-suc 339 level in
    let same : suc level ≡ place.level = omega (arith, above) in
    let here : 339 ^ place.level ≡ 339 ^ level * 339 = subst (λ (n : ℕ). 339 ^ n ≡ 339 ^ level * 339) same power in
    omega (arith, some, inner, most, here, page_weight_both rest (places_under place children), page_weight_both rest (place ∷ []))

-- or is read to its end
pub page_ends : (place : PagePlace) (rest : List PagePlace) → page_weight rest < page_weight (rest ++ place ∷ [])
page_ends place rest =
    let some : 1 ≤ 339 ^ place.level = one-le-pow place.level 339 (omega arith) in
    omega (arith, some, page_weight_both rest (place ∷ []))
