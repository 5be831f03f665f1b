-- Lists without some of their elements.
use Rattle.std.proofs.Common.{◌≡◌, ◌∙◌, List, [], ◌∷◌, ◌++◌, inl, inr, refl, sym, ap}
use Rattle.resolve.specs.Entries.{AreOthers}

-- one element more, which is left out
pub others_left : {X : Type 0} (P : X → Type 0) (xs : List X) (x : X) (others : List X) → AreOthers P xs others → P x → AreOthers P (xs ++ x ∷ []) others
others_left P [] x others o p = inl (p, o)
others_left P (y ∷ ys) x others (inl o) p = inl (o.0, others_left P ys x others o.1 p)
others_left P (y ∷ ys) x others (inr o) p = inr (o.0, o.1, o.2, others_left P ys x o.1 o.3 p)

-- one element more, which is kept
pub others_kept : {X : Type 0} (P : X → Type 0) (xs : List X) (x : X) (others : List X) → AreOthers P xs others → (P x → ⊥) → AreOthers P (xs ++ x ∷ []) (others ++ x ∷ [])
others_kept {X = X} P [] x others o n = inr (n, [], ap (λ (t : List X). t ++ x ∷ []) o, refl)
others_kept P (y ∷ ys) x others (inl o) n = inl (o.0, others_kept P ys x others o.1 n)
others_kept {X = X} P (y ∷ ys) x others (inr o) n = inr (o.0, o.1 ++ x ∷ [], ap (λ (t : List X). t ++ x ∷ []) o.2, others_kept P ys x o.1 o.3 n)

-- there is one such list
pub others_one : {X : Type 0} (P : X → Type 0) (xs a b : List X) → AreOthers P xs a → AreOthers P xs b → a ≡ b
others_one P [] a b o p = o ∙ sym p
others_one P (x ∷ xs) a b (inl o) (inl p) = others_one P xs a b o.1 p.1
others_one P (x ∷ xs) a b (inl o) (inr p) = absurd (p.0 o.0)
others_one P (x ∷ xs) a b (inr o) (inl p) = absurd (o.0 p.0)
others_one {X = X} P (x ∷ xs) a b (inr o) (inr p) = o.2 ∙ ap (λ (t : List X). x ∷ t) (others_one P xs o.1 p.1 o.3 p.3) ∙ sym p.2

-- where no element has P, all are kept
pub others_all : {X : Type 0} (P : X → Type 0) (xs : List X) → ((x : X) → P x → ⊥) → AreOthers P xs xs
others_all P [] none = refl
others_all P (x ∷ xs) none = inr (none x, xs, refl, others_all P xs none)

-- an element that is kept stands among the others, after those of the elements before it
pub others_parts : {X : Type 0} (P : X → Type 0) (before : List X) (x : X) (after others : List X) → (P x → ⊥) → AreOthers P (before ++ x ∷ after) others
    → (front back : List X) × (others ≡ front ++ x ∷ back) × AreOthers P before front
others_parts P [] x after others n (inl o) = absurd (n o.0)
others_parts P [] x after others n (inr o) = ([], o.1, o.2, refl)
others_parts P (y ∷ before) x after others n (inl o) =
    let rest = others_parts P before x after others n o.1 in
    (rest.0, rest.1, rest.2, inl (o.0, rest.3))
others_parts {X = X} P (y ∷ before) x after others n (inr o) =
    let rest = others_parts P before x after o.1 n o.3 in
    (y ∷ rest.0, rest.1, o.2 ∙ ap (λ (t : List X). y ∷ t) rest.2, inr (o.0, rest.0, refl, rest.3))
