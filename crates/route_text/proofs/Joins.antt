-- Texts that are joined by an octet.
use Rattle.std.proofs.Common.{◌≡◌, ℕ, ◌≤◌, List, [], ◌∷◌, ◌++◌, map, flat_map, take, length, sym, ap, ◌∙◌, append_assoc}
use Rattle.std.specs.List.{join_with_byte}
use Rattle.std.proofs.lemmas.List.{append-nil, take_all}

module _ {X : Type 0} (c : ℕ) (f : X → List ℕ) where
  -- the first text, and each other one after the octet
  pub join-led : (x : X) (xs : List X) → join_with_byte c (map f (x ∷ xs)) ≡ f x ++ flat_map (λ y. c ∷ f y) xs
  join-led x [] = sym (append-nil (f x))
  join-led x (y ∷ xs) = ap (λ t. f x ++ (c ∷ t)) (join-led y xs)

  -- what a loop wrote after the first text
  pub join_all : (out before after : List ℕ) (xs others : List X) (x : X) (i : ℕ) → xs ≡ x ∷ others → before ≡ out ++ f x → length others ≤ i → after ≡ before ++ flat_map (λ y. c ∷ f y) (take i others) → after ≡ out ++ join_with_byte c (map f xs)
  join_all out before after xs others x i is first all h =
      h ∙ ap (λ t. before ++ flat_map (λ y. c ∷ f y) t) (take_all i others all) ∙ ap (λ t. t ++ flat_map (λ y. c ∷ f y) others) first ∙ append_assoc out (f x) (flat_map (λ y. c ∷ f y) others) ∙ ap (λ t. out ++ t) (sym (join-led x others)) ∙ ap (λ t. out ++ join_with_byte c (map f t)) (sym is)
