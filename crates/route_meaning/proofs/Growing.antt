-- What is applied later has what was applied before as its front.
use Rattle.std.proofs.Common.{◌≡◌, ℕ, zero, suc, ◌<◌, ◌≤◌, ◌⊎◌, List, [], ◌∷◌, ◌++◌, take, drop, refl, sym, ap, ◌∙◌, inl, inr, arith, append-nil, append_assoc}
use Rattle.std.proofs.lemmas.List.{take-append-drop}
use Rattle.route_model.specs.declared.change.Change.{Change}
use Rattle.route_model.specs.Admission.{Admitted}
use Rattle.route_meaning.specs.Merged.{Placed}
use Rattle.route_meaning.specs.Holds.{changes_of}
use Rattle.route_meaning.specs.History.{History, IsHistory, Begins, all_of, begun, front, applied}
use Rattle.route_meaning.proofs.api.Front.{front_kept}

-- the one list begins the other
pub record IsFrontOf (xs ys : List Change) : Type 0 where
  pub more : List Change
  pub is : ys ≡ xs ++ more

take_front : (n m : ℕ) (xs : List Change) → n ≤ m → IsFrontOf (take n xs) (take m xs)
take_front zero m xs le = record { more = take m xs; is = refl }
take_front (suc n) zero xs le = absurd (omega arith)
take_front (suc n) (suc m) [] le = record { more = []; is = refl }
take_front (suc n) (suc m) (x ∷ xs) le = let f = take_front n m xs (omega arith) in record { more = f.more; is = ap (λ l. x ∷ l) f.is }

begun-changes : (n : ℕ) (p : Placed Admitted) (ps : List (Placed Admitted)) → changes_of (begun n (p ∷ ps)) ≡ take n p.item.changes
begun-changes zero p ps = refl
begun-changes (suc n) p ps = append-nil (take (suc n) p.item.changes)

begun-none : (n : ℕ) → begun n [] ≡ []
begun-none zero = refl
begun-none (suc n) = refl

front-none : (n k : ℕ) → changes_of (front n k []) ≡ []
front-none zero k = ap changes_of (begun-none k)
front-none (suc n) k = ap changes_of (begun-none k)

fronts : (n k m l : ℕ) (ps : List (Placed Admitted)) → (n < m) ⊎ ((n ≡ m) × (k ≤ l)) → IsFrontOf (changes_of (front n k ps)) (changes_of (front m l ps))
fronts n k m l [] le = record { more = []; is = front-none m l ∙ sym (append-nil (changes_of (front n k [])) ∙ front-none n k) }
fronts zero k zero l (p ∷ ps) le =
    let f = take_front k l p.item.changes (elim le [ inl lt ↦ absurd (omega arith) | inr e ↦ e.1 ]) in
    record { more = f.more; is = begun-changes l p ps ∙ (f.is ∙ ap (λ c. c ++ f.more) (sym (begun-changes k p ps))) }
fronts zero k (suc m) l (p ∷ ps) le =
    record {
      more = drop k p.item.changes ++ changes_of (front m l ps);
      is =
          ap (λ c. c ++ changes_of (front m l ps)) (sym (take-append-drop k p.item.changes))
          ∙ (append_assoc (take k p.item.changes) (drop k p.item.changes) (changes_of (front m l ps))
          ∙ ap (λ c. c ++ (drop k p.item.changes ++ changes_of (front m l ps))) (sym (begun-changes k p ps)));
    }
fronts (suc n) k zero l (p ∷ ps) le = absurd (elim le [ inl lt ↦ omega arith | inr e ↦ omega arith ])
fronts (suc n) k (suc m) l (p ∷ ps) le =
    let f = fronts n k m l ps (elim le [ inl lt ↦ inl (omega arith) | inr e ↦ inr (omega arith, e.1) ]) in
    record { more = f.more; is = ap (λ c. p.item.changes ++ c) f.is ∙ sym (append_assoc p.item.changes (changes_of (front n k ps)) f.more) }

-- later nothing is taken back, and what is added comes after it
pub applied_grows : (h g : History) → IsHistory h → Begins h g → (more : List Change) × (changes_of (applied g) ≡ changes_of (applied h) ++ more)
applied_grows h g is b =
    let f = fronts h.whole h.some g.whole g.some (all_of g) b.place in
    (f.more, f.is ∙ ap (λ ps. changes_of ps ++ f.more) (front_kept h g is b))
