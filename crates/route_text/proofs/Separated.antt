-- Texts of several values with an octet between two of them, read one value at a time.
use Rattle.std.proofs.Common.{◌≡◌, ℕ, ◌<◌, List, [], ◌∷◌, ◌++◌, length, map, refl, sym, ◌∙◌, append_assoc, arith}
use Rattle.std.specs.List.{join_with_byte, AllByRecursion}
use Rattle.route_text.specs.Octets.{Lacks}
use Rattle.route_text.proofs.Cuts.{first_cut, Lacks-at, Lacks-same}

-- of all values these are read; the rest of the text writes the next one and those after it
pub record Left {X : Type 0} (c : ℕ) (f : X → List ℕ) (Is : X → Type 0) (all done : List X) (rest : List ℕ) : Type 0 where
  pub next : X
  pub more : List X
  pub here : Is next
  pub later : AllByRecursion Is more
  pub split : all ≡ done ++ next ∷ more
  pub text : rest ≡ join_with_byte c (map f (next ∷ more))

-- nothing is read yet
pub left_begin : {X : Type 0} (c : ℕ) (f : X → List ℕ) (Is : X → Type 0) (all : List X) (text : List ℕ) → 0 < length all → AllByRecursion Is all → text ≡ join_with_byte c (map f all) → Left c f Is all [] text
left_begin c f Is [] text some valid e = absurd (let bad : ⊥ = omega arith in bad)
left_begin c f Is (x ∷ xs) text some valid e = record { next = x; more = xs; here = valid.0; later = valid.1; split = refl; text = e }

-- a word before the octet is the next value's, and what follows the octet is left
pub left_word : {X : Type 0} (c : ℕ) (f : X → List ℕ) (Is : X → Type 0) (lacks : (x : X) → Is x → Lacks c (f x)) (all done : List X) (rest word after : List ℕ) (h : Left c f Is all done rest) → rest ≡ word ++ c ∷ after → Lacks c word → (word ≡ f h.next) × Left c f Is all (done ++ h.next ∷ []) after
left_word {X} c f Is lacks all done rest word after h cut free = at h.more h.later h.split h.text
  where
    at : (more : List X) → AllByRecursion Is more → all ≡ done ++ h.next ∷ more → rest ≡ join_with_byte c (map f (h.next ∷ more)) → (word ≡ f h.next) × Left c f Is all (done ++ h.next ∷ []) after
    at [] later split text = absurd (Lacks-at c word after (Lacks-same c (f h.next) (word ++ c ∷ after) (sym text ∙ cut) (lacks h.next h.here)))
    at (y ∷ more) later split text =
        let parts = first_cut c word after (f h.next) (join_with_byte c (map f (y ∷ more))) (sym cut ∙ text) free (lacks h.next h.here) in
        (parts.0, record { next = y; more = more; here = later.0; later = later.1; split = split ∙ sym (append_assoc done (h.next ∷ []) (y ∷ more)); text = parts.1 })

-- a rest without the octet is the last value's
pub left_last : {X : Type 0} (c : ℕ) (f : X → List ℕ) (Is : X → Type 0) (all done : List X) (rest : List ℕ) (h : Left c f Is all done rest) → Lacks c rest → (rest ≡ f h.next) × (all ≡ done ++ h.next ∷ [])
left_last {X} c f Is all done rest h free = at h.more h.split h.text
  where
    at : (more : List X) → all ≡ done ++ h.next ∷ more → rest ≡ join_with_byte c (map f (h.next ∷ more)) → (rest ≡ f h.next) × (all ≡ done ++ h.next ∷ [])
    at [] split text = (text, split)
    at (y ∷ more) split text = absurd (Lacks-at c (f h.next) (join_with_byte c (map f (y ∷ more))) (Lacks-same c rest _ text free))

-- ---- what holds of each

pub AllByRecursion-push : {X : Type 0} (P : X → Type 0) (xs : List X) (x : X) → AllByRecursion P xs → P x → AllByRecursion P (xs ++ x ∷ [])
AllByRecursion-push P [] x all last = (last, tt)
AllByRecursion-push P (y ∷ xs) x all last = (all.0, AllByRecursion-push P xs x all.1 last)

pub AllByRecursion-append : {X : Type 0} (P : X → Type 0) (xs ys : List X) → AllByRecursion P xs → AllByRecursion P ys → AllByRecursion P (xs ++ ys)
AllByRecursion-append P [] ys all more = more
AllByRecursion-append P (x ∷ xs) ys all more = (all.0, AllByRecursion-append P xs ys all.1 more)
