-- What is shown where images of distinct pages are laid over pages.
use Rattle.std.proofs.Common.{◌≡◌, ◌≢◌, ◌<◌, ℕ, zero, suc, List, [], ◌∷◌, length, get_or, set, refl, ◌∙◌, ap, subst, arith, Some, length-set, get_or-set_same, get_or-set_other}
use Rattle.std.specs.List.{AllByRecursion, slice_get}
use Rattle.page_journal.specs.Layout.{Image, pages_of}
use Rattle.page_journal.specs.Recovers.{laid, AreDistinct}
use Rattle.page_tx.specs.inner.Laid.{length_laid}

set_apart : {X : Type 0} (l : List X) (n m : ℕ) (x y : X) → n ≢ m → set (set l n x) m y ≡ set (set l m y) n x
set_apart [] n m x y ne = refl
set_apart (z ∷ l) zero zero x y ne = absurd (ne refl)
set_apart (z ∷ l) zero (suc m) x y ne = refl
set_apart (z ∷ l) (suc n) zero x y ne = refl
set_apart (z ∷ l) (suc n) (suc m) x y ne = ap (λ k. z ∷ k) (set_apart l n m x y (λ e. ne (ap suc e)))

-- a page of which there is no image may be set before or after
pub laid_apart : (n : ℕ) (page : List ℕ) (images : List Image) (pages : List (List ℕ)) → AllByRecursion (λ other. n ≡ other → ⊥) (pages_of images) → laid images (set pages n page) ≡ set (laid images pages) n page
laid_apart n page [] pages a = refl
laid_apart n page (image ∷ rest) pages a = ap (laid rest) (set_apart pages n image.0 page image.1 a.0) ∙ laid_apart n page rest (set pages image.0 image.1) a.1

-- the page of an image is the image
pub shown_image : (n k : ℕ) (page : List ℕ) (images : List Image) (base : List (List ℕ)) → AreDistinct (pages_of images) → n < length base → slice_get images k ≡ Some (n, page) → get_or (laid images base) n [] ≡ page
shown_image n k page [] base d lt e = cc
shown_image n zero page (image ∷ rest) base d lt e =
    let same : image ≡ (n, page) = cc in
    let number : image.0 ≡ n = ap (λ (i : Image). i.0) same in
    let apart = subst (λ m. AllByRecursion (λ other. m ≡ other → ⊥) (pages_of rest)) number d.0 in
    ap (λ (i : Image). get_or (laid rest (set base i.0 i.1)) n []) same
    ∙ (ap (λ (l : List (List ℕ)). get_or l n []) (laid_apart n page rest base apart) ∙ get_or-set_same (laid rest base) n page [] (omega (arith, length_laid rest base)))
shown_image n (suc k) page (image ∷ rest) base d lt e = shown_image n k page rest (set base image.0 image.1) d.1 (omega (arith, length-set base image.0 image.1)) e

-- and each other page is as it was
pub shown_other : (n : ℕ) (images : List Image) (base : List (List ℕ)) → AllByRecursion (λ other. n ≡ other → ⊥) (pages_of images) → get_or (laid images base) n [] ≡ get_or base n []
shown_other n [] base a = refl
shown_other n (image ∷ rest) base a = shown_other n rest (set base image.0 image.1) a.1 ∙ get_or-set_other base image.0 n image.1 [] a.0
