-- Images that are laid over pages, one in place of an older one.
use Rattle.std.proofs.Common.{◌≡◌, ◌≢◌, ◌<◌, ◌≤◌, ℕ, zero, suc, List, [], ◌∷◌, ◌++◌, length, take, drop, get_or, set, refl, sym, ◌∙◌, ap, subst, arith, inl, inr, ⊎_elim, Option, None, Some, IfSome, true, true≢false}
use Rattle.std.specs.List.{AllByRecursion, slice_get}
use Rattle.std.specs.Option.{is_some}
use Rattle.std.proofs.lemmas.Option.{slice_get-get_or}
use Rattle.std.proofs.lemmas.Bool.{cases_eq, eq-eqb, ne_eqb}
use Rattle.page_journal.specs.Layout.{Image, pages_of}
use Rattle.page_journal.specs.Recovers.{laid, AreDistinct, AreBelow, IsListed}
use Rattle.page_tx.specs.inner.Placing.{with_image}
use Rattle.page_tx.proofs.api.Laid.{laid_apart}

set_twice : {X : Type 0} (l : List X) (n : ℕ) (x y : X) → set (set l n x) n y ≡ set l n y
set_twice [] n x y = refl
set_twice (z ∷ l) zero x y = refl
set_twice (z ∷ l) (suc n) x y = ap (λ k. z ∷ k) (set_twice l n x y)

pub laid_with : (n : ℕ) (page : List ℕ) (images : List Image) (pages : List (List ℕ)) → AreDistinct (pages_of images) → laid (with_image n page images) pages ≡ set (laid images pages) n page
laid_with n page [] pages d = refl
laid_with n page (image ∷ rest) pages d = elim (cases_eq image.0 n) [
  | inl e ↦
      let apart = subst (λ m. AllByRecursion (λ other. m ≡ other → ⊥) (pages_of rest)) e d.0 in
      let same : set (set pages image.0 image.1) n page ≡ set pages n page = ap (λ m. set (set pages m image.1) n page) e ∙ set_twice pages n image.1 page in
      rw (eq-eqb image.0 n e) (ap (laid rest) (sym same) ∙ laid_apart n page rest (set pages image.0 image.1) apart)
  | inr ne ↦ rw (ne_eqb image.0 n ne) (laid_with n page rest (set pages image.0 image.1) d.1)
]

apart_with : (m n : ℕ) (page : List ℕ) (images : List Image) → m ≢ n → AllByRecursion (λ other. m ≡ other → ⊥) (pages_of images) → AllByRecursion (λ other. m ≡ other → ⊥) (pages_of (with_image n page images))
apart_with m n page [] ne a = (ne, tt)
apart_with m n page (image ∷ rest) ne a = elim (cases_eq image.0 n) [
  | inl e ↦ rw (eq-eqb image.0 n e) (ne, a.1)
  | inr other ↦ rw (ne_eqb image.0 n other) (a.0, apart_with m n page rest ne a.1)
]

pub distinct_with : (n : ℕ) (page : List ℕ) (images : List Image) → AreDistinct (pages_of images) → AreDistinct (pages_of (with_image n page images))
distinct_with n page [] d = (tt, tt)
distinct_with n page (image ∷ rest) d = elim (cases_eq image.0 n) [
  | inl e ↦ rw (eq-eqb image.0 n e) (subst (λ m. AllByRecursion (λ other. m ≡ other → ⊥) (pages_of rest)) e d.0, d.1)
  | inr ne ↦ rw (ne_eqb image.0 n ne) (apart_with image.0 n page rest ne d.0, distinct_with n page rest d.1)
]

set_split : {X : Type 0} (l : List X) (k : ℕ) (y : X) → k < length l → set l k y ≡ take k l ++ y ∷ drop (suc k) l
set_split [] k y lt = absurd (omega arith)
set_split (z ∷ l) zero y lt = refl
set_split (z ∷ l) (suc k) y lt = ap (λ m. z ∷ m) (set_split l k y (omega arith))

split_at : {X : Type 0} (l : List X) (k : ℕ) (x : X) → k < length l → x ≡ get_or l k x → drop k l ≡ x ∷ drop (suc k) l
split_at [] k x lt e = absurd (omega arith)
split_at {X} (z ∷ l) zero x lt e = ap (λ (y : X). y ∷ l) (sym e)
split_at (z ∷ l) (suc k) x lt e = split_at l k x (omega arith) e

-- it is found
pub image_found : (n k : ℕ) (images : List Image) (x : Image) (page : List ℕ) → k < length images → x ≡ get_or images k x → x.0 ≡ n → take k images ++ with_image n page (drop k images) ≡ with_image n page images → set images k (n, page) ≡ with_image n page images
image_found n k images x page lt e same before =
    set_split images k (n, page) lt ∙ (ap (λ l. take k images ++ l) (sym (ap (with_image n page) (split_at images k x lt e) ∙ rw (eq-eqb x.0 n same) refl)) ∙ before)

-- an image that was added is of a page of which there was none
pub new_apart : (n : ℕ) (page : List ℕ) (images : List Image) → length (with_image n page images) ≡ suc (length images) → AllByRecursion (λ other. n ≡ other → ⊥) (pages_of images)
new_apart n page [] e = tt
new_apart n page (image ∷ rest) e = elim (cases_eq image.0 n) [
  | inl same ↦ let len = rw (eq-eqb image.0 n same) at e in absurd (omega arith)
  | inr ne ↦ let len = rw (ne_eqb image.0 n ne) at e in ((λ f. ne (sym f)), new_apart n page rest (omega arith))
]

pub length_pages_of : (images : List Image) → length (pages_of images) ≡ length images
length_pages_of [] = refl
length_pages_of (image ∷ rest) = ap suc (length_pages_of rest)

pub length_with : (n : ℕ) (page : List ℕ) (images : List Image) → length (with_image n page images) ≤ suc (length images)
length_with n page [] = omega arith
length_with n page (image ∷ rest) = elim (cases_eq image.0 n) [
  | inl same ↦ rw (eq-eqb image.0 n same) (omega arith)
  | inr ne ↦ rw (ne_eqb image.0 n ne) (let ih = length_with n page rest in omega arith)
]

-- ---- which pages have images

pub listed_image : (images : List Image) (k : ℕ) (image : Image) → slice_get images k ≡ Some image → IsListed image.0 (pages_of images)
listed_image [] k image is = cc
listed_image (x ∷ rest) zero image is = let same : x ≡ image = cc in inl (ap (λ (i : Image). i.0) (sym same))
listed_image (x ∷ rest) (suc k) image is = inr (listed_image rest k image is)

pub not_listed : (n : ℕ) (ns : List ℕ) → AllByRecursion (λ other. n ≡ other → ⊥) ns → IsListed n ns → ⊥
not_listed n [] a listed = listed
not_listed n (m ∷ ns) a listed = ⊎_elim (λ same. a.0 same) (λ later. not_listed n ns a.1 later) listed

pub below_with : (homes n : ℕ) (page : List ℕ) (images : List Image) → n < homes → AreBelow homes (pages_of images) → AreBelow homes (pages_of (with_image n page images))
below_with homes n page [] lt below = (lt, tt)
below_with homes n page (image ∷ rest) lt below = elim (cases_eq image.0 n) [
  | inl e ↦ rw (eq-eqb image.0 n e) (lt, below.1)
  | inr ne ↦ rw (ne_eqb image.0 n ne) (below.0, below_with homes n page rest lt below.1)
]

-- a page of which an image was found
pub found_listed : (images : List Image) (n : ℕ) (o : Option ℕ) → is_some o ≡ true → IfSome o (λ k. k < length images)
    → ((image : Image) → IfSome o (λ k. slice_get images k ≡ Some image → image.0 ≡ n)) → IsListed n (pages_of images)
found_listed images n None is inside number = absurd (true≢false (sym is))
found_listed images n (Some k) is inside number =
    let image : Image = get_or images k (0, []) in
    let there : slice_get images k ≡ Some image = slice_get-get_or images k (0, []) inside in
    subst (λ m. IsListed m (pages_of images)) (number image there) (listed_image images k image there)
