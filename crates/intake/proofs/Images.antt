-- Images of a ring's pages, each under its number.
use Rattle.std.proofs.Common.{◌≡◌, ◌≢◌, ◌⊎◌, ◌<◌, ◌≤◌, ℕ, zero, suc, ◌+◌, ◌-◌, ◌*◌, List, [], ◌∷◌, ◌++◌, length, get_or, set, refl, sym, ◌∙◌, ap, subst, cond, not, arith, inl, inr, Some, length-append}
use Rattle.std.specs.List.{AllByRecursion, slice_get}
use Rattle.std.proofs.lemmas.Bool.{cases_lt, lt-ltb, le-ltb}
use Rattle.std.proofs.lemmas.List.Filters.{length-filter_both}
use Rattle.page_journal.specs.Bookkeeping.{is_among, without}
use Rattle.page_journal.specs.Layout.{Image, pages_of}
use Rattle.page_journal.specs.Recovers.{laid, AreBelow, AreDistinct}
use Rattle.page_tx.specs.Images.{joined}
use Rattle.page_tx.specs.inner.Laid.{length_laid}
use Rattle.page_tx.proofs.api.Laid.{laid_apart, shown_other}
use Rattle.intake.specs.declared.ring.Ring.{Ring}
use Rattle.intake.specs.Ring.{wrapped, ChangesOnly}
use Rattle.intake.specs.inner.Drafts.{numbers_from, image_of, AreFrom}
use Rattle.intake.proofs.Wrapping.{wrapped_is}

-- ---- one image in place of another of its page

set_twice : {X : Type 0} (l : List X) (n : ℕ) (x y : X) → set (set l n x) n y ≡ set l n y
set_twice [] n x y = refl
set_twice (z ∷ l) zero x y = refl
set_twice (z ∷ l) (suc n) x y = ap (λ k. z ∷ k) (set_twice l n x y)

pub laid_set : (images : List Image) (k n : ℕ) (page old : List ℕ) (pages : List (List ℕ)) → AreDistinct (pages_of images) → slice_get images k ≡ Some (n, old) → laid (set images k (n, page)) pages ≡ set (laid images pages) n page
laid_set [] k n page old pages d e = cc
laid_set (image ∷ rest) zero n page old pages d e =
    let same : image ≡ (n, old) = cc in
    let number : image.0 ≡ n = ap (λ (i : Image). i.0) same in
    let apart = subst (λ m. AllByRecursion (λ other. m ≡ other → ⊥) (pages_of rest)) number d.0 in
    laid_apart n page rest pages apart
    ∙ (sym (set_twice (laid rest pages) n image.1 page)
    ∙ (ap (λ (l : List (List ℕ)). set l n page) (sym (laid_apart n image.1 rest pages apart))
    ∙ ap (λ m. set (laid rest (set pages m image.1)) n page) (sym number)))
laid_set (image ∷ rest) (suc k) n page old pages d e = laid_set rest k n page old (set pages image.0 image.1) d.1 e

pub pages_of_set : (images : List Image) (k n : ℕ) (page old : List ℕ) → slice_get images k ≡ Some (n, old) → pages_of (set images k (n, page)) ≡ pages_of images
pages_of_set [] k n page old e = refl
pages_of_set (image ∷ rest) zero n page old e = let same : image ≡ (n, old) = cc in ap (λ (i : Image). i.0 ∷ pages_of rest) (sym same)
pages_of_set (image ∷ rest) (suc k) n page old e = ap (λ (l : List ℕ). image.0 ∷ l) (pages_of_set rest k n page old e)

pub length_pages_of : (images : List Image) → length (pages_of images) ≡ length images
length_pages_of [] = refl
length_pages_of (image ∷ rest) = ap suc (length_pages_of rest)

pub number_at : (images : List Image) (k : ℕ) (image : Image) → slice_get images k ≡ Some image → get_or (pages_of images) k 0 ≡ image.0
number_at [] k image e = cc
number_at (x ∷ rest) zero image e = let same : x ≡ image = cc in ap (λ (i : Image). i.0) same
number_at (x ∷ rest) (suc k) image e = number_at rest k image e

pages_of_push : (images : List Image) (n : ℕ) (page : List ℕ) → pages_of (images ++ (n, page) ∷ []) ≡ pages_of images ++ n ∷ []
pages_of_push [] n page = refl
pages_of_push (image ∷ rest) n page = ap (λ (l : List ℕ). image.0 ∷ l) (pages_of_push rest n page)

pub laid_push : (images : List Image) (n : ℕ) (page : List ℕ) (pages : List (List ℕ)) → laid (images ++ (n, page) ∷ []) pages ≡ set (laid images pages) n page
laid_push [] n page pages = refl
laid_push (image ∷ rest) n page pages = laid_push rest n page (set pages image.0 image.1)

-- ---- the numbers of a ring's pages

pub length_numbers : (low count page n : ℕ) → length (numbers_from low count page n) ≡ n
length_numbers low count page zero = refl
length_numbers low count page (suc n) = ap suc (length_numbers low count (suc page) n)

numbers_push : (low count page n : ℕ) → numbers_from low count page n ++ (low + wrapped count (page + n)) ∷ [] ≡ numbers_from low count page (suc n)
numbers_push low count page zero = ap (λ m. (low + wrapped count m) ∷ []) (omega arith)
numbers_push low count page (suc n) =
    let rest = ap (λ (l : List ℕ). (low + wrapped count page) ∷ l) (numbers_push low count (suc page) n) in
    ap (λ m. (low + wrapped count page) ∷ (numbers_from low count (suc page) n ++ (low + wrapped count m) ∷ [])) (omega arith) ∙ rest

pub numbers_more : (low count page n : ℕ) (images : List Image) (image : List ℕ) → pages_of images ≡ numbers_from low count page n → pages_of (images ++ (low + wrapped count (page + n), image) ∷ []) ≡ numbers_from low count page (suc n)
numbers_more low count page n images image are = pages_of_push images (low + wrapped count (page + n)) image ∙ (ap (λ (l : List ℕ). l ++ (low + wrapped count (page + n)) ∷ []) are ∙ numbers_push low count page n)

pub numbers_at : (low count page n k : ℕ) → k < n → get_or (numbers_from low count page n) k 0 ≡ low + wrapped count (page + k)
numbers_at low count page zero k lt = absurd (omega arith)
numbers_at low count page (suc n) zero lt = ap (λ m. low + wrapped count m) (omega arith)
numbers_at low count page (suc n) (suc k) lt = numbers_at low count (suc page) n k (omega arith) ∙ ap (λ m. low + wrapped count m) (omega arith)

apart_from : (low count page first n : ℕ) → first < page → page + n ≤ first + count → first < 2 * count → AllByRecursion (λ other. low + wrapped count first ≢ other) (numbers_from low count page n)
apart_from low count page first zero lt few small = tt
apart_from low count page first (suc n) lt few small = (apart, apart_from low count (suc page) first n (omega arith) (omega arith) small)
  where
    apart : low + wrapped count first ≢ low + wrapped count page
    apart e = elim (wrapped_is count first) [
      | inl v ↦ let v0 = v.0 in let v1 = v.1 in elim (wrapped_is count page) [ inl w ↦ let w1 = w.1 in absurd (omega (arith, e)) | inr w ↦ let w1 = w.1 in absurd (omega (arith, e)) ]
      | inr v ↦ let v0 = v.0 in let v1 = v.1 in elim (wrapped_is count page) [ inl w ↦ let w0 = w.0 in absurd (omega (arith, e)) | inr w ↦ let w1 = w.1 in absurd (omega (arith, e)) ]
    ]

distinct_from : (low count page n : ℕ) → page + n ≤ 2 * count → n ≤ count → AreDistinct (numbers_from low count page n)
distinct_from low count page zero two few = tt
distinct_from low count page (suc n) two few = (apart_from low count (suc page) page n (omega arith) (omega arith) (omega arith), distinct_from low count (suc page) n (omega arith) (omega arith))

below_from : (low count page n homes : ℕ) → page + n ≤ 2 * count → low + count ≤ homes → AreBelow homes (numbers_from low count page n)
below_from low count page zero homes two inside = tt
below_from low count page (suc n) homes two inside = (one, below_from low count (suc page) n homes (omega arith) inside)
  where
    one : low + wrapped count page < homes
    one = elim (wrapped_is count page) [ inl w ↦ let w0 = w.0 in let w1 = w.1 in omega arith | inr w ↦ let w1 = w.1 in omega arith ]

above_from : (low count page n m : ℕ) → page + n ≤ 2 * count → (m < low) ⊎ (low + count ≤ m) → AllByRecursion (λ other. m ≢ other) (numbers_from low count page n)
above_from low count page zero m two out = tt
above_from low count page (suc n) m two out = (one, above_from low count (suc page) n m (omega arith) out)
  where
    one : m ≢ low + wrapped count page
    one e = elim (wrapped_is count page) [
      | inl w ↦ let w0 = w.0 in let w1 = w.1 in elim out [ inl l ↦ absurd (omega (arith, e)) | inr g ↦ absurd (omega (arith, e)) ]
      | inr w ↦ let w1 = w.1 in elim out [ inl l ↦ absurd (omega (arith, e)) | inr g ↦ absurd (omega (arith, e)) ]
    ]

pub are_distinct : (low count begun : ℕ) (ns : List ℕ) → begun < count → AreFrom low count begun ns → AreDistinct ns
are_distinct low count begun ns lt a = let few = a.few in subst AreDistinct (sym a.are) (distinct_from low count begun (length ns) (omega arith) few)

pub are_below : (low count begun homes : ℕ) (ns : List ℕ) → begun < count → low + count ≤ homes → AreFrom low count begun ns → AreBelow homes ns
are_below low count begun homes ns lt inside a = let few = a.few in subst (AreBelow homes) (sym a.are) (below_from low count begun (length ns) homes (omega arith) inside)

-- only pages of the ring are changed
pub laid_changes : (ring : Ring) (begun : ℕ) (images : List Image) (pages : List (List ℕ)) → begun < ring.count → AreFrom ring.low ring.count begun (pages_of images) → ChangesOnly ring pages (laid images pages)
laid_changes ring begun images pages lt a =
    let ns = pages_of images in
    let few = a.few in
    let out = λ (m : ℕ) (o : (m < ring.low) ⊎ (ring.low + ring.count ≤ m)). subst (AllByRecursion (λ other. m ≢ other)) (sym a.are) (above_from ring.low ring.count begun (length ns) m (omega arith) o) in
    record {
      count = length_laid images pages;
      below = λ m l. shown_other m images pages (out m (inl l));
      above = λ m g. shown_other m images pages (out m (inr g));
    }

-- the image of a page has the page's number
pub image_number : (low count begun page : ℕ) → begun < count → page < count → low + wrapped count (begun + image_of count begun page) ≡ low + page
image_number low count begun page lt below = elim (cases_lt page begun) [
  | inl l ↦
      let k : image_of count begun page ≡ page + count - begun = ap (λ b. cond b (page + count - begun) (page - begun)) (lt-ltb page begun l) in
      elim (wrapped_is count (begun + image_of count begun page)) [ inl w ↦ let w0 = w.0 in absurd (omega (arith, k)) | inr w ↦ let w1 = w.1 in omega (arith, k) ]
  | inr g ↦
      let k : image_of count begun page ≡ page - begun = ap (λ b. cond b (page + count - begun) (page - begun)) (le-ltb page begun g) in
      elim (wrapped_is count (begun + image_of count begun page)) [ inl w ↦ let w1 = w.1 in omega (arith, k) | inr w ↦ let w0 = w.0 in absurd (omega (arith, k)) ]
]

pub are_from : (low count begun n : ℕ) (ns : List ℕ) → ns ≡ numbers_from low count begun n → n ≤ count → AreFrom low count begun ns
are_from low count begun n ns is few =
    let len : length ns ≡ n = ap length is ∙ length_numbers low count begun n in
    record { few = omega (arith, len); are = is ∙ ap (numbers_from low count begun) (sym len) }

-- ---- of how many pages images are held

without_few : (ns old : List ℕ) → length (without ns old) ≤ length old
without_few ns old = let both = length-filter_both (λ n. not (is_among n ns)) (λ n. not (not (is_among n ns))) (λ n. refl) old in omega arith

pub joined_few : (held : List ℕ) (images : List Image) → length (joined held (pages_of images)) ≤ length held + length images
joined_few held images =
    let ns = pages_of images in
    let a = length-append held (without held ns) in
    let b = without_few held ns in
    let c = length_pages_of images in
    omega arith
