-- Of which pages images are held, after one or several are laid.
use Rattle.std.proofs.Common.{◌≡◌, ◌≤◌, ◌+◌, ◌==◌, not, ℕ, true, false, List, [], ◌∷◌, ◌++◌, length, refl, sym, ◌∙◌, ap, subst, arith, ◌⊎◌, inl, inr, ⊎_elim, append_assoc, length-append, filter}
use Rattle.std.specs.List.{AllByRecursion}
use Rattle.std.proofs.lemmas.Bool.{cases_eq, cond-true, cond-false, eq-eqb, ne_eqb}
use Rattle.std.proofs.lemmas.List.{append-nil}
use Rattle.page_journal.specs.Bookkeeping.{is_among, without}
use Rattle.page_journal.specs.Layout.{Image, pages_of}
use Rattle.page_journal.specs.Recovers.{laid, AreBelow, AreDistinct, IsListed}
use Rattle.page_tx.specs.Images.{joined}
use Rattle.page_tx.specs.inner.Placing.{with_image, with_images}
use Rattle.page_tx.proofs.Laying.{below_with, distinct_with, laid_with, length_pages_of, not_listed}

pub among_cases : (n : ℕ) (ns : List ℕ) → (IsListed n ns × (is_among n ns ≡ true)) ⊎ (AllByRecursion (λ other. n ≡ other → ⊥) ns × (is_among n ns ≡ false))
among_cases n [] = inr (tt, refl)
among_cases n (m ∷ ns) = ⊎_elim
    (λ (is : m ≡ n). inl (inl (sym is), cond-true (m == n) true (is_among n ns) (eq-eqb m n is)))
    (λ (ne : m ≡ n → ⊥).
    let rest : is_among n (m ∷ ns) ≡ is_among n ns = cond-false (m == n) true (is_among n ns) (ne_eqb m n ne) in
    ⊎_elim (λ yes. inl (inr yes.0, rest ∙ yes.1)) (λ no. inr (((λ e. ne (sym e)), no.0), rest ∙ no.1)) (among_cases n ns))
    (cases_eq m n)

-- what is left out, and what is taken
pub without_here : (n : ℕ) (hs ns : List ℕ) → is_among n hs ≡ true → without hs (n ∷ ns) ≡ without hs ns
without_here n hs ns is = cond-false (not (is_among n hs)) (n ∷ without hs ns) (without hs ns) (ap not is)

pub without_new : (n : ℕ) (hs ns : List ℕ) → is_among n hs ≡ false → without hs (n ∷ ns) ≡ n ∷ without hs ns
without_new n hs ns is = cond-true (not (is_among n hs)) (n ∷ without hs ns) (without hs ns) (ap not is)

among_push : (m n : ℕ) (hs : List ℕ) → (n ≡ m → ⊥) → is_among m (hs ++ n ∷ []) ≡ is_among m hs
among_push m n [] ne = cond-false (n == m) true false (ne_eqb n m ne)
among_push m n (h ∷ hs) ne = elim (cases_eq h m) [
  | inl e ↦ rw (eq-eqb h m e) refl
  | inr other ↦ rw (ne_eqb h m other) (among_push m n hs ne)
]

without_push : (n : ℕ) (hs ns : List ℕ) → AllByRecursion (λ other. n ≡ other → ⊥) ns → without (hs ++ n ∷ []) ns ≡ without hs ns
without_push n hs [] a = refl
without_push n hs (m ∷ ns) a =
    let rest = without_push n hs ns a.1 in
    let same = among_push m n hs a.0 in
    ⊎_elim
    (λ yes. without_here m (hs ++ n ∷ []) ns (same ∙ yes.1) ∙ rest ∙ sym (without_here m hs ns yes.1))
    (λ no. without_new m (hs ++ n ∷ []) ns (same ∙ no.1) ∙ ap (λ (l : List ℕ). m ∷ l) rest ∙ sym (without_new m hs ns no.1))
    (among_cases m hs)

joined_here : (n : ℕ) (hs : List ℕ) → is_among n hs ≡ true → joined hs (n ∷ []) ≡ hs
joined_here n hs is = ap (λ (l : List ℕ). hs ++ l) (without_here n hs [] is) ∙ append-nil hs

joined_new : (n : ℕ) (hs : List ℕ) → is_among n hs ≡ false → joined hs (n ∷ []) ≡ hs ++ n ∷ []
joined_new n hs is = ap (λ (l : List ℕ). hs ++ l) (without_new n hs [] is)

-- one after another
joined_then : (n : ℕ) (hs ns : List ℕ) → AllByRecursion (λ other. n ≡ other → ⊥) ns → joined (joined hs (n ∷ [])) ns ≡ joined hs (n ∷ ns)
joined_then n hs ns a = ⊎_elim
    (λ yes. ap (λ (l : List ℕ). joined l ns) (joined_here n hs yes.1) ∙ ap (λ (l : List ℕ). hs ++ l) (sym (without_here n hs ns yes.1)))
    (λ no.
    ap (λ (l : List ℕ). joined l ns) (joined_new n hs no.1)
    ∙ ap (λ (l : List ℕ). (hs ++ n ∷ []) ++ l) (without_push n hs ns a)
    ∙ append_assoc hs (n ∷ []) (without hs ns)
    ∙ ap (λ (l : List ℕ). hs ++ l) (sym (without_new n hs ns no.1)))
    (among_cases n hs)

joined_below : (m n : ℕ) (ns : List ℕ) → (m ≡ n → ⊥) → joined (m ∷ ns) (n ∷ []) ≡ m ∷ joined ns (n ∷ [])
joined_below m n ns ne = ap (λ b. m ∷ (ns ++ filter (λ k. not b) (n ∷ []))) (cond-false (m == n) true (is_among n ns) (ne_eqb m n ne))

pub numbers_with : (n : ℕ) (page : List ℕ) (images : List Image) → pages_of (with_image n page images) ≡ joined (pages_of images) (n ∷ [])
numbers_with n page [] = refl
numbers_with n page (image ∷ rest) = elim (cases_eq image.0 n) [
  | inl e ↦
      let there : is_among n (image.0 ∷ pages_of rest) ≡ true = cond-true (image.0 == n) true (is_among n (pages_of rest)) (eq-eqb image.0 n e) in
      rw (eq-eqb image.0 n e) (ap (λ m. m ∷ pages_of rest) (sym e)) ∙ sym (joined_here n (image.0 ∷ pages_of rest) there)
  | inr ne ↦ rw (ne_eqb image.0 n ne) (ap (λ l. image.0 ∷ l) (numbers_with n page rest)) ∙ sym (joined_below image.0 n (pages_of rest) ne)
]

pub numbers_withs : (images held : List Image) → AreDistinct (pages_of images) → pages_of (with_images images held) ≡ joined (pages_of held) (pages_of images)
numbers_withs [] held d = sym (append-nil (pages_of held))
numbers_withs (image ∷ rest) held d =
    numbers_withs rest (with_image image.0 image.1 held) d.1
    ∙ ap (λ (l : List ℕ). joined l (pages_of rest)) (numbers_with image.0 image.1 held)
    ∙ joined_then image.0 (pages_of held) (pages_of rest) d.0

pub distinct_withs : (images held : List Image) → AreDistinct (pages_of held) → AreDistinct (pages_of (with_images images held))
distinct_withs [] held d = d
distinct_withs (image ∷ rest) held d = distinct_withs rest (with_image image.0 image.1 held) (distinct_with image.0 image.1 held d)

pub below_withs : (homes : ℕ) (images held : List Image) → AreBelow homes (pages_of images) → AreBelow homes (pages_of held) → AreBelow homes (pages_of (with_images images held))
below_withs homes [] held new old = old
below_withs homes (image ∷ rest) held new old = below_withs homes rest (with_image image.0 image.1 held) new.1 (below_with homes image.0 image.1 held new.0 old)

-- what is shown with them
pub laid_withs : (images held : List Image) (pages : List (List ℕ)) → AreDistinct (pages_of held) → laid (with_images images held) pages ≡ laid images (laid held pages)
laid_withs [] held pages d = refl
laid_withs (image ∷ rest) held pages d =
    laid_withs rest (with_image image.0 image.1 held) pages (distinct_with image.0 image.1 held d)
    ∙ ap (laid rest) (laid_with image.0 image.1 held pages d)

pub length_joined : (hs ns : List ℕ) → length (joined hs ns) ≡ length (without hs ns) + length hs
length_joined hs ns = let l = length-append hs (without hs ns) in omega (arith, l)

-- an image of a page of which one is held
pub joined_listed : (n : ℕ) (hs : List ℕ) → IsListed n hs → joined hs (n ∷ []) ≡ hs
joined_listed n hs listed = ⊎_elim (λ yes. joined_here n hs yes.1) (λ no. absurd (not_listed n hs no.0 listed)) (among_cases n hs)

-- how many images more are held
pub length_joined_images : (held new : List Image) (k : ℕ) → k ≡ length (without (pages_of held) (pages_of new)) → length (joined (pages_of held) (pages_of new)) ≡ k + length held
length_joined_images held new k is = let a = length_joined (pages_of held) (pages_of new) in let b = length_pages_of held in omega (arith, a, b, is)

pub length_joined_image : (held : List Image) (n k : ℕ) → k ≡ length (without (pages_of held) (n ∷ [])) → length (joined (pages_of held) (n ∷ [])) ≡ k + length held
length_joined_image held n k is = let a = length_joined (pages_of held) (n ∷ []) in let b = length_pages_of held in omega (arith, a, b, is)

-- no image goes
longer_with : (n : ℕ) (page : List ℕ) (images : List Image) → length images ≤ length (with_image n page images)
longer_with n page [] = omega arith
longer_with n page (image ∷ rest) = elim (cases_eq image.0 n) [
  | inl same ↦ rw (eq-eqb image.0 n same) (omega arith)
  | inr ne ↦ rw (ne_eqb image.0 n ne) (let ih = longer_with n page rest in omega arith)
]

pub length_withs : (images held : List Image) → length held ≤ length (with_images images held)
length_withs [] held = omega arith
length_withs (image ∷ rest) held = let ih = length_withs rest (with_image image.0 image.1 held) in let one = longer_with image.0 image.1 held in omega (arith, ih, one)

pub listed_among : (n : ℕ) (ns : List ℕ) → IsListed n ns → is_among n ns ≡ true
listed_among n ns listed = ⊎_elim (λ yes. yes.1) (λ no. absurd (not_listed n ns no.0 listed)) (among_cases n ns)

-- a page that is named stays so where others are joined
listed_first : (n : ℕ) (ns others : List ℕ) → IsListed n ns → IsListed n (ns ++ others)
listed_first n [] others listed = absurd listed
listed_first n (m ∷ ns) others listed = ⊎_elim (λ same. inl same) (λ later. inr (listed_first n ns others later)) listed

pub listed_joined : (n : ℕ) (hs ns now : List ℕ) → now ≡ joined hs ns → IsListed n hs → IsListed n now
listed_joined n hs ns now is listed = subst (IsListed n) (sym is) (listed_first n hs (without hs ns) listed)
