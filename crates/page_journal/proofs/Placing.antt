-- Where the pages of the map stand.
use Rattle.std.proofs.Common.{◌≡◌, ◌≢◌, ◌<◌, ◌≤◌, ◌⊎◌, inl, inr, ⊎_elim, ℕ, suc, ◌+◌, ◌==◌, ◌++◌, not, true, false, List, [], ◌∷◌, length, flat_map, refl, sym, ◌∙◌, ap, subst, arith}
use Rattle.std.specs.List.{AllByRecursion, filter}
use Rattle.std.proofs.lemmas.Bool.{cases_eq, cond-true, cond-false}
use Rattle.std.proofs.lemmas.Bool.Decides.{nat_tests}
use Rattle.disk_models.specs.Octets.{octets}
use Rattle.disk_models.proofs.api.OctetLemmas.{octets_agree}
use Rattle.page_journal.specs.Layout.{Image, image_place, home_place, images, pages_of}
use Rattle.page_journal.specs.Recovers.{AreBelow, IsListed}
use Rattle.page_journal.specs.Bookkeeping.{HasImage, IsImage, IsOf, place_of, unhomed_numbers}
use Rattle.page_journal.specs.declared.unhomed.Unhomed.{Unhomed}
use Rattle.page_journal.proofs.RingLemmas.{among_listed, listed_among}

pub test_same : (m n : ℕ) → m ≡ n → (m == n) ≡ true
test_same m n is = grind (arith, nat_tests)

pub test_other : (m n : ℕ) → m ≢ n → (m == n) ≡ false
test_other m n ne = grind (arith, nat_tests)

pub place_here : (u : Unhomed) (rest : List Unhomed) (n : ℕ) → u.page ≡ n → place_of (u ∷ rest) n ≡ image_place u.slot u.image
place_here u rest n is = cond-true (u.page == n) (image_place u.slot u.image) (place_of rest n) (test_same u.page n is)

pub place_there : (u : Unhomed) (rest : List Unhomed) (n : ℕ) → u.page ≢ n → place_of (u ∷ rest) n ≡ place_of rest n
place_there u rest n ne = cond-false (u.page == n) (image_place u.slot u.image) (place_of rest n) (test_other u.page n ne)

pub listed_left : (ks ls : List ℕ) (n : ℕ) → IsListed n ks → IsListed n (ks ++ ls)
listed_left [] ls n h = absurd h
listed_left (k ∷ ks) ls n h = ⊎_elim (λ e. inl e) (λ there. inr (listed_left ks ls n there)) h

pub listed_right : (ks ls : List ℕ) (n : ℕ) → IsListed n ls → IsListed n (ks ++ ls)
listed_right [] ls n h = h
listed_right (k ∷ ks) ls n h = inr (listed_right ks ls n h)

pub pages-append : (first then : List Image) → pages_of (first ++ then) ≡ pages_of first ++ pages_of then
pages-append [] then = refl
pages-append (image ∷ first) then = ap (λ (l : List ℕ). image.0 ∷ l) (pages-append first then)

-- home, or an image in one of these slots
pub place_cases : (l : List Unhomed) (n : ℕ) (order : List ℕ) → AllByRecursion IsImage l → AllByRecursion (IsOf order) l
    → (place_of l n ≡ home_place n) ⊎ ((t : ℕ) × IsListed t order × (t < 8) × (image_place t 0 ≤ place_of l n) × (place_of l n + 16384 ≤ image_place t 31))
place_cases [] n order all of = inl refl
place_cases (u ∷ rest) n order all of = ⊎_elim
    (λ (is : u.page ≡ n).
    let place = place_here u rest n is in
    inr (u.slot, among_listed u.slot order of.0, all.0.slot, omega (arith, place, all.0.image), omega (arith, place, all.0.image)))
    (λ (ne : u.page ≡ n → ⊥).
    let place = place_there u rest n ne in
    ⊎_elim (λ h. inl (place ∙ h)) (λ there. inr (there.0, there.1, there.2, omega (arith, place, there.3), omega (arith, place, there.4))) (place_cases rest n order all.1 of.1))
    (cases_eq u.page n)

-- what is read at its place hangs on the home pages and on the images of these slots alone
pub place_same : (l : List Unhomed) (order : List ℕ) (f g : ℕ → ℕ) → AllByRecursion IsImage l → AllByRecursion (IsOf order) l → ((i : ℕ) → home_place 0 ≤ i → g i ≡ f i)
    → ((t : ℕ) → IsListed t order → (i : ℕ) → image_place t 0 ≤ i → i < image_place t 31 → g i ≡ f i) → (n : ℕ) → octets g (place_of l n) 16384 ≡ octets f (place_of l n) 16384
place_same l order f g all of home there n =
    let at = place_of l n in
    octets_agree g f at 16384 (λ i w. ⊎_elim
    (λ (is : at ≡ home_place n). home i (omega (arith, is, w.0)))
    (λ low. there low.0 low.1 i (omega (arith, low.3, w.0)) (omega (arith, low.4, w.1)))
    (place_cases l n order all of))

-- in more slots too
pub of_more : (order more : List ℕ) (l : List Unhomed) → ((t : ℕ) → IsListed t order → IsListed t more) → AllByRecursion (IsOf order) l → AllByRecursion (IsOf more) l
of_more order more [] goes all = tt
of_more order more (u ∷ l) goes all = (listed_among u.slot more (goes u.slot (among_listed u.slot order all.0)), of_more order more l goes all.1)

-- an image of each page that isn't home, among those of these slots
pub images_listed : (f : ℕ → ℕ) (order : List ℕ) (t n : ℕ) → IsListed t order → IsListed n (pages_of (images f t)) → IsListed n (pages_of (flat_map (images f) order))
images_listed f [] t n listed has = absurd listed
images_listed f (u ∷ order) t n listed has = subst (IsListed n) (sym (pages-append (images f u) (flat_map (images f) order))) (⊎_elim
    (λ (e : t ≡ u). listed_left (pages_of (images f u)) (pages_of (flat_map (images f) order)) n (subst (λ v. IsListed n (pages_of (images f v))) e has))
    (λ there. listed_right (pages_of (images f u)) (pages_of (flat_map (images f) order)) n (images_listed f order t n there has))
    listed)

pub covered_listed : (f : ℕ → ℕ) (order : List ℕ) (l : List Unhomed) → AllByRecursion (IsOf order) l → AllByRecursion (HasImage f) l → (n : ℕ) → IsListed n (unhomed_numbers l) → IsListed n (pages_of (flat_map (images f) order))
covered_listed f order [] of all n listed = absurd listed
covered_listed f order (u ∷ l) of all n listed = ⊎_elim
    (λ (e : n ≡ u.page). images_listed f order u.slot n (among_listed u.slot order of.0) (subst (λ m. IsListed m (pages_of (images f u.slot))) (sym e) all.0))
    (λ there. covered_listed f order l of.1 all.1 n there)
    listed

-- where those slots have the same images
pub has_same : (f g : ℕ → ℕ) (order : List ℕ) (l : List Unhomed) → ((t : ℕ) → IsListed t order → images g t ≡ images f t) → AllByRecursion (IsOf order) l → AllByRecursion (HasImage f) l → AllByRecursion (HasImage g) l
has_same f g order [] same of all = tt
has_same f g order (u ∷ l) same of all = (
  subst (λ (is : List Image). IsListed u.page (pages_of is)) (sym (same u.slot (among_listed u.slot order of.0))) all.0,
  has_same f g order l same of.1 all.1,
)

-- home, or among the images of these slots
pub home_or_image : (f : ℕ → ℕ) (order : List ℕ) (l : List Unhomed) (n : ℕ) → AllByRecursion (IsOf order) l → AllByRecursion (HasImage f) l → ¬ IsListed n (pages_of (flat_map (images f) order)) → place_of l n ≡ home_place n
home_or_image f order [] n of all out = refl
home_or_image f order (u ∷ l) n of all out = ⊎_elim
    (λ (is : u.page ≡ n). absurd (out (covered_listed f order (u ∷ l) of all n (inl (sym is)))))
    (λ (ne : u.page ≡ n → ⊥). place_there u l n ne ∙ home_or_image f order l n of.1 all.1 out)
    (cases_eq u.page n)

-- the other entries, without those of one page
abbrev pub others : ℕ → List Unhomed → List Unhomed
others n l = filter (λ (u : Unhomed). not (u.page == n)) l

pub others_here : (n : ℕ) (u : Unhomed) (l : List Unhomed) → u.page ≡ n → others n (u ∷ l) ≡ others n l
others_here n u l is = cond-false (not (u.page == n)) (u ∷ others n l) (others n l) (ap not (test_same u.page n is))

pub others_there : (n : ℕ) (u : Unhomed) (l : List Unhomed) → u.page ≢ n → others n (u ∷ l) ≡ u ∷ others n l
others_there n u l ne = cond-true (not (u.page == n)) (u ∷ others n l) (others n l) (ap not (test_other u.page n ne))

-- that page is home then
pub place_forgotten : (l : List Unhomed) (n : ℕ) → place_of (others n l) n ≡ home_place n
place_forgotten [] n = refl
place_forgotten (u ∷ l) n = ⊎_elim
    (λ (is : u.page ≡ n). ap (λ (k : List Unhomed). place_of k n) (others_here n u l is) ∙ place_forgotten l n)
    (λ (ne : u.page ≡ n → ⊥). ap (λ (k : List Unhomed). place_of k n) (others_there n u l ne) ∙ place_there u (others n l) n ne ∙ place_forgotten l n)
    (cases_eq u.page n)

-- and the others stand where they stood
pub place_kept : (l : List Unhomed) (n m : ℕ) → m ≢ n → place_of (others n l) m ≡ place_of l m
place_kept [] n m apart = refl
place_kept (u ∷ l) n m apart = ⊎_elim
    (λ (is : u.page ≡ n). ap (λ (k : List Unhomed). place_of k m) (others_here n u l is) ∙ place_kept l n m apart ∙ sym (place_there u l m (λ e. apart (sym e ∙ is))))
    (λ (ne : u.page ≡ n → ⊥). ap (λ (k : List Unhomed). place_of k m) (others_there n u l ne) ∙ ⊎_elim
    (λ (is : u.page ≡ m). place_here u (others n l) m is ∙ sym (place_here u l m is))
    (λ (no : u.page ≡ m → ⊥). place_there u (others n l) m no ∙ place_kept l n m apart ∙ sym (place_there u l m no))
    (cases_eq u.page m))
    (cases_eq u.page n)

-- one of the others was there before
pub listed_before : (l : List Unhomed) (n m : ℕ) → IsListed m (unhomed_numbers (others n l)) → IsListed m (unhomed_numbers l)
listed_before [] n m h = h
listed_before (u ∷ l) n m h = ⊎_elim
    (λ (is : u.page ≡ n). inr (listed_before l n m (subst (λ (k : List Unhomed). IsListed m (unhomed_numbers k)) (others_here n u l is) h)))
    (λ (ne : u.page ≡ n → ⊥).
    let h' : IsListed m (unhomed_numbers (u ∷ others n l)) = subst (λ (k : List Unhomed). IsListed m (unhomed_numbers k)) (others_there n u l ne) h in
    ⊎_elim (λ e. inl e) (λ there. inr (listed_before l n m there)) h')
    (cases_eq u.page n)

pub all_others : (P : Unhomed → Type 0) (l : List Unhomed) (n : ℕ) → AllByRecursion P l → AllByRecursion P (others n l)
all_others P [] n all = tt
all_others P (u ∷ l) n all = ⊎_elim
    (λ (is : u.page ≡ n). subst (AllByRecursion P) (sym (others_here n u l is)) (all_others P l n all.1))
    (λ (ne : u.page ≡ n → ⊥). let both : AllByRecursion P (u ∷ others n l) = (all.0, all_others P l n all.1) in subst (AllByRecursion P) (sym (others_there n u l ne)) both)
    (cases_eq u.page n)

-- the numbers that are left
pub numbers_others : (l : List Unhomed) (n : ℕ) → unhomed_numbers (others n l) ≡ filter (λ m. not (m == n)) (unhomed_numbers l)
numbers_others [] n = refl
numbers_others (u ∷ l) n = ⊎_elim
    (λ (is : u.page ≡ n). ap unhomed_numbers (others_here n u l is) ∙ numbers_others l n ∙ sym (cond-false (not (u.page == n)) (u.page ∷ filter (λ m. not (m == n)) (unhomed_numbers l)) (filter (λ m. not (m == n)) (unhomed_numbers l)) (ap not (test_same u.page n is))))
    (λ (ne : u.page ≡ n → ⊥). ap unhomed_numbers (others_there n u l ne) ∙ ap (λ (k : List ℕ). u.page ∷ k) (numbers_others l n) ∙ sym (cond-true (not (u.page == n)) (u.page ∷ filter (λ m. not (m == n)) (unhomed_numbers l)) (filter (λ m. not (m == n)) (unhomed_numbers l)) (ap not (test_other u.page n ne))))
    (cases_eq u.page n)

pub length-unhomed_numbers : (l : List Unhomed) → length (unhomed_numbers l) ≡ length l
length-unhomed_numbers [] = refl
length-unhomed_numbers (u ∷ l) = ap suc (length-unhomed_numbers l)

-- no number, no entry
pub none_unhomed : (l : List Unhomed) → unhomed_numbers l ≡ [] → l ≡ []
none_unhomed [] none = refl
none_unhomed (u ∷ l) none = absurd (omega (arith, ap (length {A = ℕ}) none))

pub not_among : (n : ℕ) (ns : List ℕ) → AllByRecursion (λ m. n ≢ m) ns → ¬ IsListed n ns
not_among n [] all listed = listed
not_among n (m ∷ ns) all listed = ⊎_elim (λ e. all.0 e) (λ there. not_among n ns all.1 there) listed

-- a number that isn't among them isn't dropped
pub none_listed : (ns : List ℕ) (n : ℕ) → ¬ IsListed n ns → ns ≡ filter (λ m. not (m == n)) ns
none_listed [] n none = refl
none_listed (m ∷ ns) n none =
    ap (λ (l : List ℕ). m ∷ l) (none_listed ns n (λ there. none (inr there)))
    ∙ sym (cond-true (not (m == n)) (m ∷ filter (λ k. not (k == n)) ns) (filter (λ k. not (k == n)) ns) (ap not (test_other m n (λ e. none (inl (sym e))))))

pub no_numbers : (ns : List ℕ) → length ns ≡ 0 → ns ≡ []
no_numbers [] none = refl
no_numbers (n ∷ ns) none = absurd (omega (arith, none))

pub listed_below : (homes : ℕ) (ns : List ℕ) (n : ℕ) → AreBelow homes ns → IsListed n ns → n < homes
listed_below homes [] n below listed = absurd listed
listed_below homes (m ∷ ns) n below listed = ⊎_elim (λ (e : n ≡ m). omega (arith, e, below.0)) (λ there. listed_below homes ns n below.1 there) listed

pub below_each : (homes : ℕ) (ns : List ℕ) → ((n : ℕ) → IsListed n ns → n < homes) → AreBelow homes ns
below_each homes [] each = tt
below_each homes (m ∷ ns) each = (each m (inl refl), below_each homes ns (λ n there. each n (inr there)))
