-- The entries of pages that aren't home, after a post.
use Rattle.std.proofs.Common.{◌≡◌, ◌<◌, ◌≤◌, ◌⊎◌, inl, inr, ⊎_elim, ℕ, zero, suc, ◌+◌, ◌==◌, ◌++◌, not, true, false, List, [], ◌∷◌, length, take, drop, set, get_or, refl, sym, ◌∙◌, ap, arith, append_assoc, Some}
use Rattle.std.specs.List.{AllByRecursion, slice_get}
use Rattle.std.proofs.lemmas.Bool.{cases_eq, cond-true, cond-false, eq-eqb, ne_eqb}
use Rattle.std.proofs.lemmas.List.{append-nil, length-set, get_or-set_same, get_or-set_other}
use Rattle.std.proofs.lemmas.Option.{slice_get-get_or}
use Rattle.disk_models.specs.Octets.{octets}
use Rattle.page_journal.specs.Layout.{Image, pages_of}
use Rattle.page_journal.specs.inner.Writing.{HasImages}
use Rattle.page_journal.specs.inner.Entering.{unhomed_after, with_entry}
use Rattle.page_journal.specs.Recovers.{laid, AreDistinct, IsListed}
use Rattle.page_journal.specs.Bookkeeping.{IsImage, IsOf, is_among, place_of, unhomed_numbers, without}
use Rattle.page_journal.specs.declared.unhomed.Unhomed.{Unhomed}
use Rattle.page_journal.proofs.RingLemmas.{listed_among}
use Rattle.page_journal.proofs.Placing.{of_more, place_here, place_there}

-- ---- one entry

set_split : {X : Type 0} (l : List X) (k : ℕ) (y : X) → k < length l → set l k y ≡ take k l ++ y ∷ drop (suc k) l
set_split [] k y lt = absurd (omega arith)
set_split (z ∷ l) zero y lt = refl
set_split (z ∷ l) (suc k) y lt = ap (λ m. z ∷ m) (set_split l k y (omega arith))

split_at : {X : Type 0} (l : List X) (k : ℕ) (d : X) → k < length l → drop k l ≡ get_or l k d ∷ drop (suc k) l
split_at [] k d lt = absurd (omega arith)
split_at (z ∷ l) zero d lt = refl
split_at (z ∷ l) (suc k) d lt = split_at l k d (omega arith)

-- an older one is found
pub entry_found : (v : Unhomed) (k : ℕ) (l : List Unhomed) (d : Unhomed) → k < length l → (get_or l k d).page ≡ v.page → take k l ++ with_entry v (drop k l) ≡ with_entry v l → set l k v ≡ with_entry v l
entry_found v k l d lt same before =
    set_split l k v lt ∙ (ap (λ (r : List Unhomed). take k l ++ r) (sym (ap (with_entry v) (split_at l k d lt) ∙ rw (eq-eqb (get_or l k d).page v.page same) refl)) ∙ before)

-- its page stands there, and the others where they stood
place_with : (v : Unhomed) (l : List Unhomed) (n : ℕ) → place_of (with_entry v l) n ≡ place_of (v ∷ l) n
place_with v [] n = refl
place_with v (u ∷ l) n = elim (cases_eq u.page v.page) [
  | inl e ↦ rw (eq-eqb u.page v.page e) (⊎_elim
      (λ (is : v.page ≡ n). place_here v l n is ∙ sym (place_here v (u ∷ l) n is))
      (λ (no : v.page ≡ n → ⊥). place_there v l n no ∙ sym (place_there v (u ∷ l) n no ∙ place_there u l n (λ is. no (sym e ∙ is))))
      (cases_eq v.page n))
  | inr ne ↦ rw (ne_eqb u.page v.page ne) (⊎_elim
      (λ (is : u.page ≡ n). place_here u (with_entry v l) n is ∙ sym (place_there v (u ∷ l) n (λ other. ne (is ∙ sym other)) ∙ place_here u l n is))
      (λ (no : u.page ≡ n → ⊥). place_there u (with_entry v l) n no ∙ place_with v l n ∙ ⊎_elim
      (λ (is : v.page ≡ n). place_here v l n is ∙ sym (place_here v (u ∷ l) n is))
      (λ (other : v.page ≡ n → ⊥). place_there v l n other ∙ sym (place_there v (u ∷ l) n other ∙ place_there u l n no))
      (cases_eq v.page n))
      (cases_eq u.page n))
]

all_with : (P : Unhomed → Type 0) (v : Unhomed) (l : List Unhomed) → P v → AllByRecursion P l → AllByRecursion P (with_entry v l)
all_with P v [] new all = (new, tt)
all_with P v (u ∷ l) new all = elim (cases_eq u.page v.page) [
  | inl e ↦ rw (eq-eqb u.page v.page e) (new, all.1)
  | inr ne ↦ rw (ne_eqb u.page v.page ne) (all.0, all_with P v l new all.1)
]

-- ---- the numbers

among_cases : (n : ℕ) (ns : List ℕ) → (is_among n ns ≡ true) ⊎ (is_among n ns ≡ false)
among_cases n [] = inr refl
among_cases n (m ∷ ns) = elim (cases_eq m n) [
  | inl e ↦ inl (cond-true (m == n) true (is_among n ns) (eq-eqb m n e))
  | inr ne ↦ rw (ne_eqb m n ne) (among_cases n ns)
]

without_here : (n : ℕ) (hs ns : List ℕ) → is_among n hs ≡ true → without hs (n ∷ ns) ≡ without hs ns
without_here n hs ns is = cond-false (not (is_among n hs)) (n ∷ without hs ns) (without hs ns) (ap not is)

without_new : (n : ℕ) (hs ns : List ℕ) → is_among n hs ≡ false → without hs (n ∷ ns) ≡ n ∷ without hs ns
without_new n hs ns is = cond-true (not (is_among n hs)) (n ∷ without hs ns) (without hs ns) (ap not is)

among_push : (m n : ℕ) (hs : List ℕ) → (n ≡ m → ⊥) → is_among m (hs ++ n ∷ []) ≡ is_among m hs
among_push m n [] ne = cond-false (n == m) true false (ne_eqb n m ne)
among_push m n (h ∷ hs) ne = elim (cases_eq h m) [
  | inl e ↦ rw (eq-eqb h m e) refl
  | inr other ↦ rw (ne_eqb h m other) (among_push m n hs ne)
]

without_push : (n : ℕ) (hs ns : List ℕ) → AllByRecursion (λ other. n ≡ other → ⊥) ns → without (hs ++ n ∷ []) ns ≡ without hs ns
without_push n hs [] a = refl
without_push n hs (m ∷ ns) a =
    let rest = without_push n hs ns a.1 in
    let same = among_push m n hs a.0 in
    ⊎_elim
    (λ yes. without_here m (hs ++ n ∷ []) ns (same ∙ yes) ∙ rest ∙ sym (without_here m hs ns yes))
    (λ no. without_new m (hs ++ n ∷ []) ns (same ∙ no) ∙ ap (λ (l : List ℕ). m ∷ l) rest ∙ sym (without_new m hs ns no))
    (among_cases m hs)

-- the numbers with one more, where it isn't one of them
numbers_here : (v : Unhomed) (l : List Unhomed) → is_among v.page (unhomed_numbers l) ≡ true → unhomed_numbers (with_entry v l) ≡ unhomed_numbers l
numbers_here v [] is = absurd (cc)
numbers_here v (u ∷ l) is = elim (cases_eq u.page v.page) [
  | inl e ↦ rw (eq-eqb u.page v.page e) (ap (λ m. m ∷ unhomed_numbers l) (sym e))
  | inr ne ↦
      let there = rw (ne_eqb u.page v.page ne) at is in
      rw (ne_eqb u.page v.page ne) (ap (λ (ns : List ℕ). u.page ∷ ns) (numbers_here v l there))
]

numbers_new : (v : Unhomed) (l : List Unhomed) → is_among v.page (unhomed_numbers l) ≡ false → unhomed_numbers (with_entry v l) ≡ unhomed_numbers l ++ v.page ∷ []
numbers_new v [] is = refl
numbers_new v (u ∷ l) is = elim (cases_eq u.page v.page) [
  | inl e ↦ let there = rw (eq-eqb u.page v.page e) at is in absurd cc
  | inr ne ↦
      let there = rw (ne_eqb u.page v.page ne) at is in
      rw (ne_eqb u.page v.page ne) (ap (λ (ns : List ℕ). u.page ∷ ns) (numbers_new v l there))
]

pub numbers_after : (slot j : ℕ) (named : List Image) (old : List Unhomed) → AreDistinct (pages_of named) → unhomed_numbers (unhomed_after slot j named old) ≡ unhomed_numbers old ++ without (unhomed_numbers old) (pages_of named)
numbers_after slot j [] old d = sym (append-nil (unhomed_numbers old))
numbers_after slot j (image ∷ rest) old d =
    let v : Unhomed = record { page = image.0; slot = slot; image = j } in
    let ns = unhomed_numbers old in
    numbers_after slot (suc j) rest (with_entry v old) d.1 ∙ ⊎_elim
    (λ yes. ap (λ (l : List ℕ). l ++ without l (pages_of rest)) (numbers_here v old yes) ∙ ap (λ (l : List ℕ). ns ++ l) (sym (without_here image.0 ns (pages_of rest) yes)))
    (λ no.
    ap (λ (l : List ℕ). l ++ without l (pages_of rest)) (numbers_new v old no)
    ∙ ap (λ (l : List ℕ). (ns ++ image.0 ∷ []) ++ l) (without_push image.0 ns (pages_of rest) d.0)
    ∙ append_assoc ns (image.0 ∷ []) (without ns (pages_of rest))
    ∙ ap (λ (l : List ℕ). ns ++ l) (sym (without_new image.0 ns (pages_of rest) no)))
    (among_cases image.0 ns)

listed_with : (v : Unhomed) (l : List Unhomed) (n : ℕ) → IsListed n (unhomed_numbers (with_entry v l)) → (n ≡ v.page) ⊎ IsListed n (unhomed_numbers l)
listed_with v [] n h = h
listed_with v (u ∷ l) n h = elim (cases_eq u.page v.page) [
  | inl e ↦ let new = rw (eq-eqb u.page v.page e) at h in ⊎_elim (λ is. inl is) (λ there. inr (inr there)) new
  | inr ne ↦
      let new = rw (ne_eqb u.page v.page ne) at h in
      ⊎_elim (λ is. inr (inl is)) (λ there. ⊎_elim (λ is. inl is) (λ old. inr (inr old)) (listed_with v l n there)) new
]

-- it was posted now, or wasn't home before
pub listed_after : (slot j : ℕ) (named : List Image) (old : List Unhomed) (n : ℕ) → IsListed n (unhomed_numbers (unhomed_after slot j named old)) → IsListed n (pages_of named) ⊎ IsListed n (unhomed_numbers old)
listed_after slot j [] old n h = inr h
listed_after slot j (image ∷ rest) old n h =
    let v : Unhomed = record { page = image.0; slot = slot; image = j } in
    ⊎_elim
    (λ new. inl (inr new))
    (λ left. ⊎_elim (λ is. inl (inl is)) (λ there. inr there) (listed_with v old n left))
    (listed_after slot (suc j) rest (with_entry v old) n h)

-- ---- what the entries say

-- each has P, if those of the post and the older ones have it
pub all_after : (P : Unhomed → Type 0) (slot j : ℕ) (named : List Image) (old : List Unhomed) → ((k : ℕ) (image : Image) → k < j + length named → IsListed image.0 (pages_of named) → P (record { page = image.0; slot = slot; image = k }))
    → AllByRecursion P old → AllByRecursion P (unhomed_after slot j named old)
all_after P slot j [] old new all = all
all_after P slot j (image ∷ rest) old new all =
    let v : Unhomed = record { page = image.0; slot = slot; image = j } in
    all_after P slot (suc j) rest (with_entry v old) (λ k i lt listed. new k i (omega (arith, lt)) (inr listed)) (all_with P v old (new j image (omega arith) (inl refl)) all)

pub images_after : (slot : ℕ) (named : List Image) (old : List Unhomed) → slot < 8 → length named ≤ 31 → AllByRecursion IsImage old → AllByRecursion IsImage (unhomed_after slot 0 named old)
images_after slot named old low few all = all_after IsImage slot 0 named old (λ k image lt listed. record { slot = low; image = omega (arith, few, lt) }) all

-- they are of the slots that were open and the new one
pub opens_after : (slot : ℕ) (order more : List ℕ) (named : List Image) (old : List Unhomed) → IsListed slot more → ((t : ℕ) → IsListed t order → IsListed t more)
    → AllByRecursion (IsOf order) old → AllByRecursion (IsOf more) (unhomed_after slot 0 named old)
opens_after slot order more named old here goes of = all_after (IsOf more) slot 0 named old (λ k image lt listed. listed_among slot more here) (of_more order more old goes of)

-- each page is shown at its place after a post: at the post's image, or where it stood
pub posted_shown : (f : ℕ → ℕ) (slot : ℕ) (named : List Image) (j : ℕ) (old : List Unhomed) (pages : List (List ℕ)) (n : ℕ) → HasImages f slot j named → n < length pages
    → slice_get pages n ≡ Some (octets f (place_of old n) 16384)
    → slice_get (laid named pages) n ≡ Some (octets f (place_of (unhomed_after slot j named old) n) 16384)
posted_shown f slot [] j old pages n stand lt base = base
posted_shown f slot (image ∷ rest) j old pages n stand lt base =
    let v : Unhomed = record { page = image.0; slot = slot; image = j } in
    let next = set pages image.0 image.1 in
    let long : length next ≡ length pages = length-set pages image.0 image.1 in
    posted_shown f slot rest (suc j) (with_entry v old) next n stand.1 (omega (arith, lt, long))
    (slice_get-get_or next n [] (omega (arith, lt, long)) ∙ ⊎_elim
    (λ (is : image.0 ≡ n).
    ap (λ m. Some (get_or next m [])) (sym is)
    ∙ ap (λ (p : List ℕ). Some p) (get_or-set_same pages image.0 image.1 [] (omega (arith, lt, is)) ∙ sym stand.0)
    ∙ ap (λ at. Some (octets f at 16384)) (sym (place_with v old n ∙ place_here v old n is)))
    (λ (ne : image.0 ≡ n → ⊥).
    ap (λ (p : List ℕ). Some p) (get_or-set_other pages image.0 n image.1 [] (λ e. ne (sym e)))
    ∙ sym (slice_get-get_or pages n [] lt) ∙ base
    ∙ ap (λ at. Some (octets f at 16384)) (sym (place_with v old n ∙ place_there v old n ne)))
    (cases_eq image.0 n))
