-- What is put into images of a ring's pages stands in the ring where they are laid.
use Rattle.std.proofs.Common.{◌≡◌, ◌⊎◌, ◌<◌, ◌≤◌, ℕ, ◌+◌, ◌-◌, ◌*◌, ◌/◌, ◌%◌, List, [], ◌++◌, length, take, get_or, set, min, cond, sym, ◌∙◌, ap, subst, inl, inr, arith, append_assoc, length-append, Some}
use Rattle.std.specs.List.{slice_get}
use Rattle.std.proofs.lemmas.Bool.{cases_lt, lt-ltb, le-ltb}
use Rattle.std.proofs.lemmas.List.{length-take}
use Rattle.std.proofs.lemmas.Option.{slice_get-get_or}
use Rattle.page_journal.specs.Layout.{Image, pages_of}
use Rattle.page_journal.specs.Recovers.{laid}
use Rattle.page_tx.specs.inner.Laid.{length_laid}
use Rattle.page_tx.proofs.api.Laid.{shown_image}
use Rattle.intake.specs.declared.ring.Ring.{Ring}
use Rattle.intake.specs.Ring.{page_at, wrapped, size_of, HasOctets}
use Rattle.intake.specs.inner.Drafts.{image_of, AreFrom, Covers, Writes}
use Rattle.intake.proofs.Wrapping.{wrapped_is, wrapped_low}
use Rattle.intake.proofs.Pieces.{overlaid, with_piece, piece_written}
use Rattle.intake.proofs.Images.{laid_set, number_at, numbers_at, are_distinct, image_number, pages_of_set, length_pages_of}

-- the image of the page that follows the used octets is there
pub covered : (ring : Ring) (begun n len at k : ℕ) → Covers ring begun n len → 0 < len → at ≡ wrapped (size_of ring) (ring.first + ring.used) → k ≡ image_of ring.count begun (at / 16384) → k < n
covered ring begun n len at k covers lt at_is k_is =
    let place = λ (m : ℕ). image_of ring.count begun (wrapped (size_of ring) m / 16384) in
    let same : ring.first + (ring.used + 0) ≡ ring.first + ring.used = omega arith in
    let is : place (ring.first + (ring.used + 0)) ≡ k = ap place same ∙ sym (k_is ∙ ap (λ m. image_of ring.count begun (m / 16384)) at_is) in
    subst (λ m. m < n) is (covers 0 lt)

-- after some of the octets the others are covered as well
pub covers_later : (ring : Ring) (begun n len used done rest : ℕ) → used ≡ ring.used + done → done + rest ≤ len → Covers ring begun n len → Covers (record ring { used = used }) begun n rest
covers_later ring begun n len used done rest is fits covers k lt =
    let same : ring.first + (ring.used + (done + k)) ≡ ring.first + (used + k) = omega arith in
    subst (λ m. image_of ring.count begun (wrapped (size_of ring) m / 16384) < n) same (covers (done + k) (omega arith))

image_there : (count begun page n : ℕ) → ((page < begun) → page + count - begun < n) → (begun ≤ page → page - begun < n) → image_of count begun page < n
image_there count begun page n low high = elim (cases_lt page begun) [
  | inl l ↦ subst (λ m. m < n) (sym (ap (λ b. cond b (page + count - begun) (page - begun)) (lt-ltb page begun l))) (low l)
  | inr g ↦ subst (λ m. m < n) (sym (ap (λ b. cond b (page + count - begun) (page - begun)) (le-ltb page begun g))) (high g)
]

covers_pages : (ring : Ring) (at octets n : ℕ) → ring.first < size_of ring → ring.used + octets ≤ size_of ring → at ≡ wrapped (size_of ring) (ring.first + ring.used)
    → ((ring.count ≤ n) ⊎ (at % 16384 + octets ≤ 16384 * n)) → n ≤ ring.count → (0 < octets → 0 < n) → Covers ring (at / 16384) n octets
covers_pages ring at octets n start room at_is enough few some k lt =
    let size = size_of ring in
    let place = wrapped size (ring.first + (ring.used + k)) in
    let below = wrapped_low size ring.first (ring.used + k) start (omega arith) in
    let at_low = wrapped_low size ring.first ring.used start (omega arith) in
    let one = some (omega arith) in
    let where_ : (place ≡ at + k) ⊎ (place + size ≡ at + k) = elim (wrapped_is size (ring.first + ring.used)) [
      | inl v ↦ let v1 = v.1 in elim (wrapped_is size (ring.first + (ring.used + k))) [ inl w ↦ let w1 = w.1 in inl (omega arith) | inr w ↦ let w1 = w.1 in inr (omega arith) ]
      | inr v ↦ let v0 = v.0 in let v1 = v.1 in elim (wrapped_is size (ring.first + (ring.used + k))) [ inl w ↦ let w0 = w.0 in absurd (omega arith) | inr w ↦ let w1 = w.1 in inl (omega arith) ]
    ] in
    image_there ring.count (at / 16384) (place / 16384) n
    (λ l. elim enough [ inl all ↦ omega arith | inr e ↦ elim where_ [ inl a ↦ absurd (omega arith) | inr b ↦ omega arith ] ])
    (λ g. elim enough [ inl all ↦ omega arith | inr e ↦ elim where_ [ inl a ↦ omega arith | inr b ↦ omega arith ] ])

-- as many pages as the octets lie on, or all of the ring, cover them
pub covers_all : (ring : Ring) (at octets pages n : ℕ) → ring.first < size_of ring → ring.used + octets ≤ size_of ring → at ≡ wrapped (size_of ring) (ring.first + ring.used)
    → (0 < octets → at % 16384 + octets ≤ 16384 * pages) → n ≡ min pages ring.count → Covers ring (at / 16384) n octets
covers_all ring at octets pages n start room at_is enough n_is k lt =
    let e = enough (omega arith) in
    covers_pages ring at octets n start room at_is (elim (cases_lt pages ring.count) [ inl l ↦ inr (omega arith) | inr g ↦ inl (omega arith) ]) (omega arith) (λ s. omega arith) k lt

-- one piece
pub piece_put : (ring : Ring) (begun k at len : ℕ) (octets : List ℕ) (old new : List Image) → ring.first < size_of ring → begun < ring.count → AreFrom ring.low ring.count begun (pages_of old) → k < length old
    → at ≡ wrapped (size_of ring) (ring.first + ring.used) → k ≡ image_of ring.count begun (at / 16384) → len ≤ length octets → at % 16384 + len ≤ 16384 → ring.used + length octets ≤ size_of ring
    → ((image : Image) → slice_get old k ≡ Some image → length image.1 ≡ 16384) → ((image : Image) → slice_get old k ≡ Some image → new ≡ set old k (image.0, overlaid (at % 16384) (take len octets) image.1))
    → (pages_of new ≡ pages_of old) × Writes ring (take len octets) old new
piece_put ring begun k at len octets old new start lt from there at_is k_is few ends room whole put =
    let image : Image = get_or old k (0, []) in
    let is : slice_get old k ≡ Some image = slice_get-get_or old k (0, []) there in
    let p = at / 16384 in
    let o = at % 16384 in
    let piece = take len octets in
    let size : length piece ≡ len = (let l = length-take len octets in omega arith) in
    let in_ring = wrapped_low (size_of ring) ring.first ring.used start (omega arith) in
    let below : p < ring.count = omega (arith, in_ring, at_is) in
    let many = length_pages_of old in
    let number : image.0 ≡ ring.low + p =
    sym (number_at old k image is) ∙ (ap (λ (l : List ℕ). get_or l k 0) from.are ∙ (numbers_at ring.low ring.count begun (length (pages_of old)) k (omega arith)
    ∙ (ap (λ m. ring.low + wrapped ring.count (begun + m)) k_is ∙ image_number ring.low ring.count begun p lt below))) in
    let named : slice_get old k ≡ Some (ring.low + p, image.1) = is ∙ ap (λ m. Some (m, image.1)) number in
    let distinct = are_distinct ring.low ring.count begun (pages_of old) lt from in (
      ap pages_of (put image is) ∙ pages_of_set old k image.0 (overlaid o piece image.1) image.1 is,
      λ pages stood inside used stand.
          let shown = laid old pages in
          let long = length_laid old pages in
          let page : page_at shown (ring.low + p) ≡ image.1 = shown_image (ring.low + p) k image.1 old pages distinct (omega arith) named in
          let after : laid new pages ≡ with_piece shown ring.low p o piece =
          ap (λ (l : List Image). laid l pages) (put image is)
          ∙ (laid_set old k image.0 (overlaid o piece image.1) image.1 pages distinct is
          ∙ (ap (λ m. set shown m (overlaid o piece image.1)) number ∙ ap (λ (l : List ℕ). set shown (ring.low + p) (overlaid o piece l)) (sym page))) in
          let next : 16384 * p + o ≡ wrapped (size_of ring) (ring.first + length stood) = (let s : 16384 * p + o ≡ at = omega arith in s ∙ (at_is ∙ ap (λ m. wrapped (size_of ring) (ring.first + m)) (sym used))) in
          subst (λ l. HasOctets l ring (stood ++ piece)) (sym after)
          (piece_written shown ring.low ring.count ring.first p o stood piece (omega (arith, long)) start below (ap length page ∙ whole image is) (omega arith) next (omega arith) stand),
    )

-- octets after others
pub writes_more : (ring : Ring) (used : ℕ) (octets more : List ℕ) (a b c : List Image) → used ≡ ring.used + length octets → Writes ring octets a b → Writes (record ring { used = used }) more b c → Writes ring (octets ++ more) a c
writes_more ring used octets more a b c is one two pages stood inside stood_is stand =
    let l = length-append stood octets in
    subst (λ l. HasOctets (laid c pages) ring l) (append_assoc stood octets more) (two pages (stood ++ octets) inside (omega arith) (one pages stood inside stood_is stand))
