-- Rings of octets in pages: a piece is laid over a part of one page, and read from one.
use Rattle.std.proofs.Common.{◌≡◌, ◌⊎◌, ◌<◌, ◌≤◌, ℕ, ◌+◌, ◌-◌, ◌*◌, ◌/◌, ◌%◌, List, [], ◌++◌, length, take, drop, get_or, set, sym, ◌∙◌, ap, inl, inr, arith, length-append, get_or-set_same, get_or-set_other}
use Rattle.std.proofs.lemmas.Bool.{cases_eq}
use Rattle.std.proofs.lemmas.List.{get_or_append_left, get_or-append_right, get_or-take, get_or-drop, length-take, length-drop, ext_get_or}
use Rattle.intake.specs.declared.ring.Ring.{Ring}
use Rattle.intake.specs.Ring.{page_at, wrapped, Reads, ring_octet, IsRing, HasOctets, size_of}
use Rattle.intake.proofs.Wrapping.{reads_more, wrapped_low, inside}

-- octets laid over those of a page from a place on
abbrev pub overlaid : ℕ → List ℕ → List ℕ → List ℕ
overlaid at octets page = take at page ++ octets ++ drop (at + length octets) page

-- ---- one page

length_front : (at : ℕ) (octets page : List ℕ) → at ≤ length page → length (take at page ++ octets) ≡ at + length octets
length_front at octets page le = let a = length-append (take at page) octets in let b = length-take at page in omega arith

pub over_low : (at : ℕ) (octets page : List ℕ) (j : ℕ) → at ≤ length page → j < at → get_or (overlaid at octets page) j 0 ≡ get_or page j 0
over_low at octets page j le lt =
    let b = length-take at page in
    get_or_append_left (take at page ++ octets) (drop (at + length octets) page) 0 j (omega (arith, length_front at octets page le))
    ∙ (get_or_append_left (take at page) octets 0 j (omega arith) ∙ get_or-take at page j 0 lt)

pub over_here : (at : ℕ) (octets page : List ℕ) (k : ℕ) → at ≤ length page → k < length octets → get_or (overlaid at octets page) (at + k) 0 ≡ get_or octets k 0
over_here at octets page k le lt =
    let b = length-take at page in
    let e : length (take at page) ≡ at = omega arith in
    get_or_append_left (take at page ++ octets) (drop (at + length octets) page) 0 (at + k) (omega (arith, length_front at octets page le))
    ∙ (get_or-append_right (take at page) octets at (at + k) 0 e (omega arith) ∙ ap (λ n. get_or octets n 0) (omega arith))

pub over_high : (at : ℕ) (octets page : List ℕ) (j : ℕ) → at ≤ length page → at + length octets ≤ j → get_or (overlaid at octets page) j 0 ≡ get_or page j 0
over_high at octets page j le ge =
    get_or-append_right (take at page ++ octets) (drop (at + length octets) page) (at + length octets) j 0 (length_front at octets page le) ge
    ∙ (get_or-drop (at + length octets) page (j - (at + length octets)) 0 ∙ ap (λ n. get_or page n 0) (omega arith))

-- ---- one piece

-- the pages with a piece laid over those of the p-th page of the ring, from its octet o on
abbrev pub with_piece : List (List ℕ) → ℕ → ℕ → ℕ → List ℕ → List (List ℕ)
with_piece pages low p o piece = set pages (low + p) (overlaid o piece (page_at pages (low + p)))

piece_elsewhere : (pages : List (List ℕ)) (low p o i : ℕ) (piece : List ℕ) → low + p < length pages → o ≤ length (page_at pages (low + p)) → ((i / 16384 ≡ p → ⊥) ⊎ ((i / 16384 ≡ p) × ((i % 16384 < o) ⊎ (o + length piece ≤ i % 16384)))) → ring_octet (with_piece pages low p o piece) low i ≡ ring_octet pages low i
piece_elsewhere pages low p o i piece in_map le where_ =
    let page = page_at pages (low + p) in
    elim where_ [
      | inl other ↦ ap (λ (l : List ℕ). get_or l (i % 16384) 0) (get_or-set_other pages (low + p) (low + i / 16384) (overlaid o piece page) [] (λ e. other (omega arith)))
      | inr here ↦
          let e = here.0 in
          let new : page_at (with_piece pages low p o piece) (low + i / 16384) ≡ overlaid o piece page = ap (λ n. page_at (with_piece pages low p o piece) (low + n)) e ∙ get_or-set_same pages (low + p) (overlaid o piece page) [] in_map in
          let old : page ≡ page_at pages (low + i / 16384) = ap (λ n. page_at pages (low + n)) (sym e) in
          ap (λ (l : List ℕ). get_or l (i % 16384) 0) new
          ∙ (elim here.1 [ inl lt ↦ over_low o piece page (i % 16384) le lt | inr ge ↦ over_high o piece page (i % 16384) le ge ]
          ∙ ap (λ (l : List ℕ). get_or l (i % 16384) 0) old)
    ]

piece_here : (pages : List (List ℕ)) (low p o k : ℕ) (piece : List ℕ) → low + p < length pages → o ≤ length (page_at pages (low + p)) → o + length piece ≤ 16384 → k < length piece → ring_octet (with_piece pages low p o piece) low (16384 * p + o + k) ≡ get_or piece k 0
piece_here pages low p o k piece in_map le ends lt =
    let page = page_at pages (low + p) in
    let at = 16384 * p + o + k in
    let d : at / 16384 ≡ p = omega arith in
    let m : at % 16384 ≡ o + k = omega arith in
    let new : page_at (with_piece pages low p o piece) (low + at / 16384) ≡ overlaid o piece page = ap (λ n. page_at (with_piece pages low p o piece) (low + n)) d ∙ get_or-set_same pages (low + p) (overlaid o piece page) [] in_map in
    ap (λ (l : List ℕ). get_or l (at % 16384) 0) new ∙ (ap (λ n. get_or (overlaid o piece page) n 0) m ∙ over_here o piece page k le lt)

-- A piece within one page is written after the octets that are there.
pub piece_written : (pages : List (List ℕ)) (low count first p o : ℕ) (octets piece : List ℕ) → low + count ≤ length pages → first < 16384 * count → p < count → length (page_at pages (low + p)) ≡ 16384
    → o + length piece ≤ 16384 → 16384 * p + o ≡ wrapped (16384 * count) (first + length octets) → length octets + length piece ≤ 16384 * count
    → Reads (ring_octet pages low) (16384 * count) first octets → Reads (ring_octet (with_piece pages low p o piece) low) (16384 * count) first (octets ++ piece)
piece_written pages low count first p o octets piece inside start in_ring len ends next fits =
    let at = 16384 * p + o in
    let in_map : low + p < length pages = omega arith in
    let le : o ≤ length (page_at pages (low + p)) = omega arith in
    reads_more (ring_octet pages low) (ring_octet (with_piece pages low p o piece) low) (16384 * count) first at octets piece start fits (omega arith) next
    (λ i lt. piece_elsewhere pages low p o i piece in_map le (elim (cases_eq (i / 16384) p) [ inl e ↦ inr (e, inl (omega arith)) | inr ne ↦ inl ne ]))
    (λ i ge lt. piece_elsewhere pages low p o i piece in_map le (elim (cases_eq (i / 16384) p) [ inl e ↦ inr (e, inr (omega arith)) | inr ne ↦ inl ne ]))
    (λ k lt. piece_here pages low p o k piece in_map le ends lt)

-- ---- a piece that is read

pub piece_read : (homes : ℕ) (shown : List (List ℕ)) (ring : Ring) (stood page : List ℕ) (at from n : ℕ) → IsRing homes ring → at ≡ wrapped (size_of ring) (ring.first + from) → at % 16384 + n ≤ 16384 → from + n ≤ ring.used
    → page ≡ page_at shown (ring.low + at / 16384) → length page ≡ 16384 → length stood ≡ ring.used → HasOctets shown ring stood → take n (drop (at % 16384) page) ≡ take n (drop from stood)
piece_read homes shown ring stood page at from n r at_is ends inside_ page_is size used stand =
    let o = at % 16384 in
    let full = r.used in
    let low_ = wrapped_low (16384 * ring.count) ring.first from r.start (omega arith) in
    let in_ring : at / 16384 < ring.count = omega (arith, low_, at_is) in
    let a = length-take n (drop o page) in
    let b = length-take n (drop from stood) in
    let c = length-drop o page in
    let d = length-drop from stood in
    ext_get_or 0 (take n (drop o page)) (take n (drop from stood)) (omega arith)
    (λ k lt.
    let lt' : k < n = omega arith in
    let place : wrapped (16384 * ring.count) (ring.first + (from + k)) ≡ at + (from + k - from) = inside (16384 * ring.count) ring.first from at n (from + k) r.start (omega arith) (omega arith) at_is (omega arith) (omega arith) in
    let here : ring_octet shown ring.low (wrapped (16384 * ring.count) (ring.first + (from + k))) ≡ get_or page (o + k) 0 =
    ap (ring_octet shown ring.low) place ∙ (ap (λ m. get_or (page_at shown (ring.low + m)) ((at + (from + k - from)) % 16384) 0) (let e : (at + (from + k - from)) / 16384 ≡ at / 16384 = omega arith in e)
    ∙ (ap (λ (l : List ℕ). get_or l ((at + (from + k - from)) % 16384) 0) (sym page_is) ∙ ap (λ m. get_or page m 0) (let e : (at + (from + k - from)) % 16384 ≡ o + k = omega arith in e))) in
    get_or-take n (drop o page) k 0 lt' ∙ (get_or-drop o page k 0 ∙ (sym here ∙ (stand (from + k) (omega arith) ∙ sym (get_or-take n (drop from stood) k 0 lt' ∙ get_or-drop from stood k 0)))))
