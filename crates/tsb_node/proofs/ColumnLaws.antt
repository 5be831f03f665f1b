-- The entries of a column, and in which of them a stamp lies.
use Rattle.std.proofs.Common.{◌≡◌, ℕ, zero, suc, ◌+◌, ◌-◌, ◌*◌, ◌^◌, ◌<◌, ◌≤◌, ◌⊎◌, inl, inr, List, [], ◌∷◌, ◌++◌, length, take, drop, replicate, slice_index, slice_get, Some, None, refl, sym, ap, subst, ◌∙◌, append_assoc, arith}
use Rattle.std.specs.List.{flat_map, AllByRecursion}
use Rattle.std.specs.declared.result.Result.{Result}
use Rattle.std.specs.declared.result.Result.TheVariants.{Ok}
use Rattle.std.proofs.lemmas.List.{length-append, take_at, drop_at, get_or-append_right}
use Rattle.std.proofs.lemmas.Option.{same_Some, none-some, slice_get_within}
use Rattle.std.proofs.lemmas.Bool.{cases_order}
use Rattle.route_model.specs.Keys.{number_of}
use Rattle.tsb_node.specs.Numbers.{octets_of}
use Rattle.tsb_node.specs.inner.Fields.{number_in}
use Rattle.version_model.specs.declared.part.Part.{Part}
use Rattle.tsb_node.specs.declared.column.Current.{Current}
use Rattle.version_model.specs.declared.part.PartKind.{PartKind}
use Rattle.tsb_node.specs.Columns.{ColumnInPage, ColumnInBlock, IsPartEntry, BeginsAt, starts_of, part_kind, part_octets, current_octets, place_octets}
use Rattle.tsb_node.specs.Parts.{BeginsAsWrittenColumn, BeginsAsWrittenOldColumn, IsPartAt}
use Rattle.version_model.specs.Blocks.{start_or}
use Rattle.tsb_node.specs.inner.PartReading.{IsPlaceBefore, start_at}
use Rattle.tsb_node.specs.inner.Reading.{area}
use Rattle.tsb_node.proofs.NumberLaws.{octets_of-size, octets_of-number, field_in, drop_twice}
use Rattle.tsb_node.proofs.Leaves.{body_represents, body_area}

-- ---- the search

-- a search among entries by binary search: what is before `first` is passed, what is from `end` on starts after the stamp
pub record IsBetween (count : ℕ) (bytes : List ℕ) (stamp first end : ℕ) : Type 0 where
  pub some : first < end
  pub within : end ≤ count
  pub passed : (start_at first bytes ≤ stamp) ⊎ (first ≡ 0)
  pub above : end < count → stamp < start_at end bytes

pub found_before : (count : ℕ) (bytes : List ℕ) (stamp first end : ℕ) → IsBetween count bytes stamp first end → end ≤ first + 1 → IsPlaceBefore count bytes stamp (25 * first)
found_before count bytes stamp first end between done =
    let last : end ≡ suc first = omega (arith, done, between.some) in
    record {
      place = first;
      at_place = refl;
      below = omega (arith, between.some, between.within);
      passed = between.passed;
      next = λ more. subst (λ (k : ℕ). stamp < start_at k bytes) last (between.above (omega (arith, more, last)));
    }

-- ---- one entry

pub place-size : (start kind number : ℕ) → length (place_octets start kind number) ≡ 25
place-size start kind number =
    let s : List ℕ = octets_of 16 start in
    let e : length (s ++ (kind ∷ [])) ≡ 17 = omega (arith, octets_of-size 16 start, length-append s (kind ∷ [])) in
    omega (arith, e, octets_of-size 8 number, length-append (s ++ (kind ∷ [])) (octets_of 8 number))

pub record PlaceReads (start kind number : ℕ) (bytes : List ℕ) : Type 0 where
  pub start_is : number_in 16 0 bytes ≡ start
  pub kind_is : slice_index bytes 16 ≡ kind
  pub number_is : number_in 8 17 bytes ≡ number

pub place_read : (start kind number : ℕ) (rest : List ℕ) → start < 256 ^ 16 → number < 256 ^ 8 → PlaceReads start kind number (place_octets start kind number ++ rest)
place_read start kind number rest slt nlt =
    let s : List ℕ = octets_of 16 start in
    let n : List ℕ = octets_of 8 number in
    let k : List ℕ = kind ∷ [] in
    let ssize : length s ≡ 16 = octets_of-size 16 start in
    let size2 : length (s ++ k) ≡ 17 = omega (arith, ssize, length-append s k) in
    let e2 : ((s ++ k) ++ n) ++ rest ≡ (s ++ k) ++ (n ++ rest) = append_assoc (s ++ k) n rest in
    let e1 : ((s ++ k) ++ n) ++ rest ≡ s ++ (k ++ (n ++ rest)) = e2 ∙ append_assoc s k (n ++ rest) in
    record {
      start_is = ap (number_in 16 0) e1 ∙ ap number_of (take_at s (k ++ (n ++ rest)) 16 ssize) ∙ octets_of-number 16 start slt;
      kind_is = ap (λ (l : List ℕ). slice_index l 16) e1 ∙ get_or-append_right s (k ++ (n ++ rest)) 16 16 0 ssize (omega arith);
      number_is = ap (number_in 8 17) e2 ∙ field_in 8 17 (s ++ k) n rest size2 (octets_of-size 8 number) ∙ octets_of-number 8 number nlt;
    }

pub part_read : (p : Part) (rest : List ℕ) → IsPartEntry p → PlaceReads p.start (part_kind p.kind) p.block (part_octets p ++ rest)
unfolding part_octets
part_read p rest is = place_read p.start (part_kind p.kind) p.block rest is.start is.block

pub current_read : (c : Current) (rest : List ℕ) → c.start < 256 ^ 16 → c.page < 256 ^ 8 → PlaceReads c.start 0 c.page (current_octets c ++ rest)
unfolding current_octets
current_read c rest s p = place_read c.start 0 c.page rest s p

part-size : (p : Part) → length (part_octets p) ≡ 25
unfolding part_octets
part-size p = place-size p.start (part_kind p.kind) p.block

-- ---- many: the i-th part, and what follows all of them

pub part_represents : (ps : List Part) (i : ℕ) (p : Part) (rest : List ℕ) → slice_get ps i ≡ Some p → (more : List ℕ) × (drop (25 * i) (flat_map part_octets ps ++ rest) ≡ part_octets p ++ more)
part_represents [] i p rest e = absurd (none-some p e)
part_represents (q ∷ ps) zero p rest e =
    let same : q ≡ p = same_Some q p e in (
      flat_map part_octets ps ++ rest,
      ap (λ (k : ℕ). drop k (flat_map part_octets (q ∷ ps) ++ rest)) (let z : 25 * 0 ≡ 0 = omega arith in z) ∙ append_assoc (part_octets q) (flat_map part_octets ps) rest
          ∙ ap (λ (x : Part). part_octets x ++ (flat_map part_octets ps ++ rest)) same,
    )
part_represents (q ∷ ps) (suc i) p rest e =
    let t = part_represents ps i p rest e in
    let split : 25 * suc i ≡ 25 + 25 * i = omega arith in (
      t.0,
      ap (λ (k : ℕ). drop k (flat_map part_octets (q ∷ ps) ++ rest)) split ∙ sym (drop_twice 25 (25 * i) (flat_map part_octets (q ∷ ps) ++ rest))
          ∙ ap (drop (25 * i)) (ap (drop 25) (append_assoc (part_octets q) (flat_map part_octets ps) rest) ∙ drop_at (part_octets q) (flat_map part_octets ps ++ rest) 25 (part-size q)) ∙ t.1,
    )

pub parts-size : (ps : List Part) → length (flat_map part_octets ps) ≡ 25 * length ps
parts-size [] = omega arith
parts-size (p ∷ ps) = omega (arith, parts-size ps, part-size p, length-append (part_octets p) (flat_map part_octets ps))

pub all_at : (ps : List Part) (i : ℕ) (p : Part) → AllByRecursion IsPartEntry ps → slice_get ps i ≡ Some p → IsPartEntry p
all_at [] i p all e = absurd (none-some p e)
all_at (q ∷ ps) zero p all e = subst IsPartEntry (same_Some q p e) all.0
all_at (q ∷ ps) (suc i) p all e = all_at ps i p all.1 e

pub get_within : (ps : List Part) (i : ℕ) → i < length ps → (p : Part) × (slice_get ps i ≡ Some p)
get_within [] i lt = absurd (omega arith)
get_within (p ∷ ps) zero lt = (p, refl)
get_within (p ∷ ps) (suc i) lt = get_within ps i (omega arith)

pub get_past : (ps : List Part) (i : ℕ) → length ps ≤ i → slice_get ps i ≡ None
get_past [] i le = refl
get_past (p ∷ ps) zero le = absurd (omega arith)
get_past (p ∷ ps) (suc i) le = get_past ps i (omega arith)

-- ---- the column of a page

column-size : (c : ColumnInPage) → length (flat_map part_octets c.parts ++ current_octets c.current) ≡ 25 * (length c.parts + 1)
unfolding current_octets
column-size c = omega (arith, parts-size c.parts, place-size c.current.start 0 c.current.page, length-append (flat_map part_octets c.parts) (place_octets c.current.start 0 c.current.page))

column_represents : (c : ColumnInPage) (octets : List ℕ) → BeginsAsWrittenColumn c octets → number_in 2 4 octets ≡ length c.parts + 1
column_represents c octets is =
    let es : List ℕ = flat_map part_octets c.parts ++ current_octets c.current in
    let fits : length es ≤ 16232 = omega (arith, column-size c, is.valid.follow.fits) in
    let represents_node = body_represents is.unit 2 1 (length c.parts + 1) c.bounds es is.last (omega (arith, is.valid.follow.fits)) fits is.valid.bounds.low is.valid.bounds.start in
    ap (number_in 2 4) is.encoded ∙ represents_node.count_is

-- what follows the parts
after_parts : (c : ColumnInPage) (octets : List ℕ) → BeginsAsWrittenColumn c octets → (more : List ℕ) × (area octets ≡ flat_map part_octets c.parts ++ (current_octets c.current ++ more))
after_parts c octets is =
    let ps : List ℕ = flat_map part_octets c.parts in
    let es : List ℕ = ps ++ current_octets c.current in
    let fits : length es ≤ 16232 = omega (arith, column-size c, is.valid.follow.fits) in
    let pad : List ℕ = replicate (16232 - length es) 0 in
    (pad, ap area is.encoded ∙ body_area is.unit 2 1 (length c.parts + 1) c.bounds es is.last fits ∙ append_assoc ps (current_octets c.current) pad)

start_of_part : (ps : List Part) (i : ℕ) (p : Part) (bytes rest : List ℕ) → AllByRecursion IsPartEntry ps → slice_get ps i ≡ Some p → bytes ≡ flat_map part_octets ps ++ rest → start_at i bytes ≡ p.start
start_of_part ps i p bytes rest all at e =
    let t = part_represents ps i p rest at in
    ap (λ (l : List ℕ). number_in 16 0 (drop (25 * i) l)) e ∙ ap (number_in 16 0) t.1 ∙ (part_read p t.0 (all_at ps i p all at)).start_is

current_here : (c : ColumnInPage) (octets : List ℕ) → BeginsAsWrittenColumn c octets → PlaceReads c.current.start 0 c.current.page (drop (25 * length c.parts) (area octets))
current_here c octets is =
    let b = after_parts c octets is in
    let here : drop (25 * length c.parts) (area octets) ≡ current_octets c.current ++ b.0 = ap (drop (25 * length c.parts)) b.1 ∙ drop_at (flat_map part_octets c.parts) (current_octets c.current ++ b.0) (25 * length c.parts) (parts-size c.parts) in
    subst (PlaceReads c.current.start 0 c.current.page) (sym here) (current_read c.current b.0 is.valid.current_start is.valid.current_page)

pub column_count : (c : ColumnInPage) (octets : List ℕ) (count : ℕ) → BeginsAsWrittenColumn c octets → count ≡ number_in 2 4 octets → (0 < count) × (count ≤ 649)
column_count c octets count is e = (omega (arith, e, column_represents c octets is), omega (arith, e, column_represents c octets is, is.valid.follow.fits))

first_start : (ps : List Part) (start : ℕ) (p : Part) (rest : List ℕ) → BeginsAt start (starts_of ps ++ rest) → slice_get ps 0 ≡ Some p → p.start ≡ start
first_start [] start p rest b e = absurd (none-some p e)
first_start (q ∷ ps) start p rest b e = ap (λ (x : Part). x.start) (sym (same_Some q p e)) ∙ b

pub no_parts : (ps : List Part) (start current : ℕ) → BeginsAt start (starts_of ps ++ current ∷ []) → length ps ≡ 0 → current ≡ start
no_parts [] start current b e = b
no_parts (q ∷ ps) start current b e = absurd (omega (arith, e))

pub spot_page : (c : ColumnInPage) (octets : List ℕ) (count stamp at start page : ℕ) → BeginsAsWrittenColumn c octets → count ≡ number_in 2 4 octets → IsPlaceBefore count (area octets) stamp at → at + 25 ≡ 25 * count
    → start ≡ number_in 16 at (area octets) → page ≡ number_in 8 (at + 17) (area octets) → ((record { start = start; page = page }) ≡ c.current) × (c.current.start ≤ stamp)
spot_page c octets count stamp at start page is counted before end s p =
    let n : ℕ = length c.parts in
    let last : before.place ≡ n = omega (arith, counted, column_represents c octets is, before.at_place, end) in
    let here : at ≡ 25 * n = before.at_place ∙ ap (λ (k : ℕ). 25 * k) last in
    let r = current_here c octets is in
    let start_is : start ≡ c.current.start = s ∙ ap (λ (k : ℕ). number_in 16 k (area octets)) here ∙ r.start_is in
    let page_is : page ≡ c.current.page = p ∙ ap (λ (k : ℕ). number_in 8 (k + 17) (area octets)) here ∙ ap (λ (t : List ℕ). number_of (take 8 t)) (sym (drop_twice (25 * n) 17 (area octets))) ∙ r.number_is in
    let le : c.current.start ≤ stamp = elim before.passed [
      | inl le ↦ omega (arith, le, ap (λ (k : ℕ). start_at k (area octets)) last, r.start_is)
      | inr first ↦ omega (arith, no_parts c.parts c.bounds.start c.current.start is.valid.follow.first (sym last ∙ first), is.valid.follow.from_first)
    ] in
    (λ i. record { start = start_is i; page = page_is i }, le)

-- where a part ends
end_is_next : (c : ColumnInPage) (octets : List ℕ) (i : ℕ) → BeginsAsWrittenColumn c octets → i ≤ length c.parts → start_at i (area octets) ≡ start_or c.current.start (slice_get c.parts i)
end_is_next c octets i is le = elim (cases_order i (length c.parts)) [
  | inl same ↦ (ap (λ (k : ℕ). start_at k (area octets)) same ∙ (current_here c octets is).start_is ∙ sym (ap (start_or c.current.start) (get_past c.parts i (omega (arith, same)))))
  | inr other ↦ (let g = get_within c.parts i (omega (arith, other)) in
      let b = after_parts c octets is in
      start_of_part c.parts i g.0 (area octets) (current_octets c.current ++ b.0) is.valid.each g.1 b.1 ∙ sym (ap (start_or c.current.start) g.1))
]

-- the part that stands at a place before the last
pub part_there : (c : ColumnInPage) (octets : List ℕ) (count stamp at : ℕ) → BeginsAsWrittenColumn c octets → count ≡ number_in 2 4 octets → (before : IsPlaceBefore count (area octets) stamp at) → (at + 25 ≡ 25 * count → ⊥)
    → (p : Part) × (rest : List ℕ) × IsPartEntry p × (slice_get c.parts before.place ≡ Some p) × (drop at (area octets) ≡ part_octets p ++ rest)
part_there c octets count stamp at is counted before never =
    let lt : before.place < length c.parts = elim (cases_order before.place (length c.parts)) [
      | inl same ↦ absurd (never (omega (arith, same, counted, column_represents c octets is, before.at_place)))
      | inr other ↦ omega (arith, other, before.below, counted, column_represents c octets is)
    ] in
    let g = get_within c.parts before.place lt in
    let b = after_parts c octets is in
    let t = part_represents c.parts before.place g.0 (current_octets c.current ++ b.0) g.1 in
    (g.0, t.0, all_at c.parts before.place g.0 is.valid.each g.1, g.1, ap (λ (k : ℕ). drop k (area octets)) before.at_place ∙ ap (drop (25 * before.place)) b.1 ∙ t.1)

pub spot_block : (c : ColumnInPage) (octets : List ℕ) (count stamp at end : ℕ) (p : Part) → BeginsAsWrittenColumn c octets → count ≡ number_in 2 4 octets → (before : IsPlaceBefore count (area octets) stamp at)
    → slice_get c.parts before.place ≡ Some p → end ≡ number_in 16 (at + 25) (area octets) → IsPartAt c.parts c.current.start stamp (record { part = p; end = end })
spot_block c octets count stamp at end p is counted before here e =
    let lt : before.place < length c.parts = slice_get_within c.parts before.place p here in
    let b = after_parts c octets is in
    let there : at + 25 ≡ 25 * suc before.place = omega (arith, before.at_place) in
    let next : end ≡ start_at (suc before.place) (area octets) = e ∙ ap (λ (k : ℕ). number_in 16 k (area octets)) there in
    let start : start_at before.place (area octets) ≡ p.start = start_of_part c.parts before.place p (area octets) (current_octets c.current ++ b.0) is.valid.each here b.1 in
    record {
      place = before.place;
      at = here;
      to_end = next ∙ end_is_next c octets (suc before.place) is (omega (arith, lt));
      start = elim before.passed [
        | inl le ↦ omega (arith, le, start)
        | inr first ↦ omega (arith, first_start c.parts c.bounds.start p (c.current.start ∷ []) is.valid.follow.first (ap (slice_get c.parts) (sym first) ∙ here), is.valid.follow.from_first)
      ];
      before = omega (arith, next, before.next (omega (arith, lt, counted, column_represents c octets is)));
    }

pub index_drop : (at i : ℕ) (xs : List ℕ) → slice_index (drop at xs) i ≡ slice_index xs (at + i)
index_drop zero i xs = ap (slice_index xs) (let e : i ≡ 0 + i = omega arith in e)
index_drop (suc at) i [] = refl
index_drop (suc at) i (x ∷ xs) = index_drop at i xs ∙ ap (slice_index (x ∷ xs)) (let e : suc (at + i) ≡ suc at + i = omega arith in e)

pub kind_there : (at : ℕ) (area rest : List ℕ) (p : Part) → IsPartEntry p → drop at area ≡ part_octets p ++ rest → slice_index area (at + 16) ≡ part_kind p.kind
kind_there at area rest p is e = sym (index_drop at 16 area) ∙ ap (λ (l : List ℕ). slice_index l 16) e ∙ (part_read p rest is).kind_is

pub part_made : (at start block : ℕ) (kind : PartKind) (area rest : List ℕ) (p : Part) → IsPartEntry p → drop at area ≡ part_octets p ++ rest → start ≡ number_in 16 at area → block ≡ number_in 8 (at + 17) area → kind ≡ p.kind
    → record { start = start; kind = kind; block = block } ≡ p
part_made at start block kind area rest p is e s n k =
    let r = part_read p rest is in
    let s' : start ≡ p.start = s ∙ ap (number_in 16 0) e ∙ r.start_is in
    let n' : block ≡ p.block = n ∙ ap (λ (t : List ℕ). number_of (take 8 t)) (sym (drop_twice at 17 area)) ∙ ap (number_in 8 17) e ∙ r.number_is in
    λ i. record { start = s' i; kind = k i; block = n' i }

pub ok_is : {T E : Type 0} (a b : T) → ◌≡◌ {A = Result T E} (Ok a) (Ok b) → a ≡ b
ok_is a b e = cc e

-- ---- the column of a block

old_column_represents : (c : ColumnInBlock) (octets : List ℕ) → BeginsAsWrittenOldColumn c octets → number_in 2 4 octets ≡ length c.parts
old_column_represents c octets is =
    let es : List ℕ = flat_map part_octets c.parts in
    let fits : length es ≤ 16232 = omega (arith, parts-size c.parts, is.valid.follow.fits) in
    let represents_node = body_represents is.unit 2 1 (length c.parts) c.bounds es is.last (omega (arith, is.valid.follow.fits)) fits is.valid.bounds.low is.valid.bounds.start in
    ap (number_in 2 4) is.encoded ∙ represents_node.count_is

old_area : (c : ColumnInBlock) (octets : List ℕ) → BeginsAsWrittenOldColumn c octets → (more : List ℕ) × (area octets ≡ flat_map part_octets c.parts ++ more)
old_area c octets is =
    let es : List ℕ = flat_map part_octets c.parts in
    let fits : length es ≤ 16232 = omega (arith, parts-size c.parts, is.valid.follow.fits) in
    (replicate (16232 - length es) 0, ap area is.encoded ∙ body_area is.unit 2 1 (length c.parts) c.bounds es is.last fits)

some_part : (ps : List Part) (start : ℕ) → BeginsAt start (starts_of ps) → 0 < length ps
some_part [] start b = absurd b
some_part (p ∷ ps) start b = omega arith

first_of : (ps : List Part) (start : ℕ) (p : Part) → BeginsAt start (starts_of ps) → slice_get ps 0 ≡ Some p → p.start ≡ start
first_of [] start p b e = absurd (none-some p e)
first_of (q ∷ ps) start p b e = ap (λ (x : Part). x.start) (sym (same_Some q p e)) ∙ b

pub old_count : (c : ColumnInBlock) (octets : List ℕ) (count : ℕ) → BeginsAsWrittenOldColumn c octets → count ≡ number_in 2 4 octets → (0 < count) × (count ≤ 649)
old_count c octets count is e = (omega (arith, e, old_column_represents c octets is, some_part c.parts c.bounds.start is.valid.follow.first), omega (arith, e, old_column_represents c octets is, is.valid.follow.fits))

pub old_there : (c : ColumnInBlock) (octets : List ℕ) (count stamp at : ℕ) → BeginsAsWrittenOldColumn c octets → count ≡ number_in 2 4 octets → (before : IsPlaceBefore count (area octets) stamp at)
    → (p : Part) × (rest : List ℕ) × IsPartEntry p × (slice_get c.parts before.place ≡ Some p) × (drop at (area octets) ≡ part_octets p ++ rest)
old_there c octets count stamp at is counted before =
    let g = get_within c.parts before.place (omega (arith, before.below, counted, old_column_represents c octets is)) in
    let b = old_area c octets is in
    let t = part_represents c.parts before.place g.0 b.0 g.1 in
    (g.0, t.0, all_at c.parts before.place g.0 is.valid.each g.1, g.1, ap (λ (k : ℕ). drop k (area octets)) before.at_place ∙ ap (drop (25 * before.place)) b.1 ∙ t.1)

old_start : (c : ColumnInBlock) (octets : List ℕ) (count stamp at : ℕ) (p : Part) → BeginsAsWrittenOldColumn c octets → (before : IsPlaceBefore count (area octets) stamp at) → c.bounds.start ≤ stamp
    → slice_get c.parts before.place ≡ Some p → p.start ≤ stamp
old_start c octets count stamp at p is before from here =
    let b = old_area c octets is in
    elim before.passed [
      | inl le ↦ omega (arith, le, start_of_part c.parts before.place p (area octets) b.0 is.valid.each here b.1)
      | inr first ↦ omega (arith, from, first_of c.parts c.bounds.start p is.valid.follow.first (ap (slice_get c.parts) (sym first) ∙ here))
    ]

pub old_last : (c : ColumnInBlock) (octets : List ℕ) (count stamp at end : ℕ) (p : Part) → BeginsAsWrittenOldColumn c octets → count ≡ number_in 2 4 octets → (before : IsPlaceBefore count (area octets) stamp at) → at + 25 ≡ 25 * count
    → c.bounds.start ≤ stamp → stamp < end → slice_get c.parts before.place ≡ Some p → IsPartAt c.parts end stamp (record { part = p; end = end })
old_last c octets count stamp at end p is counted before done from upto here = record {
  place = before.place;
  at = here;
  to_end = sym (ap (start_or end) (get_past c.parts (suc before.place) (omega (arith, done, before.at_place, counted, old_column_represents c octets is))));
  start = old_start c octets count stamp at p is before from here;
  before = upto;
}

pub old_next : (c : ColumnInBlock) (octets : List ℕ) (count stamp at end next : ℕ) (p : Part) → BeginsAsWrittenOldColumn c octets → count ≡ number_in 2 4 octets → (before : IsPlaceBefore count (area octets) stamp at) → (at + 25 ≡ 25 * count → ⊥)
    → c.bounds.start ≤ stamp → next ≡ number_in 16 (at + 25) (area octets) → slice_get c.parts before.place ≡ Some p → IsPartAt c.parts end stamp (record { part = p; end = next })
old_next c octets count stamp at end next p is counted before never from e here =
    let more : suc before.place < count = elim (cases_order (suc before.place) count) [
      | inl same ↦ absurd (never (omega (arith, same, before.at_place)))
      | inr other ↦ omega (arith, other, before.below)
    ] in
    let there : at + 25 ≡ 25 * suc before.place = omega (arith, before.at_place) in
    let next_is : next ≡ start_at (suc before.place) (area octets) = e ∙ ap (λ (k : ℕ). number_in 16 k (area octets)) there in
    let g = get_within c.parts (suc before.place) (omega (arith, more, counted, old_column_represents c octets is)) in
    let b = old_area c octets is in
    record {
      place = before.place;
      at = here;
      to_end = next_is ∙ start_of_part c.parts (suc before.place) g.0 (area octets) b.0 is.valid.each g.1 b.1 ∙ sym (ap (start_or end) g.1);
      start = old_start c octets count stamp at p is before from here;
      before = omega (arith, next_is, before.next more);
    }
