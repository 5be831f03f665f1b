-- Entries of one size: they are read from the first on, and encoded in one way.
use Rattle.std.proofs.Common.{◌≡◌, ℕ, zero, suc, ◌+◌, ◌*◌, ◌<◌, ◌≤◌, List, [], ◌∷◌, ◌++◌, length, drop, map, Option, Some, None, refl, sym, ap, subst, ◌∙◌, append_assoc, arith}
use Rattle.std.specs.List.{flat_map, AllByRecursion}
use Rattle.std.proofs.lemmas.List.{append-nil, length-append, drop_at}
use Rattle.std.proofs.lemmas.Grind.{flat_map-append}
use Rattle.tsb_node.specs.Columns.{AreAscending}
use Rattle.tsb_node.specs.inner.Rows.{IsEncoding, StartsAt, AreRows, IsLastNumber, IsNextNumber, IsFront}
use Rattle.tsb_node.proofs.Laying.{all_push}

-- ---- numbers that rise

pub all_append : {X : Type 0} (P : X → Type 0) (xs ys : List X) → AllByRecursion P (xs ++ ys) → AllByRecursion P ys
all_append P [] ys all = all
all_append P (x ∷ xs) ys all = all_append P xs ys all.1

pub ascending_push : (ns : List ℕ) (m : ℕ) → AreAscending ns → AllByRecursion (λ n. n < m) ns → AreAscending (ns ++ m ∷ [])
ascending_push [] m up all = (tt, tt)
ascending_push (n ∷ ns) m up all = (all_push (λ later. n < later) ns m up.0 all.0, ascending_push ns m up.1 all.1)

pub ascending_front : (ns : List ℕ) (m : ℕ) → AreAscending (ns ++ m ∷ []) → AreAscending ns × AllByRecursion (λ n. n < m) ns
ascending_front [] m up = (tt, tt)
ascending_front (n ∷ ns) m up =
    let rest = ascending_front ns m up.1 in
    ((front_all n ns up.0, rest.0), ((all_append (λ later. n < later) ns (m ∷ []) up.0).0, rest.1))
  where
    front_all : (n : ℕ) (ns : List ℕ) → AllByRecursion (λ later. n < later) (ns ++ m ∷ []) → AllByRecursion (λ later. n < later) ns
    front_all n [] all = tt
    front_all n (k ∷ ks) all = (all.0, front_all n ks all.1)

below_later : (front : List ℕ) (last n : ℕ) → AreAscending (front ++ last ∷ []) → last < n → AllByRecursion (λ k. k < n) (front ++ last ∷ [])
below_later [] last n up lt = (lt, tt)
below_later (k ∷ ks) last n up lt = ((let below = (all_append (λ later. k < later) ks (last ∷ []) up.0).0 in omega (arith, below, lt)), below_later ks last n up.1 lt)

pub next_up : (first : ℕ) (ns : List ℕ) (last : Option ℕ) (n : ℕ) → IsLastNumber ns last → StartsAt first ns → AreAscending ns → IsNextNumber first last n
    → StartsAt first (ns ++ n ∷ []) × AreAscending (ns ++ n ∷ [])
next_up first ns None n is starts up next = subst (λ (t : List ℕ). StartsAt first (t ++ n ∷ []) × AreAscending (t ++ n ∷ [])) (sym is) (next, (tt, tt))
next_up first ns (Some last) n is starts up next =
    let whole = is.1 in
    let up_there = subst AreAscending whole up in
    let all = subst (AllByRecursion (λ k. k < n)) (sym whole) (below_later is.0 last n up_there next) in
    (starts_on ns starts (longer whole), ascending_push ns n up all)
  where
    longer : {m : List ℕ} → m ≡ is.0 ++ last ∷ [] → 0 < length m
    longer e = omega (arith, ap length e, length-append is.0 (last ∷ []))

    starts_on : (ms : List ℕ) → StartsAt first ms → 0 < length ms → StartsAt first (ms ++ n ∷ [])
    starts_on [] s lt = absurd (omega (arith, lt))
    starts_on (m ∷ ms) s lt = s

pub next_needed : (first : ℕ) (ns more : List ℕ) (last : Option ℕ) (n : ℕ) → IsLastNumber ns last → StartsAt first (ns ++ n ∷ more) → AreAscending (ns ++ n ∷ more) → IsNextNumber first last n
next_needed first ns more None n is starts up = subst (λ (t : List ℕ). StartsAt first (t ++ n ∷ more)) is starts
next_needed first ns more (Some last) n is starts up =
    above is.0 (subst AreAscending (ap (λ (t : List ℕ). t ++ n ∷ more) is.1 ∙ append_assoc is.0 (last ∷ []) (n ∷ more)) up)
  where
    above : (front : List ℕ) → AreAscending (front ++ (last ∷ n ∷ more)) → last < n
    above [] up = up.0.0
    above (k ∷ ks) up = above ks up.1

-- ---- entries

pub map-append : {X : Type 0} (f : X → ℕ) (xs ys : List X) → map f (xs ++ ys) ≡ map f xs ++ map f ys
map-append f [] ys = refl
map-append f (x ∷ xs) ys = ap (λ (t : List ℕ). f x ∷ t) (map-append f xs ys)

module _ {X : Type 0} (encode : X → List ℕ) (valid : X → Type 0) (number : X → ℕ) (size : ℕ) (is : IsEncoding encode valid size) where
  pub rows-size : (xs : List X) → length (flat_map encode xs) ≡ length xs * size
  rows-size [] = omega arith
  rows-size (x ∷ xs) = omega (arith, rows-size xs, is.size_is x, length-append (encode x) (flat_map encode xs))

  -- where the octets of ys begin with those of xs, the rest of ys follows
  pub rows_after : (xs ys : List X) (rest : List ℕ) → AllByRecursion valid xs → AllByRecursion valid ys → flat_map encode xs ++ rest ≡ flat_map encode ys
      → (more : List X) × (ys ≡ xs ++ more) × (rest ≡ flat_map encode more)
  rows_after [] ys rest p q e = (ys, refl, e)
  rows_after (x ∷ xs) [] rest p q e = absurd (omega (arith, ap length e, is.size_is x, is.some, length-append (encode x ++ flat_map encode xs) rest, length-append (encode x) (flat_map encode xs)))
  rows_after (x ∷ xs) (y ∷ ys) rest p q e =
      let there : encode x ++ (flat_map encode xs ++ rest) ≡ encode y ++ flat_map encode ys = sym (append_assoc (encode x) (flat_map encode xs) rest) ∙ e in
      let same : x ≡ y = is.apart x y (flat_map encode xs ++ rest) (flat_map encode ys) p.0 q.0 there in
      let beyond : flat_map encode xs ++ rest ≡ flat_map encode ys =
      sym (drop_at (encode x) (flat_map encode xs ++ rest) size (is.size_is x)) ∙ ap (drop size) there ∙ drop_at (encode y) (flat_map encode ys) size (is.size_is y) in
      let t = rows_after xs ys rest p.1 q.1 beyond in
      (t.0, ap (λ (h : X). h ∷ ys) (sym same) ∙ ap (λ (l : List X). x ∷ l) t.1, t.2)

  pub rows_one : (xs ys : List X) → AllByRecursion valid xs → AllByRecursion valid ys → flat_map encode xs ≡ flat_map encode ys → xs ≡ ys
  rows_one xs ys p q e =
      let t = rows_after xs ys [] p q (append-nil (flat_map encode xs) ∙ e) in
      let none : t.0 ≡ [] = nothing t.0 (sym t.2) in
      sym (t.1 ∙ ap (λ (l : List X). xs ++ l) none ∙ append-nil xs)
    where
      nothing : (more : List X) → flat_map encode more ≡ [] → more ≡ []
      nothing [] e = refl
      nothing (x ∷ more) e = absurd (omega (arith, ap length e, is.size_is x, is.some, length-append (encode x) (flat_map encode more)))

-- the first n entries have been read
pub record HasRead {X : Type 0} (encode : X → List ℕ) (valid : X → Type 0) (number : X → ℕ) (first n : ℕ) (last : Option ℕ) (bytes rest : List ℕ) : Type 0 where
  pub rows : List X
  pub each : AllByRecursion valid rows
  pub from_first : StartsAt first (map number rows)
  pub rising : AreAscending (map number rows)
  pub counted : length rows ≡ n
  pub whole : bytes ≡ flat_map encode rows ++ rest
  pub newest : IsLastNumber (map number rows) last

module _ {X : Type 0} (encode : X → List ℕ) (valid : X → Type 0) (number : X → ℕ) (size : ℕ) (is : IsEncoding encode valid size) (first : ℕ) where
  pub read_start : (bytes : List ℕ) → HasRead encode valid number first 0 None bytes bytes
  read_start bytes = record { rows = []; each = tt; from_first = tt; rising = tt; counted = refl; whole = refl; newest = refl }

  pub read_on : (n : ℕ) (last : Option ℕ) (bytes rest : List ℕ) (x : X) → HasRead encode valid number first n last bytes rest → IsFront encode valid size rest x → IsNextNumber first last (number x)
      → HasRead encode valid number first (n + 1) (Some (number x)) bytes (drop size rest)
  read_on n last bytes rest x r front next =
      let more : map number (r.rows ++ x ∷ []) ≡ map number r.rows ++ number x ∷ [] = map-append number r.rows (x ∷ []) in
      let up = next_up first (map number r.rows) last (number x) r.newest r.from_first r.rising next in
      record {
        rows = r.rows ++ x ∷ [];
        each = all_push valid r.rows x r.each front.valid_is;
        from_first = subst (StartsAt first) (sym more) up.0;
        rising = subst AreAscending (sym more) up.1;
        counted = length-append r.rows (x ∷ []) ∙ ap (λ (k : ℕ). k + 1) r.counted;
        whole = r.whole ∙ ap (λ (t : List ℕ). flat_map encode r.rows ++ t) front.encoded ∙ sym (append_assoc (flat_map encode r.rows) (encode x) (drop size rest))
            ∙ ap (λ (t : List ℕ). t ++ drop size rest) (ap (λ (t : List ℕ). flat_map encode r.rows ++ t) (sym (append-nil (encode x))) ∙ sym (flat_map-append encode r.rows (x ∷ [])));
        newest = (map number r.rows, more);
      }

  pub read_end : (n : ℕ) (last : Option ℕ) (bytes rest : List ℕ) → (r : HasRead encode valid number first n last bytes rest) → length rest ≡ 0 → AreRows encode valid number first n bytes r.rows
  read_end n last bytes rest r none = record {
    each = r.each;
    from_first = r.from_first;
    rising = r.rising;
    counted = r.counted;
    encoded = r.whole ∙ ap (λ (t : List ℕ). flat_map encode r.rows ++ t) (empty rest none) ∙ append-nil (flat_map encode r.rows);
  }
    where
      empty : (xs : List ℕ) → length xs ≡ 0 → xs ≡ []
      empty [] e = refl
      empty (x ∷ xs) e = absurd (omega (arith, e))

  -- where the octets are entries, one stands at the front and may come next
  pub row_represents : (n count : ℕ) (last : Option ℕ) (bytes rest : List ℕ) (xs : List X) → HasRead encode valid number first n last bytes rest → AreRows encode valid number first count bytes xs → n < count
      → (x : X) × IsFront encode valid size rest x × IsNextNumber first last (number x)
  row_represents n count last bytes rest xs r are lt =
      let t = rows_after encode valid number size is r.rows xs rest r.each are.each (sym r.whole ∙ are.encoded) in
      head t.0 t.1 t.2
    where
      valid_head : (rows : List X) (x : X) (more : List X) → AllByRecursion valid (rows ++ x ∷ more) → valid x
      valid_head rows x more all = (all_append valid rows (x ∷ more) all).0

      head : (more : List X) → xs ≡ r.rows ++ more → rest ≡ flat_map encode more → (x : X) × IsFront encode valid size rest x × IsNextNumber first last (number x)
      head [] e f = absurd (omega (arith, lt, are.counted, r.counted, ap length e, length-append r.rows []))
      head (x ∷ more) e f =
          let numbers : map number xs ≡ map number r.rows ++ number x ∷ map number more = ap (map number) e ∙ map-append number r.rows (x ∷ more) in (
            x,
            record {
              valid_is = valid_head r.rows x more (subst (AllByRecursion valid) e are.each);
              encoded = f ∙ ap (λ (t : List ℕ). encode x ++ t) (sym (ap (drop size) f ∙ drop_at (encode x) (flat_map encode more) size (is.size_is x)));
            },
            next_needed first (map number r.rows) (map number more) last (number x) r.newest (subst (StartsAt first) numbers are.from_first) (subst AreAscending numbers are.rising),
          )

  pub nothing_after : (count : ℕ) (last : Option ℕ) (bytes rest : List ℕ) (xs : List X) → HasRead encode valid number first count last bytes rest → AreRows encode valid number first count bytes xs → length rest ≡ 0
  nothing_after count last bytes rest xs r are =
      let t = rows_after encode valid number size is r.rows xs rest r.each are.each (sym r.whole ∙ are.encoded) in
      let long : length t.0 ≡ 0 = omega (arith, are.counted, r.counted, ap length t.1, length-append r.rows t.0) in
      ap length t.2 ∙ rows-size encode valid number size is t.0 ∙ ap (λ (k : ℕ). k * size) long ∙ (let z : 0 * size ≡ 0 = omega arith in z)

  -- one entry at the front
  pub front_one : (rest : List ℕ) (x y : X) → IsFront encode valid size rest x → IsFront encode valid size rest y → x ≡ y
  front_one rest x y f g = is.apart x y (drop size rest) (drop size rest) f.valid_is g.valid_is (sym f.encoded ∙ g.encoded)

-- the first n entries are kept
pub record HasKept {X : Type 0} (encode : X → List ℕ) (xs kept : List X) (n : ℕ) (rest : List ℕ) : Type 0 where
  pub whole : kept ++ drop n xs ≡ xs
  pub there : rest ≡ flat_map encode (drop n xs)

module _ {X : Type 0} (encode : X → List ℕ) (valid : X → Type 0) (number : X → ℕ) (size : ℕ) (is : IsEncoding encode valid size) (first count : ℕ) (bytes : List ℕ) (xs : List X) (are : AreRows encode valid number first count bytes xs) where
  drop_more : (n : ℕ) (ys : List X) → n < length ys → (x : X) × (drop n ys ≡ x ∷ drop (n + 1) ys)
  drop_more n [] lt = absurd (omega (arith, lt))
  drop_more zero (y ∷ ys) lt = (y, refl)
  drop_more (suc n) (y ∷ ys) lt =
      let t = drop_more n ys (omega (arith, lt)) in
      let e : suc (n + 1) ≡ suc n + 1 = omega arith in
      (t.0, t.1 ∙ ap (λ (l : List X). t.0 ∷ l) (ap (λ (k : ℕ). drop k (y ∷ ys)) e))

  all_drop : (n : ℕ) (ys : List X) → AllByRecursion valid ys → AllByRecursion valid (drop n ys)
  all_drop zero ys all = all
  all_drop (suc n) [] all = all
  all_drop (suc n) (y ∷ ys) all = all_drop n ys all.1

  pub kept_start : HasKept encode xs [] 0 bytes
  kept_start = record { whole = refl; there = are.encoded }

  -- the next entry at the front
  pub kept_front : (kept : List X) (n : ℕ) (rest : List ℕ) → HasKept encode xs kept n rest → n < count → (x : X) × IsFront encode valid size rest x × (drop n xs ≡ x ∷ drop (n + 1) xs)
  kept_front kept n rest k lt =
      let d = drop_more n xs (omega (arith, lt, are.counted)) in
      let e : rest ≡ encode d.0 ++ flat_map encode (drop (n + 1) xs) = k.there ∙ ap (flat_map encode) d.1 in (
        d.0,
        record {
          valid_is = (subst (AllByRecursion valid) d.1 (all_drop n xs are.each)).0;
          encoded = e ∙ ap (λ (t : List ℕ). encode d.0 ++ t) (sym (ap (drop size) e ∙ drop_at (encode d.0) (flat_map encode (drop (n + 1) xs)) size (is.size_is d.0)));
        },
        d.1,
      )

  pub kept_on : (kept : List X) (n : ℕ) (rest : List ℕ) (x : X) → HasKept encode xs kept n rest → n < count → IsFront encode valid size rest x → HasKept encode xs (kept ++ x ∷ []) (n + 1) (drop size rest)
  kept_on kept n rest x k lt front =
      let t = kept_front kept n rest k lt in
      let same : t.0 ≡ x = front_one encode valid number size is first rest t.0 x t.1 front in
      let e : drop n xs ≡ x ∷ drop (n + 1) xs = t.2 ∙ ap (λ (h : X). h ∷ drop (n + 1) xs) same in
      record {
        whole = append_assoc kept (x ∷ []) (drop (n + 1) xs) ∙ ap (λ (l : List X). kept ++ l) (sym e) ∙ k.whole;
        there = ap (drop size) (k.there ∙ ap (flat_map encode) e) ∙ drop_at (encode x) (flat_map encode (drop (n + 1) xs)) size (is.size_is x);
      }

  pub kept_all : (kept : List X) (n : ℕ) (rest : List ℕ) → HasKept encode xs kept n rest → count ≤ n → kept ≡ xs
  kept_all kept n rest k le =
      sym (append-nil kept) ∙ ap (λ (l : List X). kept ++ l) (sym (over n xs (omega (arith, le, are.counted)))) ∙ k.whole
    where
      over : (m : ℕ) (ys : List X) → length ys ≤ m → drop m ys ≡ []
      over zero [] le = refl
      over zero (y ∷ ys) le = absurd (omega (arith, le))
      over (suc m) [] le = refl
      over (suc m) (y ∷ ys) le = over m ys (omega (arith, le))
