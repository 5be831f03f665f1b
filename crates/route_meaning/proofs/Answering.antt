-- From the table to the rows.
use Rattle.std.proofs.Common.{◌≡◌, ℕ, suc, ◌<◌, inl, inr, List, [], ◌∷◌, length, map, Bool, true, false, not, ltb, Some, None, Option, refl, sym, ap, ◌∙◌, arith, Contains, Bor}
use Rattle.std.specs.List.{AllByRecursion}
use Rattle.std.specs.List.Sorted.{IsStrictlySortedBy}
use Rattle.std.specs.Map.{lookup, keys_of}
use Rattle.std.specs.Map.Iter.{deref_pair}
use Rattle.std.specs.Ordering.{is_eq, ordering_reverse}
use Rattle.std.specs.declared.cmp.Ordering.TheVariants.{Less}
use Rattle.std.specs.BTreeMap.{BTreeMap, get, IsOrdered}
use Rattle.std.proofs.lemmas.Bool.{cases_Bool, ltb-true, ltb-false, lt-ltb, le-ltb}
use Rattle.std.proofs.lemmas.Option.{same_Some, none-some}
use Rattle.route_model.specs.declared.peer.Peer.{Peer}
use Rattle.route_model.specs.declared.address.Address.{Address}
use Rattle.route_model.specs.declared.address.Address.TheVariants.{V4, V6}
use Rattle.route_model.specs.Address.{family, octets, IsAddress}
use Rattle.route_model.specs.Prefix.{IpPrefix, cleared_address}
use Rattle.route_model.specs.declared.route.Route.{Route}
use Rattle.route_meaning.specs.declared.question.Spot.{Spot}
use Rattle.route_meaning.specs.declared.question.Row.{Row}
use Rattle.route_meaning.specs.declared.question.Select.{Select}
use Rattle.route_meaning.specs.declared.question.Select.TheVariants.{Route as OneRoute, ByPrefix, Covering, PeerTable, All as Everything}
use Rattle.route_model.specs.Admission.{Admitted}
use Rattle.route_meaning.specs.Merged.{Placed}
use Rattle.route_meaning.specs.Holds.{same_address, same_peer, same_prefix, until, changes_of}
use Rattle.route_meaning.specs.Rows.{Selects, row_number, spot_number, IsAbove, IsWithin, AreRising, IsRow, AreRows}
use Rattle.route_meaning.specs.declared.question.RowsRange.{RowsRange}
use Rattle.route_meaning.specs.inner.Replay.{spot_cmp, spot, IsSpot, selects, is_above, is_within, is_expected, IsTable, row_at}
use Rattle.route_meaning.proofs.Holding.{both, all_true, same_address-true, same_address-itself, same_peer-true, same_prefix-true, same_peer-itself, same_prefix-itself, Holds-after, after-Holds}
use Rattle.route_meaning.proofs.Spots.{spot_cmp_total, spot_cmp-itself, same_spot, spots_below}

-- ---- what is asked for

family-cleared : (n : ℕ) (a : Address) → family (cleared_address n a) ≡ family a
family-cleared n (V4 o) = refl
family-cleared n (V6 o) = refl

pub selects_is : (select : Select) (peer : Peer) (prefix : IpPrefix) → selects select peer prefix ≡ true → Selects select peer prefix
selects_is (OneRoute p x) peer prefix e = let h = both _ _ e in (same_peer-true peer p h.0, same_prefix-true prefix x h.1)
selects_is (ByPrefix x) peer prefix e = same_prefix-true prefix x e
selects_is (Covering address) peer prefix e =
    let same : cleared_address prefix.length address ≡ prefix.address = same_address-true _ _ e in
    (ap family (sym same) ∙ family-cleared prefix.length address, same)
selects_is (PeerTable p) peer prefix e = same_peer-true peer p e
selects_is Everything peer prefix e = tt

is_selects : (select : Select) (peer : Peer) (prefix : IpPrefix) → Selects select peer prefix → selects select peer prefix ≡ true
is_selects (OneRoute p x) peer prefix h = all_true _ _ (ap (λ (q : Peer). same_peer q p) h.0 ∙ same_peer-itself p) (ap (λ (y : IpPrefix). same_prefix y x) h.1 ∙ same_prefix-itself x)
is_selects (ByPrefix x) peer prefix h = ap (λ (y : IpPrefix). same_prefix y x) h ∙ same_prefix-itself x
is_selects (Covering address) peer prefix h = ap (λ (a : Address). same_address a prefix.address) h.1 ∙ same_address-itself prefix.address
is_selects (PeerTable p) peer prefix h = ap (λ (q : Peer). same_peer q p) h ∙ same_peer-itself p
is_selects Everything peer prefix h = refl

pub above_is : (low : Option Spot) (n : ℕ) → is_above low n ≡ true → IsAbove low n
above_is None n e = tt
above_is (Some l) n e = ltb-true _ _ e

is_above_of : (low : Option Spot) (n : ℕ) → IsAbove low n → is_above low n ≡ true
is_above_of None n h = refl
is_above_of (Some l) n h = lt-ltb _ _ h

pub within_is : (high : Option Spot) (n : ℕ) → is_within high n ≡ true → IsWithin high n
within_is None n e = tt
within_is (Some h) n e = ltb-false _ _ (not_true (ltb (spot_number h) n) e)
  where
    not_true : (b : Bool) → not b ≡ true → b ≡ false
    not_true true e' = cc
    not_true false e' = refl

is_within_of : (high : Option Spot) (n : ℕ) → IsWithin high n → is_within high n ≡ true
is_within_of None n h = refl
is_within_of (Some l) n h = ap not (le-ltb (spot_number l) n h)

-- a row's spot is asked for
pub expected_row : (ps : List (Placed Admitted)) (moment : ℕ) (w : RowsRange) (row : Row) → IsRow ps moment w.select w.low w.high row → is_expected w (spot row.peer row.prefix) ≡ true
expected_row ps moment w row h =
    all_true _ _ (is_selects w.select row.peer row.prefix h.selected) (all_true _ _ (is_above_of w.low (row_number row) h.above) (is_within_of w.high (row_number row) h.within))

-- ---- the entries of the table

head_below : (s : Spot) (e : Spot × Route) → spot_cmp e.0 s ≡ Less → is_eq (spot_cmp s e.0) ≡ false
head_below s e less = ap is_eq (spot_cmp_total.antisymm s e.0 ∙ ap ordering_reverse less)

found_later : (e : Spot × Route) (all : List (Spot × Route)) (es : List (Spot × Route)) → AllByRecursion (λ k. spot_cmp e.0 k ≡ Less) (keys_of es) → AllByRecursion (λ d. lookup (λ k. is_eq (spot_cmp d.0 k)) all ≡ Some d.1) es → AllByRecursion (λ d. lookup (λ k. is_eq (spot_cmp d.0 k)) (e ∷ all) ≡ Some d.1) es
found_later e all [] below a = tt
found_later e all (d ∷ ds) below a = (rw (head_below d.0 e below.0) a.0, found_later e all ds below.1 a.1)

pub each_found : (es : List (Spot × Route)) → IsStrictlySortedBy spot_cmp (keys_of es) → AllByRecursion (λ d. lookup (λ k. is_eq (spot_cmp d.0 k)) es ≡ Some d.1) es
unfolding IsStrictlySortedBy
each_found [] sorted = tt
each_found (e ∷ es) sorted = (rw (spot_cmp-itself e.0) refl, found_later e es es sorted.0 (each_found es sorted.1))

abbrev rows_of : List (Spot × Route) → List Row
rows_of es = map (λ e. row_at e.0 e.1) es

below_rows : (s : Spot) (es : List (Spot × Route)) → IsSpot s → AllByRecursion (λ e. IsSpot e.0) es → AllByRecursion (λ k. spot_cmp s k ≡ Less) (keys_of es) → AllByRecursion (λ (next : Row). spot_number s < row_number next) (rows_of es)
below_rows s [] is v a = tt
below_rows s (e ∷ es) is v a = (spots_below s e.0 is v.0 a.0, below_rows s es is v.1 a.1)

pub rise : (es : List (Spot × Route)) → AllByRecursion (λ e. IsSpot e.0) es → IsStrictlySortedBy spot_cmp (keys_of es) → AreRising (rows_of es)
unfolding IsStrictlySortedBy
rise [] v sorted = tt
rise (e ∷ es) v sorted = (below_rows e.0 es v.0 v.1 sorted.0, rise es v.1 sorted.1)

contains_row : (s : Spot) (route : Route) (es : List (Spot × Route)) → lookup (λ k. is_eq (spot_cmp s k)) es ≡ Some route → Contains (rows_of es) (row_at s route)
contains_row s route [] e = absurd (none-some route e)
contains_row s route (d ∷ ds) e = elim (cases_Bool (is_eq (spot_cmp s d.0))) [
  | inl hit ↦ (
    0,
    omega arith,
    let same : s ≡ d.0 = same_spot s d.0 hit in
        let value : d.1 ≡ route = same_Some d.1 route (sym (rw hit refl) ∙ e) in
        λ i. row_at (sym same i) (value i),
  )
  | inr miss ↦ let rest = contains_row s route ds (sym (rw miss refl) ∙ e) in (suc rest.0, omega (arith, rest.1), rest.2)
]

module _ (ps : List (Placed Admitted)) (moment : ℕ) (w : RowsRange) (table : BTreeMap Spot Route) (t : IsTable w (changes_of (until moment ps)) table) where
  abbrev Held : Spot × Route → Type 0
  Held d = IsRow ps moment w.select w.low w.high (row_at d.0 d.1)

  row_is : (s : Spot) (route : Route) → get spot_cmp table s ≡ Some route → IsRow ps moment w.select w.low w.high (row_at s route)
  row_is s route e = elim (cases_Bool (is_expected w s)) [
    | inl need ↦ (
        let h = both _ _ need in let i = both _ _ h.1 in
        record {
          selected = selects_is w.select s.peer s.prefix h.0;
          above = above_is w.low (spot_number s) i.0;
          within = within_is w.high (spot_number s) i.1;
          holds = after-Holds ps moment s.peer s.prefix route (sym (t.at s ∙ rw need refl) ∙ e);
        })
    | inr not_expected ↦ absurd (none-some route (sym (t.at s ∙ rw not_expected refl) ∙ e))
  ]

  all_rows : (es : List (Spot × Route)) → AllByRecursion (λ d. get spot_cmp table d.0 ≡ Some d.1) es → AllByRecursion (IsRow ps moment w.select w.low w.high) (rows_of es)
  all_rows [] a = tt
  all_rows (e ∷ es) a = (row_is e.0 e.1 a.0, all_rows es a.1)

  row_found : (row : Row) → IsRow ps moment w.select w.low w.high row → get spot_cmp table (spot row.peer row.prefix) ≡ Some row.route
  row_found row h = t.at (spot row.peer row.prefix) ∙ rw (expected_row ps moment w row h) (Holds-after ps moment row.peer row.prefix row.route h.holds)

  all_spots : (es : List (Spot × Route)) → AllByRecursion (λ d. get spot_cmp table d.0 ≡ Some d.1) es → AllByRecursion (λ e. IsSpot e.0) es
  all_spots [] a = tt
  all_spots (e ∷ es) a = (t.valid e.0 e.1 a.0, all_spots es a.1)

  pub answered : IsOrdered spot_cmp table → AreRows ps moment w.select w.low w.high (map (λ e. row_at e.0 e.1) table.entries)
  answered ordered = record {
    rising = rise table.entries (all_spots table.entries (each_found table.entries ordered)) ordered;
    only = all_rows table.entries (each_found table.entries ordered);
    each = λ row h. contains_row (spot row.peer row.prefix) row.route table.entries (row_found row h);
  }

-- the entries that a walk over the table showed
pub rows_shown : (es : List (Bor Spot × Bor Route)) → map (λ e. row_at e.0 e.1) (map deref_pair es) ≡ map (λ e. row_at e.0.now e.1.now) es
rows_shown [] = refl
rows_shown (e ∷ es) = ap (λ l. row_at e.0.now e.1.now ∷ l) (rows_shown es)

-- addresses of one family have as many octets
pub same_width : (a b : Address) → IsAddress a → IsAddress b → family a ≡ family b → length (octets a) ≡ length (octets b)
same_width (V4 a) (V4 b) h k e = h.0 ∙ sym k.0
same_width (V4 a) (V6 b) h k e = absurd (omega arith)
same_width (V6 a) (V4 b) h k e = absurd (omega arith)
same_width (V6 a) (V6 b) h k e = h.0 ∙ sym k.0
