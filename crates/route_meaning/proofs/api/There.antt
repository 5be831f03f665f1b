-- A question of a moment has rows: over changes that are made of values there is a list of them.
use Rattle.std.proofs.Common.{◌≡◌, ℕ, zero, suc, ◌<◌, ◌⊎◌, List, [], ◌∷◌, ◌++◌, length, Bool, true, false, ltb, cond, refl, sym, ap, ◌∙◌, inl, inr, arith, subst, Some, None, Option, Contains}
use Rattle.std.specs.Prelude.{take, nat_lt}
use Rattle.std.specs.List.{AllByRecursion}
use Rattle.std.specs.Ordering.{is_eq}
use Rattle.std.proofs.lemmas.Bool.{cases_Bool, ltb-true, ltb-false}
use Rattle.std.proofs.lemmas.Option.{same_Some, none-some}
use Rattle.route_model.specs.declared.peer.Peer.{Peer}
use Rattle.route_model.specs.declared.route.Route.{Route}
use Rattle.route_model.specs.declared.change.Change.{Change}
use Rattle.route_model.specs.declared.change.Change.TheVariants.{Announce, Withdraw, Down}
use Rattle.route_model.specs.Prefix.{IpPrefix}
use Rattle.route_model.specs.Admission.{Admitted, IsChange}
use Rattle.route_meaning.specs.declared.question.Spot.{Spot}
use Rattle.route_meaning.specs.declared.question.Row.{Row}
use Rattle.route_meaning.specs.declared.question.Select.{Select}
use Rattle.route_meaning.specs.declared.question.RowsQuestion.{RowsQuestion}
use Rattle.route_meaning.specs.declared.question.RowsRange.{RowsRange}
use Rattle.route_meaning.specs.Merged.{Placed}
use Rattle.route_meaning.specs.Holds.{until, changes_of}
use Rattle.route_meaning.specs.Rows.{row_number, spot_number, AreRising, IsRow, AreRows, IsAnswer, most_rows}
use Rattle.route_meaning.specs.inner.Replay.{spot, row_at, IsSpot, is_expected, route_after}
use Rattle.route_meaning.proofs.Holding.{both, Holds-after, after-Holds}
use Rattle.route_meaning.proofs.Spots.{same_spot, spot_cmp-numbers, cmp_equal}
use Rattle.route_meaning.proofs.Answering.{selects_is, above_is, within_is, expected_row}
use Rattle.route_meaning.proofs.api.Sorting.{all_weaker, all_append, all_filter}

-- ---- one row more, in its place

-- the row in its place among these, where none of its number stands there
abbrev put : Row → List Row → List Row
put r [] = r ∷ []
put r (x ∷ xs) = cond (ltb (row_number r) (row_number x)) (r ∷ x ∷ xs) (cond (ltb (row_number x) (row_number r)) (x ∷ put r xs) (x ∷ xs))

put_all : (P : Row → Type 0) (r : Row) (rows : List Row) → P r → AllByRecursion P rows → AllByRecursion P (put r rows)
put_all P r [] one all = (one, tt)
put_all P r (x ∷ xs) one all = elim (cases_Bool (ltb (row_number r) (row_number x))) [
  | inl before ↦ rw before (one, all)
  | inr beyond ↦ elim (cases_Bool (ltb (row_number x) (row_number r))) [
    | inl later ↦ rw (beyond, later) (all.0, put_all P r xs one all.1)
    | inr same ↦ rw (beyond, same) all
  ]
]

put_rises : (r : Row) (rows : List Row) → AreRising rows → AreRising (put r rows)
put_rises r [] rising = (tt, tt)
put_rises r (x ∷ xs) rising = elim (cases_Bool (ltb (row_number r) (row_number x))) [
  | inl before ↦
      let lt = ltb-true (row_number r) (row_number x) before in
      rw before ((lt, all_weaker _ _ (λ next h. let h' : row_number x < row_number next = h in omega arith) xs rising.0), rising)
  | inr beyond ↦ elim (cases_Bool (ltb (row_number x) (row_number r))) [
    | inl later ↦ rw (beyond, later) (put_all (λ next. row_number x < row_number next) r xs (ltb-true (row_number x) (row_number r) later) rising.0, put_rises r xs rising.1)
    | inr same ↦ rw (beyond, same) rising
  ]
]

pub has_later : (x : Row) (xs : List Row) (r : Row) → Contains xs r → Contains (x ∷ xs) r
has_later x xs r h = (suc h.0, omega (arith, h.1), h.2)

pub first_or_later : (y : Row) (ys : List Row) (r : Row) → Contains (y ∷ ys) r → (y ≡ r) ⊎ Contains ys r
first_or_later y ys r (zero, lt, e) = inl e
first_or_later y ys r (suc k, lt, e) = inr (k, omega arith, e)

put_has : (P : Row → Type 0) (r : Row) (rows : List Row) → ((x : Row) → P x → row_number x ≡ row_number r → x ≡ r) → AllByRecursion P rows → Contains (put r rows) r
put_has P r [] one all = (0, omega arith, refl)
put_has P r (x ∷ xs) one all = elim (cases_Bool (ltb (row_number r) (row_number x))) [
  | inl before ↦ rw before (0, omega arith, refl)
  | inr beyond ↦ elim (cases_Bool (ltb (row_number x) (row_number r))) [
    | inl later ↦ rw (beyond, later) (has_later x (put r xs) r (put_has P r xs one all.1))
    | inr same ↦
        let low = ltb-false (row_number r) (row_number x) beyond in
        let high = ltb-false (row_number x) (row_number r) same in
        rw (beyond, same) (0, omega arith, one x all.0 (omega arith))
  ]
]

put_keeps : (r : Row) (rows : List Row) (y : Row) → Contains rows y → Contains (put r rows) y
put_keeps r [] y h = absurd (omega (arith, h.1))
put_keeps r (x ∷ xs) y h = elim (cases_Bool (ltb (row_number r) (row_number x))) [
  | inl before ↦ rw before (has_later r (x ∷ xs) y h)
  | inr beyond ↦ elim (cases_Bool (ltb (row_number x) (row_number r))) [
    | inl later ↦ rw (beyond, later) (elim (first_or_later x xs y h) [
      | inl here ↦ (0, omega arith, here)
      | inr rest ↦ has_later x (put r xs) y (put_keeps r xs y rest)
    ])
    | inr same ↦ rw (beyond, same) h
  ]
]

-- ---- what the changes announce

-- some change announces a route of the prefix of the peer
abbrev Announces : Peer → IpPrefix → List Change → Type 0
Announces peer prefix [] = ⊥
Announces peer prefix (change ∷ changes) = ((route : Route) × (change ≡ Announce peer prefix route)) ⊎ Announces peer prefix changes

announces_there : (peer : Peer) (prefix : IpPrefix) (route : Route) (before after : List Change) → Announces peer prefix (before ++ Announce peer prefix route ∷ after)
announces_there peer prefix route [] after = inl (route, refl)
announces_there peer prefix route (change ∷ before) after = inr (announces_there peer prefix route before after)

-- spots of one number are one
same_number : (s t : Spot) → IsSpot s → IsSpot t → spot_number s ≡ spot_number t → s ≡ t
same_number s t is it e = same_spot s t (ap is_eq (sym (spot_cmp-numbers s t is it) ∙ cmp_equal (spot_number s) (spot_number t) e))

module _ (ps : List (Placed Admitted)) (moment : ℕ) (w : RowsRange) where
  -- the row is one, and its spot is made of values
  abbrev Is : Row → Type 0
  Is row = IsRow ps moment w.select w.low w.high row × IsSpot (spot row.peer row.prefix)

  row_route : (row : Row) → IsRow ps moment w.select w.low w.high row → route_after row.peer row.prefix None (changes_of (until moment ps)) ≡ Some row.route
  row_route row is = Holds-after ps moment row.peer row.prefix row.route is.holds

  same_row : (x r : Row) → Is x → Is r → row_number x ≡ row_number r → x ≡ r
  same_row x r ix ir e =
      let spots : spot x.peer x.prefix ≡ spot r.peer r.prefix = same_number (spot x.peer x.prefix) (spot r.peer r.prefix) ix.1 ir.1 e in
      let routes : x.route ≡ r.route = same_Some x.route r.route
      (sym (row_route x ix.0) ∙ (ap (λ (s : Spot). route_after s.peer s.prefix None (changes_of (until moment ps))) spots ∙ row_route r ir.0)) in
      λ i. record { peer = (spots i).peer; prefix = (spots i).prefix; route = routes i }

  -- the rows of the spots that the changes announce, or of this one
  record Gathered (Here : Row → Type 0) : Type 0 where
    rows : List Row
    rising : AreRising rows
    only : AllByRecursion Is rows
    each : (row : Row) → IsRow ps moment w.select w.low w.high row → Here row → Contains rows row

  abbrev AtOrIn : Spot → (Row → Type 0) → Row → Type 0
  AtOrIn s Here row = (spot row.peer row.prefix ≡ s) ⊎ Here row

  with_route : (s : Spot) (Here : Row → Type 0) (found : Option Route) → IsSpot s → is_expected w s ≡ true → route_after s.peer s.prefix None (changes_of (until moment ps)) ≡ found → Gathered Here → Gathered (AtOrIn s Here)
  with_route s Here None valid need e g = record {
    rows = g.rows;
    rising = g.rising;
    only = g.only;
    each = λ row is here. elim here [
      | inl at ↦ absurd (none-some row.route (sym e ∙ (ap (λ (t : Spot). route_after t.peer t.prefix None (changes_of (until moment ps))) (sym at) ∙ row_route row is)))
      | inr rest ↦ g.each row is rest
    ];
  }
  with_route s Here (Some route) valid need e g =
      let r = row_at s route in
      let h = both _ _ need in
      let i = both _ _ h.1 in
      let is_r : Is r = (
        record {
          selected = selects_is w.select s.peer s.prefix h.0;
          above = above_is w.low (spot_number s) i.0;
          within = within_is w.high (spot_number s) i.1;
          holds = after-Holds ps moment s.peer s.prefix route e;
        },
        valid,
      ) in
      record {
        rows = put r g.rows;
        rising = put_rises r g.rows g.rising;
        only = put_all Is r g.rows is_r g.only;
        each = λ row is here. elim here [
          | inl at ↦
              let routes : row.route ≡ route = same_Some row.route route (sym (row_route row is) ∙ (ap (λ (t : Spot). route_after t.peer t.prefix None (changes_of (until moment ps))) at ∙ e)) in
              let same : row ≡ r = λ j. record { peer = (at j).peer; prefix = (at j).prefix; route = routes j } in
              subst (Contains (put r g.rows)) (sym same) (put_has Is r g.rows (λ x ix n. same_row x r ix is_r n) g.only)
          | inr rest ↦ put_keeps r g.rows row (g.each row is rest)
        ];
      }

  with_spot : (s : Spot) (Here : Row → Type 0) → IsSpot s → Gathered Here → Gathered (AtOrIn s Here)
  with_spot s Here valid g = elim (cases_Bool (is_expected w s)) [
    | inl need ↦ with_route s Here (route_after s.peer s.prefix None (changes_of (until moment ps))) valid need refl g
    | inr unwanted ↦ record {
      rows = g.rows;
      rising = g.rising;
      only = g.only;
      each = λ row is here. elim here [
        | inl at ↦ absurd (let e : true ≡ false = sym (expected_row ps moment w row is) ∙ (ap (is_expected w) at ∙ unwanted) in cc)
        | inr rest ↦ g.each row is rest
      ];
    }
  ]

  with_fewer : (Here There : Row → Type 0) → ((row : Row) → There row → Here row) → Gathered Here → Gathered There
  with_fewer Here There f g = record { rows = g.rows; rising = g.rising; only = g.only; each = λ row is there. g.each row is (f row there) }

  gathered : (changes : List Change) → AllByRecursion IsChange changes → Gathered (λ row. Announces row.peer row.prefix changes)
  gathered [] valid = record { rows = []; rising = tt; only = tt; each = λ row is none. absurd none }
  gathered (Announce p x route ∷ changes) valid =
      with_fewer _ _
      (λ row there. elim there [
        | inl here ↦ inl (let e : Announce p x route ≡ Announce row.peer row.prefix here.0 = here.1 in let peer : row.peer ≡ p = cc in let prefix : row.prefix ≡ x = cc in λ i. spot (peer i) (prefix i))
        | inr later ↦ inr later
      ])
      (with_spot (spot p x) (λ row. Announces row.peer row.prefix changes) (valid.0.0, valid.0.1) (gathered changes valid.1))
  gathered (Withdraw p x ∷ changes) valid =
      with_fewer _ _ (λ row there. elim there [ inl here ↦ absurd (let e : Withdraw p x ≡ Announce row.peer row.prefix here.0 = here.1 in cc) | inr later ↦ later ]) (gathered changes valid.1)
  gathered (Down p ∷ changes) valid =
      with_fewer _ _ (λ row there. elim there [ inl here ↦ absurd (let e : Down p ≡ Announce row.peer row.prefix here.0 = here.1 in cc) | inr later ↦ later ]) (gathered changes valid.1)

all_changes : (ps : List (Placed Admitted)) → AllByRecursion (λ p. AllByRecursion IsChange p.item.changes) ps → AllByRecursion IsChange (changes_of ps)
all_changes [] all = tt
all_changes (p ∷ ps) all = all_append IsChange p.item.changes (changes_of ps) all.0 (all_changes ps all.1)

-- over admissions whose changes are made of values there are the rows of each range at each moment
pub rows_there : (ps : List (Placed Admitted)) (moment : ℕ) (select : Select) (low high : Option Spot) → AllByRecursion (λ p. AllByRecursion IsChange p.item.changes) ps → (rows : List Row) × AreRows ps moment select low high rows
rows_there ps moment select low high all =
    let w : RowsRange = record { select = select; low = low; high = high } in
    let g = gathered ps moment w (changes_of (until moment ps)) (all_changes (until moment ps) (all_filter _ _ ps all)) in (
      g.rows,
      record {
        rising = g.rising;
        only = all_weaker _ _ (λ row is. is.0) g.rows g.only;
        each = λ row is. g.each row is (subst (Announces row.peer row.prefix) (sym is.holds.announced) (announces_there row.peer row.prefix row.route is.holds.before is.holds.after));
      },
    )

pub answer_there : (ps : List (Placed Admitted)) (q : RowsQuestion) → AllByRecursion (λ p. AllByRecursion IsChange p.item.changes) ps → (rows : List Row) × (more : Bool) × IsAnswer ps q rows more
answer_there ps q all =
    let there = rows_there ps q.moment q.select q.after None all in
    (take most_rows there.0, nat_lt most_rows (length there.0), record { all = there.0; are = there.1; first = refl; rest = refl })
