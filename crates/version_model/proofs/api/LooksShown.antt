-- What lookups return in a leaf is what they return over all versions.
use Rattle.std.proofs.Common.{◌≡◌, Option, ℕ, zero, suc, ◌<◌, ◌≤◌, ◌⊎◌, inl, inr, List, [], ◌∷◌, filter, Some, None, slice_get, refl, sym, ◌∙◌, ap, arith, Bool, true, false, nat_le, nat_lt, nat_eq, ◌&&◌}
use Rattle.std.proofs.lemmas.Bool.{and_parts, and_from, eqb-true, leb-true, ltb-true, eq-eqb, le-leb, lt-ltb, cases_Bool}
use Rattle.std.proofs.lemmas.Option.{same_Some}
use Rattle.version_model.specs.Versions.{Version, Has, IsRising}
use Rattle.version_model.specs.Ranges.{Range, IsKeyOf, IsPoint, key_end, until, end_or}
use Rattle.version_model.specs.LeafVersions.{LeafRepresents}
use Rattle.version_model.specs.Looks.{NoneWithin, Reached, At, Past, End, IsReached, reached_to, is_of, IsPart}
use Rattle.version_model.proofs.api.Pushed.{Has-nil}
use Rattle.version_model.proofs.api.Shown.{answers_shown}

pub Has-tail : (v : Version) (vs : List Version) (x : Version) → Has vs x → Has (v ∷ vs) x
Has-tail v vs x h = record { place = suc h.place; is = h.is }

pub Has-head : (v : Version) (vs : List Version) → Has (v ∷ vs) v
Has-head v vs = record { place = 0; is = refl }

at_cases : (v : Version) (vs : List Version) (x : Version) (place : ℕ) → slice_get (v ∷ vs) place ≡ Some x → (x ≡ v) ⊎ Has vs x
at_cases v vs x zero is = inl (sym (same_Some v x is))
at_cases v vs x (suc i) is = inr (record { place = i; is = is })

pub Has-cases : (v : Version) (vs : List Version) (x : Version) → Has (v ∷ vs) x → (x ≡ v) ⊎ Has vs x
Has-cases v vs x h = at_cases v vs x h.place h.is

pub rising_tail : (v : Version) (vs : List Version) → IsRising (v ∷ vs) → IsRising vs
rising_tail v vs h = record { rises = λ i j x y lt at_i at_j. h.rises (suc i) (suc j) x y (omega arith) at_i at_j }

pub above_head : (v : Version) (vs : List Version) (x : Version) → IsRising (v ∷ vs) → Has vs x → v.stamp < x.stamp
above_head v vs x rising h = rising.rises 0 (suc h.place) v x (omega arith) refl h.is

-- the first of two rising lists with the same members are one
same_head : (v : Version) (vs : List Version) (w : Version) (ws : List Version) → IsRising (v ∷ vs) → IsRising (w ∷ ws) → Has (w ∷ ws) v → Has (v ∷ vs) w → v ≡ w
same_head v vs w ws a b has_v has_w = elim (Has-cases w ws v has_v) [
  | inl is ↦ is
  | inr later ↦ elim (Has-cases v vs w has_w) [
    | inl is ↦ sym is
    | inr later' ↦ absurd (omega (arith, above_head w ws v b later, above_head v vs w a later'))
  ]
]

in_tail : (v : Version) (vs : List Version) (w : Version) (ws : List Version) (x : Version) → v ≡ w → IsRising (v ∷ vs) → Has vs x → Has (w ∷ ws) x → Has ws x
in_tail v vs w ws x same a h i = elim (Has-cases w ws x i) [
  | inl is ↦ absurd (omega (arith, above_head v vs x a h, ap (λ (y : Version). y.stamp) is, ap (λ (y : Version). y.stamp) same))
  | inr later ↦ later
]

-- two rising lists with the same members are one
pub rising_one : (vs ws : List Version) → IsRising vs → IsRising ws → ((x : Version) → Has vs x → Has ws x) → ((x : Version) → Has ws x → Has vs x) → vs ≡ ws
rising_one [] [] a b to from = refl
rising_one [] (w ∷ ws) a b to from = absurd (Has-nil w (from w (Has-head w ws)))
rising_one (v ∷ vs) [] a b to from = absurd (Has-nil v (to v (Has-head v vs)))
rising_one (v ∷ vs) (w ∷ ws) a b to from =
    let same : v ≡ w = same_head v vs w ws a b (to v (Has-head v vs)) (from w (Has-head w ws)) in
    let rest : vs ≡ ws = rising_one vs ws (rising_tail v vs a) (rising_tail w ws b)
    (λ x h. in_tail v vs w ws x same a h (to x (Has-tail v vs x h)))
    (λ x h. in_tail w ws v vs x (sym same) b h (from x (Has-tail w ws x h))) in
    ap (λ y. y ∷ vs) same ∙ ap (λ ys. w ∷ ys) rest

-- what passes is a member that passes
abbrev pub Kept : (Version → Bool) → List Version → Version → Type 0
Kept p vs x = Has vs x × (p x ≡ true)

filter-cons : (p : Version → Bool) (v : Version) (vs : List Version) (b : Bool) → p v ≡ b → (x : Version) → Has (filter p (v ∷ vs)) x → ((x ≡ v) × (p v ≡ true)) ⊎ Has (filter p vs) x
filter-cons p v vs true is x h = (let h' : Has (v ∷ filter p vs) x = rw is at h in elim (Has-cases v (filter p vs) x h') [ inl e ↦ inl (e, is) | inr r ↦ inr r ])
filter-cons p v vs false is x h = (let h' : Has (filter p vs) x = rw is at h in inr h')

pub filter_has : (p : Version → Bool) (vs : List Version) (x : Version) → Has (filter p vs) x → Kept p vs x
filter_has p [] x h = absurd (Has-nil x h)
filter_has p (v ∷ vs) x h = elim (filter-cons p v vs (p v) refl x h) [
  | inl here ↦ (rw here.0 (Has-head v vs), rw here.0 here.1)
  | inr later ↦ (let i = filter_has p vs x later in (Has-tail v vs x i.0, i.1))
]

filter-keep : (p : Version → Bool) (v : Version) (vs : List Version) (b : Bool) → p v ≡ b → (x : Version) → p x ≡ true → (x ≡ v) ⊎ Has (filter p vs) x → Has (filter p (v ∷ vs)) x
filter-keep p v vs true is x passes (inl e) = rw (is, e) (Has-head v (filter p vs))
filter-keep p v vs true is x passes (inr r) = rw is (Has-tail v (filter p vs) x r)
filter-keep p v vs false is x passes (inl e) = absurd (let f : true ≡ false = sym passes ∙ ap p e ∙ is in cc)
filter-keep p v vs false is x passes (inr r) = rw is r

pub has_filter : (p : Version → Bool) (vs : List Version) (x : Version) → Has vs x → p x ≡ true → Has (filter p vs) x
has_filter p [] x h passes = absurd (Has-nil x h)
has_filter p (v ∷ vs) x h passes = filter-keep p v vs (p v) refl x passes (elim (Has-cases v vs x h) [
  | inl e ↦ inl e
  | inr later ↦ inr (has_filter p vs x later passes)
])

rises_cons : (v : Version) (vs : List Version) → IsRising vs → ((x : Version) → Has vs x → v.stamp < x.stamp) → (i j : ℕ) (x y : Version) → i < j → slice_get (v ∷ vs) i ≡ Some x → slice_get (v ∷ vs) j ≡ Some y → x.stamp < y.stamp
rises_cons v vs rising above i zero x y lt at_i at_j = absurd (omega arith)
rises_cons v vs rising above zero (suc j) x y lt at_i at_j = (let e = same_Some v x at_i in omega (arith, above y (record { place = j; is = at_j }), ap (λ (z : Version). z.stamp) e))
rises_cons v vs rising above (suc i) (suc j) x y lt at_i at_j = rising.rises i j x y (omega arith) at_i at_j

-- the first of a rising list is below all that passes in the rest
pub rising_cons : (v : Version) (vs : List Version) → IsRising vs → ((x : Version) → Has vs x → v.stamp < x.stamp) → IsRising (v ∷ vs)
rising_cons v vs rising above = record { rises = λ i j x y lt at_i at_j. rises_cons v vs rising above i j x y lt at_i at_j }

filter-rising_cons : (p : Version → Bool) (v : Version) (vs : List Version) (b : Bool) → p v ≡ b → IsRising (v ∷ vs) → IsRising (filter p vs) → IsRising (filter p (v ∷ vs))
filter-rising_cons p v vs true is rising rest = rw is (rising_cons v (filter p vs) rest (λ x h. above_head v vs x rising (filter_has p vs x h).0))
filter-rising_cons p v vs false is rising rest = rw is rest

pub filter_rising : (p : Version → Bool) (vs : List Version) → IsRising vs → IsRising (filter p vs)
filter_rising p [] rising = rising
filter_rising p (v ∷ vs) rising = filter-rising_cons p v vs (p v) refl rising (filter_rising p vs (rising_tail v vs rising))

-- what the test represents
pub is_of_true : (key from to : ℕ) (v : Version) → is_of key from to v ≡ true → (v.key ≡ key) × (from ≤ v.stamp) × (v.stamp < to)
is_of_true key from to v is =
    let both = and_parts (nat_eq v.key key) (nat_le from v.stamp && nat_lt v.stamp to) is in
    let times = and_parts (nat_le from v.stamp) (nat_lt v.stamp to) both.1 in
    (eqb-true v.key key both.0, leb-true from v.stamp times.0, ltb-true v.stamp to times.1)

pub is_of_yes : (key from to : ℕ) (v : Version) → v.key ≡ key → from ≤ v.stamp → v.stamp < to → is_of key from to v ≡ true
is_of_yes key from to v k f t = and_from (nat_eq v.key key) (nat_le from v.stamp && nat_lt v.stamp to) (eq-eqb v.key key k) (and_from (nat_le from v.stamp) (nat_lt v.stamp to) (le-leb from v.stamp f) (lt-ltb v.stamp to t))

pub is_of_no : (key from to : ℕ) (v : Version) → ((v.key ≡ key) → (from ≤ v.stamp) → (v.stamp < to) → ⊥) → is_of key from to v ≡ false
is_of_no key from to v never = elim (cases_Bool (is_of key from to v)) [
  | inl is ↦ (let h = is_of_true key from to v is in absurd (never h.0 h.1 h.2))
  | inr is ↦ is
]

module _ (all : List Version) (r : Range) (leaf : List Version) (shows : LeafRepresents all r leaf) where
  -- the versions of a key in the leaf from a stamp of its range on are those of the key up to the range's end
  pub part_shown : (key from : ℕ) → IsKeyOf r key → r.start ≤ from → IsRising all → IsRising leaf → filter (is_of key from r.end) leaf ≡ filter (is_of key from r.end) all
  part_shown key from k after rising_all rising_leaf =
      let p = is_of key from r.end in
      rising_one (filter p leaf) (filter p all) (filter_rising p leaf rising_leaf) (filter_rising p all rising_all)
      (λ x h. (let i = filter_has p leaf x h in let is = is_of_true key from r.end x i.1 in
      has_filter p all x (shows.true_ones x i.0 (record { low = omega (arith, k.low, is.0); high = omega (arith, k.high, is.0) }) is.2) i.1))
      (λ x h. (let i = filter_has p all x h in let is = is_of_true key from r.end x i.1 in
      has_filter p leaf x (shows.whole x i.0 (record { low = omega (arith, k.low, is.0); high = omega (arith, k.high, is.0) }) (omega (arith, is.1)) is.2) i.1))

  -- a key of the range that has no value in the leaf has none
  pub none_shown : (s from to : ℕ) → r.low ≤ from → to ≤ r.high → r.start ≤ s → s < r.end → NoneWithin leaf s from to → NoneWithin all s from to
  none_shown s from to low high start end none = λ key above below. answers_shown all r leaf shows key s None (record { low = omega arith; high = omega arith }) start end (none key above below)

  -- what a lookup of the next key returns in the leaf within the range's keys, it returns over all versions
  pub next_shown : (s from : ℕ) (reached : Reached) → IsPoint r from s → reached_to reached ≤ r.high → IsReached leaf s from reached → IsReached all s from reached
  next_shown s from (At key found) point within h = (
    h.0,
    answers_shown all r leaf shows key s (Some found) (record { low = omega (arith, point.low, h.0); high = omega (arith, within) }) point.start point.end h.1,
    none_shown s from key point.low (omega (arith, within)) point.start point.end h.2,
  )
  next_shown s from (Past high) point within h = (h.0, none_shown s from high point.low within point.start point.end h.1)
  next_shown s from End point within h = none_shown s from key_end point.low within point.start point.end h

-- a leaf that shows a range shows it up to an earlier end
until_shown : (all : List Version) (r : Range) (leaf : List Version) (at : ℕ) → at ≤ r.end → LeafRepresents all r leaf → LeafRepresents all (until r at) leaf
until_shown all r leaf at upto shows = record {
  whole = λ v h k from below. shows.whole v h (record { low = k.low; high = k.high }) from (omega arith);
  true_ones = λ v h k below. shows.true_ones v h (record { low = k.low; high = k.high }) (omega arith);
  copies = λ v h k before. shows.copies v h (record { low = k.low; high = k.high }) before;
  spanning = λ v k before h some. shows.spanning v (record { low = k.low; high = k.high }) before h some;
}

-- the versions of a key in the leaf, from a stamp of its range on up to one that it returns, are those of the key
pub reported_shown : (all : List Version) (r : Range) (leaf : List Version) (shows : LeafRepresents all r leaf) (key from : ℕ) (reported : Option ℕ) → IsPoint r key from → IsRising all → IsRising leaf
    → from < end_or reported → end_or reported ≤ r.end → IsPart all key from (filter (is_of key from (end_or reported)) leaf) reported
reported_shown all r leaf shows key from reported point rising rising_leaf above within = record {
  above = above;
  are = part_shown all (until r (end_or reported)) leaf (until_shown all r leaf (end_or reported) within shows) key from (record { low = point.low; high = point.high }) point.start rising rising_leaf;
}
