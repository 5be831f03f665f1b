-- Versions of two keys in the order of stamps.
use Rattle.std.proofs.Common.{◌≡◌, ℕ, ◌<◌, ◌≤◌, ◌&&◌, inl, inr, List, [], ◌∷◌, ◌++◌, Bool, true, false, eqb, ltb, leb, refl, sym, ap, ◌∙◌, arith}
use Rattle.std.specs.Prelude.{◌||◌}
use Rattle.std.specs.List.{AllByRecursion, filter}
use Rattle.std.proofs.lemmas.Bool.{cases_Bool, cases_lt, lt-ltb, le-ltb, lt-leb, le-leb, eqb-true, ne_eqb, false≢true}
use Rattle.route_meaning.specs.Merged.{by_time}
use Rattle.route_meaning.proofs.api.Sorting.{all_weaker, all_append, all_filter, by_time-first}
use Rattle.version_model.specs.Versions.{Version}
use Rattle.route_history.specs.Spans.{stamp_in, AreStampsRising, is_of_two, before}
use Rattle.version_model.specs.Looks.{is_of}

abbrev either : Bool → Bool → Bool
either a b = a || b

-- both lists by stamps are the versions that are in one of them
pub merged_filters : (p q : Version → Bool) (all : List Version) → AreStampsRising all → ((v : Version) → p v ≡ true → q v ≡ false) → by_time stamp_in (filter p all ++ filter q all) ≡ filter (λ v. p v || q v) all
merged_filters p q [] rise apart = refl
merged_filters p q (v ∷ all) rise apart = elim (cases_Bool (p v)) [
  | inl hit ↦ rw (hit, apart v hit) (
      by_time-first stamp_in [] v (filter p all ++ filter q all) tt (all_append _ (filter p all) (filter q all) (all_filter _ p all later) (all_filter _ q all later))
      ∙ ap (λ l. v ∷ l) (merged_filters p q all rise.1 apart))
  | inr miss ↦ elim (cases_Bool (q v)) [
    | inl hit ↦ rw (miss, hit) (
        by_time-first stamp_in (filter p all) v (filter q all) (all_filter _ p all rise.0) (all_filter _ q all later)
        ∙ ap (λ l. v ∷ l) (merged_filters p q all rise.1 apart))
    | inr none ↦ rw (miss, none) (merged_filters p q all rise.1 apart)
  ]
]
  where
    later : AllByRecursion (λ w. v.stamp ≤ w.stamp) all
    later = all_weaker _ _ (λ w h. let lt : v.stamp < w.stamp = h in omega arith) all rise.0

-- ---- fewer of them

pub filter_filter : (p q r : Version → Bool) (xs : List Version) → ((v : Version) → (q v && p v) ≡ r v) → filter p (filter q xs) ≡ filter r xs
filter_filter p q r [] e = refl
filter_filter p q r (v ∷ xs) e = elim (cases_Bool (q v)) [
  | inl hit ↦ rw (hit) (elim (cases_Bool (p v)) [
    | inl also ↦ (let there : r v ≡ true = sym (e v) ∙ rw (hit, also) refl in rw (also, there) (ap (λ l. v ∷ l) (filter_filter p q r xs e)))
    | inr not_also ↦ (let out : r v ≡ false = sym (e v) ∙ rw (hit, not_also) refl in rw (not_also, out) (filter_filter p q r xs e))
  ])
  | inr miss ↦ (let out : r v ≡ false = sym (e v) ∙ rw miss refl in rw (miss, out) (filter_filter p q r xs e))
]

pub filter_as : (p r : Version → Bool) (xs : List Version) → ((v : Version) → p v ≡ r v) → filter p xs ≡ filter r xs
filter_as p r [] e = refl
filter_as p r (v ∷ xs) e = elim (cases_Bool (p v)) [
  | inl hit ↦ (let there : r v ≡ true = sym (e v) ∙ hit in rw (hit, there) (ap (λ l. v ∷ l) (filter_as p r xs e)))
  | inr miss ↦ (let out : r v ≡ false = sym (e v) ∙ miss in rw (miss, out) (filter_as p r xs e))
]

before_of : (key from reported b : ℕ) (v : Version) → b ≤ reported → (is_of key from reported v && before b v) ≡ is_of key from b v
before_of key from reported b v le = elim (cases_lt v.stamp b) [
  | inl lt ↦ rw (lt-ltb v.stamp b lt, lt-ltb v.stamp reported (omega (arith, lt, le))) (and_true (eqb v.key key && (leb from v.stamp && true)))
  | inr ge ↦ rw (le-ltb v.stamp b ge) (and_false (is_of key from reported v) ∙ sym (and_out (eqb v.key key) (leb from v.stamp)))
]
  where
    and_true : (c : Bool) → (c && true) ≡ c
    and_true true = refl
    and_true false = refl

    and_false : (c : Bool) → (c && false) ≡ false
    and_false true = refl
    and_false false = refl

    and_out : (c d : Bool) → (c && (d && false)) ≡ false
    and_out true true = refl
    and_out true false = refl
    and_out false d = refl

two_of : (a b from to : ℕ) (v : Version) → (is_of a from to v || is_of b from to v) ≡ is_of_two a b from to v
two_of a b from to v = law (eqb v.key a) (eqb v.key b) (leb from v.stamp && ltb v.stamp to)
  where
    law : (x y z : Bool) → ((x && z) || (y && z)) ≡ ((x || y) && z)
    law true true true = refl
    law true true false = refl
    law true false true = refl
    law true false false = refl
    law false y z = refl

apart_of : (a b from to : ℕ) (v : Version) → (a ≡ b → ⊥) → is_of a from to v ≡ true → is_of b from to v ≡ false
apart_of a b from to v ne e = elim (cases_Bool (eqb v.key a)) [
  | inl hit ↦ rw (ne_eqb v.key b (λ same. ne (sym (eqb-true v.key a hit) ∙ same))) refl
  | inr miss ↦ absurd (false≢true (sym (rw miss refl) ∙ e))
]

-- two parts, each up to the bound, are together what two keys have up to there
pub parts_merged : (all : List Version) (a b from reported_a reported_b to : ℕ) → AreStampsRising all → (a ≡ b → ⊥) → to ≤ reported_a → to ≤ reported_b → by_time stamp_in (filter (before to) (filter (is_of a from reported_a) all) ++ filter (before to) (filter (is_of b from reported_b) all)) ≡ filter (is_of_two a b from to) all
parts_merged all a b from reported_a reported_b to rise ne la lb =
    ap (λ l. by_time stamp_in (l ++ filter (before to) (filter (is_of b from reported_b) all))) (filter_filter (before to) (is_of a from reported_a) (is_of a from to) all (λ v. before_of a from reported_a to v la))
    ∙ ap (λ l. by_time stamp_in (filter (is_of a from to) all ++ l)) (filter_filter (before to) (is_of b from reported_b) (is_of b from to) all (λ v. before_of b from reported_b to v lb))
    ∙ merged_filters (is_of a from to) (is_of b from to) all rise (λ v e. apart_of a b from to v ne e)
    ∙ filter_as (λ v. is_of a from to v || is_of b from to v) (is_of_two a b from to) all (λ v. two_of a b from to v)

-- ---- further stamps

filter_empty : (p : Version → Bool) (xs : List Version) → AllByRecursion (λ v. p v ≡ false) xs → filter p xs ≡ []
filter_empty p [] a = refl
filter_empty p (v ∷ xs) a = rw a.0 (filter_empty p xs a.1)

pub asked_further : (all : List Version) (a b from at to : ℕ) → AreStampsRising all → from ≤ at → at ≤ to → filter (is_of_two a b from to) all ≡ filter (is_of_two a b from at) all ++ filter (is_of_two a b at to) all
asked_further [] a b from at to rise low high = refl
asked_further (v ∷ all) a b from at to rise low high =
    let rest = asked_further all a b from at to rise.1 low high in
    let k : Bool = either (eqb v.key a) (eqb v.key b) in
    elim (cases_lt v.stamp at) [
      | inl lt ↦ (
          let early : is_of_two a b at to v ≡ false = rw (lt-leb at v.stamp lt) (and_false k) in
          let same : is_of_two a b from to v ≡ is_of_two a b from at v = rw (lt-ltb v.stamp at lt, lt-ltb v.stamp to (omega (arith, lt, high))) refl in
          elim (cases_Bool (is_of_two a b from at v)) [
            | inl hit ↦ (let hit' : is_of_two a b from to v ≡ true = same ∙ hit in rw (hit', hit, early) (ap (λ l. v ∷ l) rest))
            | inr miss ↦ (let miss' : is_of_two a b from to v ≡ false = same ∙ miss in rw (miss', miss, early) rest)
          ])
      | inr ge ↦ (
          let late : (w : Version) → at ≤ w.stamp → is_of_two a b from at w ≡ false = λ w le. rw (le-ltb w.stamp at le) (and_out (either (eqb w.key a) (eqb w.key b)) (leb from w.stamp)) in
          let none : filter (is_of_two a b from at) all ≡ [] = filter_empty (is_of_two a b from at) all (all_weaker _ _ (λ w h. late w (let lt : v.stamp < w.stamp = h in omega (arith, lt, ge))) all rise.0) in
          let same : is_of_two a b from to v ≡ is_of_two a b at to v = rw (le-leb from v.stamp (omega (arith, low, ge)), le-leb at v.stamp ge) refl in
          let rest' : filter (is_of_two a b from to) all ≡ filter (is_of_two a b at to) all = rest ∙ rw none refl in
          elim (cases_Bool (is_of_two a b at to v)) [
            | inl hit ↦ (let hit' : is_of_two a b from to v ≡ true = same ∙ hit in rw (hit', hit, late v ge, none) (ap (λ l. v ∷ l) rest'))
            | inr miss ↦ (let miss' : is_of_two a b from to v ≡ false = same ∙ miss in rw (miss', miss, late v ge, none) rest')
          ])
    ]
  where
    and_false : (c : Bool) → (c && false) ≡ false
    and_false true = refl
    and_false false = refl

    and_out : (c d : Bool) → (c && (d && false)) ≡ false
    and_out true true = refl
    and_out true false = refl
    and_out false d = refl
