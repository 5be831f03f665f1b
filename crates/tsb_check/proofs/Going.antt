-- A count goes on from place to place.
use Rattle.std.proofs.Common.{◌≡◌, ℕ, ◌+◌, ◌≤◌, List, [], ◌∷◌, ◌++◌, Option, inl, inr, refl, sym, ◌∙◌, ap, subst, arith, min}
use Rattle.std.proofs.lemmas.Bool.{cases_lt}
use Rattle.std.specs.List.{AllByRecursion}
use Rattle.version_model.specs.declared.part.Part.{Part}
use Rattle.version_model.specs.declared.part.Place.{Place}
use Rattle.version_model.specs.Versions.{Version}
use Rattle.version_model.specs.Ranges.{range_of}
use Rattle.version_model.specs.Counts.{count_in}
use Rattle.tsb_walk.specs.Knowing.{IsKnown}
use Rattle.tsb_walk.specs.Ways.{IsLeafFor, IsColumnFor}
use Rattle.tsb_check.specs.Counted.{AreCounted, none_counted, leaf_counted, column_counted, IsReached, at_first, in_column, AreLower, places_of, reported, ReportsPast}
use Rattle.tsb_check.specs.inner.Going.{CountsOn, GoesOn}
use Rattle.tsb_check.proofs.Stacks.{all_front, all_back, all_both, all_from, counted_both, counted_apart}

pub reported_more : (t c n : ℕ) → n ≡ reported t → min (n + c) 18446744073709551615 ≡ reported (t + c)
reported_more t c n is = grind (arith, is)

module _ (known : ℕ → Option (List ℕ)) (count : ℕ) (places : List Place) where
  pub goes_first : (left : List Place) → left ≡ places → GoesOn known count places left 0
  goes_first left same = subst (λ ps. GoesOn known count places ps 0) (sym same) (record {
    reached = all_from (IsReached known count places) places (λ p is. at_first p is);
    counts = record { total = 0; is = refl; on = λ m c. (let e : m ≡ 0 + m = omega arith in subst (AreCounted known count places) e c) };
  })

  module _ (left rest : List Place) (place : Place) (n : ℕ) (apart : left ≡ rest ++ place ∷ []) (goes : GoesOn known count places left n) (octets : List ℕ) (is : IsKnown known count place.part.block octets) where
    both : AllByRecursion (IsReached known count places) (rest ++ place ∷ [])
    both = subst (AllByRecursion (IsReached known count places)) apart goes.reached

    on_as : (m k : ℕ) → AreCounted known count rest m → AreCounted known count (place ∷ []) k → AreCounted known count places (goes.counts.total + (m + k))
    on_as m k rests here = goes.counts.on (m + k) (subst (λ ps. AreCounted known count ps (m + k)) (sym apart) (counted_both known count rest (place ∷ []) m k rests here))

    pub goes_leaf : (versions : List Version) (n' : ℕ) → IsLeafFor place octets versions → n' ≡ min (n + count_in versions (range_of place.bounds)) 18446744073709551615 → GoesOn known count places rest n'
    goes_leaf versions n' leaf sum =
        let c = count_in versions (range_of place.bounds) in
        record {
          reached = all_front (IsReached known count places) rest (place ∷ []) both;
          counts = record {
            total = goes.counts.total + c;
            is = sum ∙ reported_more goes.counts.total c n goes.counts.is;
            on = λ m rests.
                let e : goes.counts.total + (m + (c + 0)) ≡ goes.counts.total + c + m = omega arith in
                subst (AreCounted known count places) e (on_as m (c + 0) rests (leaf_counted place [] octets versions 0 is leaf none_counted));
          };
        }

    pub goes_column : (parts : List Part) (left' : List Place) → IsColumnFor place octets parts → AreLower place.part.block parts → left' ≡ rest ++ places_of place.bounds parts → GoesOn known count places left' n
    goes_column parts left' column lower pushed =
        let reached = (all_back (IsReached known count places) rest (place ∷ []) both).0 in
        record {
          reached = subst (AllByRecursion (IsReached known count places)) (sym pushed) (all_both (IsReached known count places) rest (places_of place.bounds parts)
              (all_front (IsReached known count places) rest (place ∷ []) both)
              (all_from (IsReached known count places) (places_of place.bounds parts) (λ next one. in_column place next octets parts reached is column lower one)));
          counts = record {
            total = goes.counts.total;
            is = goes.counts.is;
            on = λ m all.
                let two = counted_apart known count left' m all rest (places_of place.bounds parts) pushed in
                let e : goes.counts.total + (two.front + (two.back + 0)) ≡ goes.counts.total + m = omega (arith, two.is) in
                subst (AreCounted known count places) e (on_as two.front (two.back + 0) two.counts_front (column_counted place [] octets parts two.back 0 is column lower two.counts_back none_counted));
          };
        }

  pub reached_last : (left rest : List Place) (place : Place) (n : ℕ) → left ≡ rest ++ place ∷ [] → GoesOn known count places left n → IsReached known count places place
  reached_last left rest place n apart goes = (all_back (IsReached known count places) rest (place ∷ []) (subst (AllByRecursion (IsReached known count places)) apart goes.reached)).0

  pub goes_last : (left : List Place) (n : ℕ) → left ≡ [] → GoesOn known count places left n → ReportsPast known count places n
  goes_last left n empty goes =
      let e : goes.counts.total + 0 ≡ goes.counts.total = omega arith in
      record { total = goes.counts.total; counted = subst (AreCounted known count places) e (goes.counts.on 0 (subst (λ ps. AreCounted known count ps 0) (sym empty) none_counted)); is = goes.counts.is }
