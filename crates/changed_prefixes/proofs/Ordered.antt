-- The spots of what is gathered, in their order.
use Rattle.std.proofs.Common.{◌≡◌, ℕ, ◌<◌, List, [], ◌∷◌, sym, arith, subst, Result, Ok, Err, IfOk}
use Rattle.std.specs.BTreeMap.{BTreeMap, values, IsOrdered}
use Rattle.std.specs.Cmp.{nat_cmp_total}
use Rattle.std.specs.List.{AllByRecursion}
use Rattle.std.specs.List.Sorted.{IsStrictlySortedBy}
use Rattle.std.specs.Map.{keys_of, values_of}
use Rattle.std.specs.Ordering.{nat_cmp}
use Rattle.std.specs.declared.cmp.Ordering.TheVariants.{Less}
use Rattle.std.proofs.lemmas.Map.Lookups.{exact_unsigned}
use Rattle.std.proofs.lemmas.Map.Views.{btree_map_get_iff}
use Rattle.route_model.specs.Admission.{Admitted}
use Rattle.route_model.proofs.api.KeyNumbers.{cmp_less_is}
use Rattle.route_meaning.specs.declared.question.ChangedQuestion.{ChangedQuestion}
use Rattle.route_meaning.specs.declared.question.Spot.{Spot}
use Rattle.route_meaning.specs.Changed.{AreSpotsRising, IsChanged}
use Rattle.route_meaning.specs.Events.{between}
use Rattle.route_meaning.specs.Holds.{changes_of}
use Rattle.route_meaning.specs.Merged.{Placed}
use Rattle.route_meaning.specs.Rows.{spot_number}
use Rattle.changed_prefixes.specs.inner.Gathered.{AreAllChanged, HasGathered, IsEntry}
use Rattle.changed_prefixes.proofs.Members.{IsIn, is_in, contains, all_in, map_in, in_map}
use Rattle.changed_prefixes.proofs.Reporting.{asked_for, changed, of_spot}

abbrev Stands : ℕ × Spot → Type 0
Stands e = spot_number e.1 ≡ e.0

below : (n : ℕ) (es : List (ℕ × Spot)) → AllByRecursion Stands es → AllByRecursion (λ k. nat_cmp n k ≡ Less) (keys_of es) → AllByRecursion (λ s. n < spot_number s) (values_of es)
below n [] stand a = tt
below n (e ∷ es) stand a = (let lt : n < e.0 = cmp_less_is n e.0 a.0 in let at : spot_number e.1 ≡ e.0 = stand.0 in omega arith, below n es stand.1 a.1)

rise : (es : List (ℕ × Spot)) → AllByRecursion Stands es → IsStrictlySortedBy nat_cmp (keys_of es) → AreSpotsRising (values_of es)
unfolding IsStrictlySortedBy
rise [] stand sorted = tt
rise (e ∷ es) stand sorted = (rw stand.0 (below e.0 es stand.1 sorted.0), rise es stand.1 sorted.1)

module _ (ps : List (Placed Admitted)) (q : ChangedQuestion) (m : BTreeMap ℕ Spot) (ordered : IsOrdered nat_cmp m) (g : HasGathered q (changes_of (between q.from q.to ps)) m) where
  entry : (e : ℕ × Spot) → IsIn e m.entries → IsEntry q (changes_of (between q.from q.to ps)) e.0 e.1
  entry e h = g.only e.0 e.1 ((btree_map_get_iff nat_cmp_total exact_unsigned m ordered e.0 e.1).1 (contains e m.entries h))

  is_changed : (s : Spot) → IsIn s (values m) → IsChanged ps q s
  is_changed s h =
      let f = in_map (λ (e : ℕ × Spot). e.1) s m.entries h in
      let is = entry f.0 f.1 in
      subst (IsChanged ps q) f.2 (changed ps q f.0.1 is.asked is.changed)

  pub all_changed : AreAllChanged ps q (values m)
  all_changed = record {
    rising = rise m.entries (all_in Stands m.entries (λ e h. (entry e h).number)) ordered;
    only = all_in (IsChanged ps q) (values m) is_changed;
    each = λ s h.
        let found = g.each s (of_spot ps q s h) (asked_for ps q s h) in
        let at = (btree_map_get_iff nat_cmp_total exact_unsigned m ordered (spot_number s) s).0 found in
        contains s (values m) (map_in (λ (e : ℕ × Spot). e.1) (spot_number s, s) m.entries (is_in (spot_number s, s) m.entries at));
  }

-- what holds of a list holds of what was made of it
pub each_ok : {V E X : Type 0} (items : V → X) (P : X → Type 0) (x : X) (r : Result V E) → P x → IfOk r (λ made. items made ≡ x) → IfOk r (λ made. P (items made))
each_ok items P x (Ok made) p e = subst P (sym e) p
each_ok items P x (Err e) p h = tt
