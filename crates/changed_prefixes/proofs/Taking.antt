-- What each change does to what is gathered.
use Rattle.std.proofs.Common.{◌≡◌, ℕ, ◌⊎◌, inl, inr, List, [], ◌∷◌, ◌++◌, false, Some, refl, sym, ap, ◌∙◌, subst, arith, Contains}
use Rattle.std.specs.BTreeMap.{BTreeMap, get, Updates}
use Rattle.std.specs.Map.{lookup}
use Rattle.std.specs.Ordering.{nat_cmp, is_eq}
use Rattle.std.proofs.lemmas.Bool.{cases_eq}
use Rattle.std.proofs.lemmas.Bool.Decides.{nat_tests}
use Rattle.std.proofs.lemmas.List.Elements.{filter_map-append}
use Rattle.std.proofs.lemmas.Option.{same_Some, none-some}
use Rattle.route_model.specs.declared.change.Change.{Change}
use Rattle.route_model.specs.declared.change.Change.TheVariants.{Announce, Withdraw, Down}
use Rattle.route_model.specs.Admission.{IsChange}
use Rattle.route_model.specs.Encoding.{IsPeer}
use Rattle.route_model.specs.Prefix.{IsPrefix}
use Rattle.route_meaning.specs.declared.question.ChangedQuestion.{ChangedQuestion}
use Rattle.route_meaning.specs.declared.question.Spot.{Spot}
use Rattle.route_meaning.specs.Rows.{spot_number}
use Rattle.changed_prefixes.specs.inner.Gathered.{HasGathered, IsAskedFor, IsEntry, spot_of, spots_of}
use Rattle.changed_prefixes.proofs.Equal.{one_spot}
use Rattle.changed_prefixes.proofs.Members.{IsIn, is_in, contains, in_front, in_rest, in_either}

-- the spot of a change is of values
spot_valid : (change : Change) (s : Spot) → IsChange change → spot_of change ≡ Some s → IsPeer s.peer × IsPrefix s.prefix
spot_valid (Announce p x route) s is e = subst (λ (t : Spot). IsPeer t.peer × IsPrefix t.prefix) (same_Some (record { peer = p; prefix = x }) s e) (is.0, is.1)
spot_valid (Withdraw p x) s is e = subst (λ (t : Spot). IsPeer t.peer × IsPrefix t.prefix) (same_Some (record { peer = p; prefix = x }) s e) (is.0, is.1)
spot_valid (Down p) s is e = absurd (none-some s e)

-- ---- the spots of one change more

one : (change : Change) (s : Spot) → spot_of change ≡ Some s → IsIn s (spots_of (change ∷ []))
one change s e = rw e (inl refl)

one_of : (change : Change) (s : Spot) → IsIn s (spots_of (change ∷ [])) → spot_of change ≡ Some s
one_of (Announce p x route) s h = elim h [ inl e ↦ ap Some e | inr none ↦ absurd none ]
one_of (Withdraw p x) s h = elim h [ inl e ↦ ap Some e | inr none ↦ absurd none ]
one_of (Down p) s h = absurd h

module _ (changes : List Change) (change : Change) (s : Spot) where
  plus : spots_of (changes ++ change ∷ []) ≡ spots_of changes ++ spots_of (change ∷ [])
  plus = filter_map-append spot_of changes (change ∷ [])

  stays : Contains (spots_of changes) s → Contains (spots_of (changes ++ change ∷ [])) s
  stays h = contains s _ (subst (IsIn s) (sym plus) (in_front s (spots_of changes) (spots_of (change ∷ [])) (is_in s _ h)))

  comes : spot_of change ≡ Some s → Contains (spots_of (changes ++ change ∷ [])) s
  comes e = contains s _ (subst (IsIn s) (sym plus) (in_rest s (spots_of changes) (spots_of (change ∷ [])) (one change s e)))

  either : Contains (spots_of (changes ++ change ∷ [])) s → Contains (spots_of changes) s ⊎ (spot_of change ≡ Some s)
  either h = elim (in_either s (spots_of changes) (spots_of (change ∷ [])) (subst (IsIn s) plus (is_in s _ h))) [
    | inl old ↦ inl (contains s _ old)
    | inr new ↦ inr (one_of change s new)
  ]

-- ---- what is gathered

pub nothing : (q : ChangedQuestion) (m : BTreeMap ℕ Spot) → m.entries ≡ [] → HasGathered q [] m
nothing q m e = record {
  only = λ n s found. absurd (none-some s (sym (ap (lookup (λ k. is_eq (nat_cmp n k))) e) ∙ found));
  each = λ s h asked. absurd (is_in s [] h);
}

other : (a b : ℕ) → (a ≡ b → ⊥) → is_eq (nat_cmp a b) ≡ false
other a b ne = grind (arith, nat_tests)

module _ (q : ChangedQuestion) (changes : List Change) (change : Change) (m : BTreeMap ℕ Spot) (g : HasGathered q changes m) where
  entry_stays : (n : ℕ) (s : Spot) → IsEntry q changes n s → IsEntry q (changes ++ change ∷ []) n s
  entry_stays n s h = record { number = h.number; peer = h.peer; prefix = h.prefix; asked = h.asked; changed = stays changes change s h.changed }

  -- a change that is of no spot that is asked for
  pub passed : ((s : Spot) → spot_of change ≡ Some s → IsAskedFor q s → ⊥) → HasGathered q (changes ++ change ∷ []) m
  passed none = record {
    only = λ n s e. entry_stays n s (g.only n s e);
    each = λ s h asked. elim (either changes change s h) [ inl old ↦ g.each s old asked | inr new ↦ absurd (none s new asked) ];
  }

  -- a change of a spot that is asked for
  pub taken : (s : Spot) (n : BTreeMap ℕ Spot) → spot_of change ≡ Some s → IsChange change → IsAskedFor q s → Updates nat_cmp m n (spot_number s) (Some s) → HasGathered q (changes ++ change ∷ []) n
  taken s n of is asked updates = record {
    only = λ k t e. elim (cases_eq (spot_number s) k) [
      | inl same ↦ (
          let there : get nat_cmp n k ≡ Some s = subst (λ (j : ℕ). get nat_cmp n j ≡ Some s) same updates.1 in
          subst (λ (u : Spot). IsEntry q (changes ++ change ∷ []) k u) (same_Some s t (sym there ∙ e)) (entry k same))
      | inr apart ↦ entry_stays k t (g.only k t (sym (updates.2 k (other (spot_number s) k apart)) ∙ e))
    ];
    each = λ t h asked_for. elim (either changes change t h) [
      | inl old ↦ before t (g.each t old asked_for)
      | inr new ↦ there t (same_Some s t (sym of ∙ new))
    ];
  }
    where
      valid : IsPeer s.peer × IsPrefix s.prefix
      valid = spot_valid change s is of

      entry : (k : ℕ) → spot_number s ≡ k → IsEntry q (changes ++ change ∷ []) k s
      entry k same = record { number = same; peer = valid.0; prefix = valid.1; asked = asked; changed = comes changes change s of }

      there : (t : Spot) → s ≡ t → get nat_cmp n (spot_number t) ≡ Some t
      there t e = subst (λ (u : Spot). get nat_cmp n (spot_number u) ≡ Some u) e updates.1

      before : (t : Spot) → get nat_cmp m (spot_number t) ≡ Some t → get nat_cmp n (spot_number t) ≡ Some t
      before t found = elim (cases_eq (spot_number s) (spot_number t)) [
        | inl same ↦ (let old = g.only (spot_number t) t found in there t (one_spot s t valid.0 valid.1 old.peer old.prefix same))
        | inr apart ↦ updates.2 (spot_number t) (other (spot_number s) (spot_number t) apart) ∙ found
      ]
