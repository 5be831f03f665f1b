-- The last entry of each key.
use Rattle.std.proofs.Common.{◌≡◌, ℕ, suc, ◌<◌, ◌≤◌, List, [], ◌∷◌, ◌++◌, Option, Some, None, IsSome, Bool, true, false, cond, inl, inr, refl, sym, ap, ◌∙◌, subst, arith, true≢false}
use Rattle.std.specs.Option.{is_some}
use Rattle.std.specs.BTreeMap.{BTreeMap, get, Updates, IsLowerBound}
use Rattle.std.specs.Ordering.{nat_cmp, is_eq, is_gt}
use Rattle.std.proofs.lemmas.Bool.{cases_eq}
use Rattle.std.proofs.lemmas.List.{append-nil}
use Rattle.std.proofs.lemmas.Bool.Decides.{nat_tests}
use Rattle.version_model.specs.declared.entry.Entry.{Entry}
use Rattle.version_model.specs.Entries.{version_of, versions_of}
use Rattle.version_model.specs.Versions.{Version, Has, AsOf, IsRising}
use Rattle.version_model.specs.Looks.{NoneWithin}
use Rattle.version_model.proofs.api.AsOfs.{no_answer, answer_of}
use Rattle.version_model.proofs.api.LooksShown.{Has-tail, Has-head, rising_tail, above_head}
use Rattle.version_model.proofs.api.Pushed.{Has-nil, Has-push_cases, Has-push_old, Has-push_new}
use Rattle.tsb_runs.specs.inner.Latest.{IsLatest, AreLatest}

-- ---- what the map has

no_gt : (a b : ℕ) → is_gt (nat_cmp a b) ≡ false → a ≤ b
no_gt a b is = grind (arith, nat_tests)

apart : (a b : ℕ) → a < b → is_eq (nat_cmp a b) ≡ false
apart a b lt = grind (arith, nat_tests)

other : (a b : ℕ) → (a ≡ b → ⊥) → is_eq (nat_cmp a b) ≡ false
other a b ne = grind (arith, nat_tests)

same : (a b : ℕ) → a ≡ b → is_eq (nat_cmp a b) ≡ true
same a b e = grind (arith, nat_tests)

nothing : (o : Option Entry) → (IsSome o → ⊥) → o ≡ None
nothing None never = refl
nothing (Some e) never = absurd (never refl)

no_some : (o : Option Entry) → o ≡ None → IsSome o → ⊥
no_some o e some = true≢false (sym some ∙ ap is_some e)

module _ (vs : List Version) (s at : ℕ) (m n : BTreeMap ℕ Entry) (key : ℕ) (entry : Entry) (latest : AreLatest vs s at m) (here : get nat_cmp m key ≡ Some entry) (least : IsLowerBound nat_cmp m key) (updates : Updates nat_cmp m n key None) where
  -- the first key isn't below the one from which on all keys are covered
  pub first_above : at ≤ key
  first_above = latest.above key (ap is_some here)

  -- no key before it has a value
  pub first_after : NoneWithin vs s at key
  first_after = λ k low lt. subst (IsLatest vs s k) (nothing (get nat_cmp m k) (λ some. absurd (omega (arith, no_gt key k (least k some), lt)))) (latest.each k low)

  -- what it has
  pub first_has : IsLatest vs s key (Some entry)
  first_has = subst (IsLatest vs s key) here (latest.each key first_above)

  -- the others go on saying what their keys have
  pub others_represent : AreLatest vs s (suc key) n
  others_represent = record {
    above = λ k some. elim (cases_eq key k) [
      | inl e ↦ absurd (no_some (get nat_cmp n k) (updates.0 k ∙ ap (λ (b : Bool). cond b None (get nat_cmp m k)) (same key k e)) some)
      | inr ne ↦ (let le : key ≤ k = no_gt key k (least k (subst (λ (o : Option Entry). IsSome o) (updates.2 k (other key k ne)) some)) in omega (arith, le, ne))
    ];
    each = λ k low. subst (IsLatest vs s k) (sym (updates.2 k (apart key k (omega (arith, low))))) (latest.each k (omega (arith, first_above, low)));
  }

-- an empty map: no key has a value
pub none_left : (vs : List Version) (s at to : ℕ) (m : BTreeMap ℕ Entry) → m.entries ≡ [] → AreLatest vs s at m → NoneWithin vs s at to
none_left vs s at to m empty latest = λ key low high. subst (IsLatest vs s key) (let e : get nat_cmp m key ≡ None = rw empty refl in e) (latest.each key low)

-- ---- the versions so far

abbrev pub IsSoFar : List Version → ℕ → ℕ → Option Entry → Type 0
IsSoFar done s key None = (v : Version) → AsOf done key s v → ⊥
IsSoFar done s key (Some entry) = AsOf done key s (version_of entry)

pub record AreSoFar (done : List Version) (s from : ℕ) (latest : BTreeMap ℕ Entry) : Type 0 where
  pub above : (key : ℕ) → IsSome (get nat_cmp latest key) → from ≤ key
  pub each : (key : ℕ) → from ≤ key → IsSoFar done s key (get nat_cmp latest key)

-- versions, and later ones that come
pub record Comes (done rest : List Version) : Type 0 where
  pub before : (v w : Version) → Has done v → Has rest w → v.stamp < w.stamp
  pub rising : IsRising rest

pub comes_first : (vs : List Version) → IsRising vs → Comes [] vs
comes_first vs rising = record { before = λ v w has other. absurd (Has-nil v has); rising = rising }

pub comes_next : (done : List Version) (v : Version) (rest : List Version) → Comes done (v ∷ rest) → Comes (done ++ v ∷ []) rest
comes_next done v rest comes = record {
  before = λ u w has later. elim (Has-push_cases done v u has) [
    | inl old ↦ comes.before u w old (Has-tail v rest w later)
    | inr new ↦ (let lt = above_head v rest w comes.rising later in omega (arith, lt, ap (λ (x : Version). x.stamp) new))
  ];
  rising = rising_tail v rest comes.rising;
}

-- none so far
pub none_so_far : (s from : ℕ) (m : BTreeMap ℕ Entry) → m.entries ≡ [] → AreSoFar [] s from m
none_so_far s from m empty = record {
  above = λ key some. absurd (no_some (get nat_cmp m key) (none key) some);
  each = λ key low. subst (IsSoFar [] s key) (sym (none key)) (λ v h. Has-nil v h.has);
}
  where
    none : (key : ℕ) → get nat_cmp m key ≡ None
    none key = rw empty refl

-- a version that represents nothing of the key
passes : (done : List Version) (s key : ℕ) (v : Version) (o : Option Entry) → (v.key ≡ key → v.stamp ≤ s → ⊥) → IsSoFar done s key o → IsSoFar (done ++ v ∷ []) s key o
passes done s key v None never so = λ u h. elim (Has-push_cases done v u h.has) [
  | inl old ↦ so u (record { has = old; of_key = h.of_key; not_after = h.not_after; greatest = λ w has same upto. h.greatest w (Has-push_old done v w has) same upto })
  | inr new ↦ never (ap (λ (x : Version). x.key) (sym new) ∙ h.of_key) (omega (arith, h.not_after, ap (λ (x : Version). x.stamp) new))
]
passes done s key v (Some entry) never so = record {
  has = Has-push_old done v (version_of entry) so.has;
  of_key = so.of_key;
  not_after = so.not_after;
  greatest = λ w has same upto. elim (Has-push_cases done v w has) [
    | inl old ↦ so.greatest w old same upto
    | inr new ↦ absurd (never (ap (λ (x : Version). x.key) (sym new) ∙ same) (omega (arith, upto, ap (λ (x : Version). x.stamp) new)))
  ];
}

-- a later version of the key
put : (done : List Version) (s : ℕ) (entry : Entry) → entry.stamp ≤ s → ((w : Version) → Has done w → w.stamp < entry.stamp) → IsSoFar (done ++ version_of entry ∷ []) s entry.key (Some entry)
put done s entry upto later = record {
  has = Has-push_new done (version_of entry);
  of_key = refl;
  not_after = upto;
  greatest = λ w has same before. elim (Has-push_cases done (version_of entry) w has) [
    | inl old ↦ (let lt = later w old in omega (arith, lt))
    | inr new ↦ omega (arith, ap (λ (x : Version). x.stamp) new)
  ];
}

module _ (done : List Version) (s from : ℕ) (m : BTreeMap ℕ Entry) (entry : Entry) (so : AreSoFar done s from m) where
  pub so_far_yes : (n : BTreeMap ℕ Entry) → from ≤ entry.key → entry.stamp ≤ s → ((w : Version) → Has done w → w.stamp < entry.stamp) → Updates nat_cmp m n entry.key (Some entry) → AreSoFar (done ++ version_of entry ∷ []) s from n
  so_far_yes n low upto later updates = record {
    above = λ key some. elim (cases_eq entry.key key) [
      | inl e ↦ omega (arith, e, low)
      | inr ne ↦ so.above key (subst (λ (o : Option Entry). IsSome o) (updates.2 key (other entry.key key ne)) some)
    ];
    each = λ key above. elim (cases_eq entry.key key) [
      | inl e ↦ subst (IsSoFar (done ++ version_of entry ∷ []) s key) (sym (updates.0 key ∙ ap (λ (b : Bool). cond b (Some entry) (get nat_cmp m key)) (same entry.key key e)))
          (subst (λ (k : ℕ). IsSoFar (done ++ version_of entry ∷ []) s k (Some entry)) e (put done s entry upto later))
      | inr ne ↦ subst (IsSoFar (done ++ version_of entry ∷ []) s key) (sym (updates.2 key (other entry.key key ne))) (passes done s key (version_of entry) (get nat_cmp m key) (λ e t. ne e) (so.each key above))
    ];
  }

  pub so_far_no : (from ≤ entry.key → entry.stamp ≤ s → ⊥) → AreSoFar (done ++ version_of entry ∷ []) s from m
  so_far_no never = record {
    above = so.above;
    each = λ key above. passes done s key (version_of entry) (get nat_cmp m key) (λ e upto. never (omega (arith, above, e)) upto) (so.each key above);
  }

answers_by : (vs : List Version) (s key : ℕ) (o : Option Entry) → IsRising vs → IsSoFar vs s key o → IsLatest vs s key o
answers_by vs s key None rising so = no_answer vs key s so
answers_by vs s key (Some entry) rising so = answer_of vs key s (version_of entry) (version_of entry).value rising so refl

-- all of them
pub all_so_far : (vs : List Version) (s from : ℕ) (m : BTreeMap ℕ Entry) → IsRising vs → AreSoFar vs s from m → AreLatest vs s from m
all_so_far vs s from m rising so = record { above = so.above; each = λ key low. answers_by vs s key (get nat_cmp m key) rising (so.each key low) }

-- versions that were gone over, and entries that come
pub record AreSeen (vs : List Version) (s from : ℕ) (rest : List Entry) (latest : BTreeMap ℕ Entry) : Type 0 where
  pub done : List Version
  pub whole : done ++ versions_of rest ≡ vs
  pub so : AreSoFar done s from latest
  pub comes : Comes done (versions_of rest)

one_more : (xs : List Version) (v : Version) (ys : List Version) → (xs ++ v ∷ []) ++ ys ≡ xs ++ v ∷ ys
one_more [] v ys = refl
one_more (x ∷ xs) v ys = ap (λ l. x ∷ l) (one_more xs v ys)

pub none_seen : (s from : ℕ) (entries : List Entry) (m : BTreeMap ℕ Entry) → m.entries ≡ [] → IsRising (versions_of entries) → AreSeen (versions_of entries) s from entries m
none_seen s from entries m empty rising = record { done = []; whole = refl; so = none_so_far s from m empty; comes = comes_first (versions_of entries) rising }

module _ (vs : List Version) (s from : ℕ) (entry : Entry) (rest : List Entry) (m : BTreeMap ℕ Entry) (seen : AreSeen vs s from (entry ∷ rest) m) where
  pub sees_later : (n : BTreeMap ℕ Entry) → from ≤ entry.key → entry.stamp ≤ s → Updates nat_cmp m n entry.key (Some entry) → AreSeen vs s from rest n
  sees_later n low upto updates = record {
    done = seen.done ++ version_of entry ∷ [];
    whole = one_more seen.done (version_of entry) (versions_of rest) ∙ seen.whole;
    so = so_far_yes seen.done s from m entry seen.so n low upto (λ w has. seen.comes.before w (version_of entry) has (Has-head (version_of entry) (versions_of rest))) updates;
    comes = comes_next seen.done (version_of entry) (versions_of rest) seen.comes;
  }

  pub sees_other : (from ≤ entry.key → entry.stamp ≤ s → ⊥) → AreSeen vs s from rest m
  sees_other never = record {
    done = seen.done ++ version_of entry ∷ [];
    whole = one_more seen.done (version_of entry) (versions_of rest) ∙ seen.whole;
    so = so_far_no seen.done s from m entry seen.so never;
    comes = comes_next seen.done (version_of entry) (versions_of rest) seen.comes;
  }

pub all_seen : (vs : List Version) (s from : ℕ) (rest : List Entry) (m : BTreeMap ℕ Entry) → rest ≡ [] → IsRising vs → AreSeen vs s from rest m → AreLatest vs s from m
all_seen vs s from rest m none rising seen =
    let whole : seen.done ≡ vs = sym (append-nil seen.done) ∙ ap (λ (l : List Entry). seen.done ++ versions_of l) (sym none) ∙ seen.whole in
    all_so_far vs s from m rising (subst (λ (l : List Version). AreSoFar l s from m) whole seen.so)
