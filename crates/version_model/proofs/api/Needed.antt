-- A leaf that answers from a split on as all versions do has a copy of each value that spans the split.
use Rattle.std.proofs.Common.{◌≡◌, ℕ, ◌<◌, ◌≤◌, ◌⊎◌, inl, inr, List, [], ◌∷◌, Option, Some, None, IsSome, refl, sym, ◌∙◌, ap, subst, arith, true, false}
use Rattle.std.specs.Option.{is_some}
use Rattle.std.proofs.lemmas.Bool.{cases_lt, cases_eq}
use Rattle.version_model.specs.Versions.{Version, Has, AsOf, Found, found_at, found_version, Answers, IsRising}
use Rattle.version_model.specs.Ranges.{Range, IsKeyOf, IsPoint, since}
use Rattle.version_model.proofs.api.Pushed.{Has-nil}
use Rattle.version_model.proofs.api.LooksShown.{Has-tail, Has-head, Has-cases}
use Rattle.version_model.proofs.api.AsOfs.{AsOf-one, answer_of, no_answer, dead_of}

-- there is a version as of the stamp, or no version of the key is so early
abbrev pub IsOrNot : List Version → ℕ → ℕ → Type 0
IsOrNot vs key s = ((v : Version) × AsOf vs key s v) ⊎ ((v : Version) → Has vs v → v.key ≡ key → v.stamp ≤ s → ⊥)

module _ (x : Version) (xs : List Version) (key s : ℕ) where
  -- the first version is of another key, or after the stamp
  passed : (x.key ≡ key → x.stamp ≤ s → ⊥) → IsOrNot xs key s → IsOrNot (x ∷ xs) key s
  passed never (inl it) = inl (
    it.0,
    record {
      has = Has-tail x xs it.0 it.1.has;
      of_key = it.1.of_key;
      not_after = it.1.not_after;
      greatest = λ w h same upto. elim (Has-cases x xs w h) [
        | inl is ↦ absurd (never (ap (λ (y : Version). y.key) (sym is) ∙ same) (omega (arith, ap (λ (y : Version). y.stamp) is, upto)))
        | inr later ↦ it.1.greatest w later same upto
      ];
    },
  )
  passed never (inr none) = inr (λ v h same upto. elim (Has-cases x xs v h) [
    | inl is ↦ never (ap (λ (y : Version). y.key) (sym is) ∙ same) (omega (arith, ap (λ (y : Version). y.stamp) is, upto))
    | inr later ↦ none v later same upto
  ])

  -- the first version counts, and none after it has a greater stamp
  first : x.key ≡ key → x.stamp ≤ s → ((w : Version) → Has xs w → w.key ≡ key → w.stamp ≤ s → w.stamp ≤ x.stamp) → AsOf (x ∷ xs) key s x
  first same upto greatest = record {
    has = Has-head x xs;
    of_key = same;
    not_after = upto;
    greatest = λ w h w_same w_upto. elim (Has-cases x xs w h) [
      | inl is ↦ omega (arith, ap (λ (y : Version). y.stamp) is)
      | inr later ↦ greatest w later w_same w_upto
    ];
  }

  -- the first version counts, and one after it has a greater stamp
  second : (w : Version) → x.stamp ≤ w.stamp → AsOf xs key s w → AsOf (x ∷ xs) key s w
  second w greater h = record {
    has = Has-tail x xs w h.has;
    of_key = h.of_key;
    not_after = h.not_after;
    greatest = λ u u_has u_same u_upto. elim (Has-cases x xs u u_has) [
      | inl is ↦ omega (arith, greater, ap (λ (y : Version). y.stamp) is)
      | inr later ↦ h.greatest u later u_same u_upto
    ];
  }

  counted : x.key ≡ key → x.stamp ≤ s → IsOrNot xs key s → IsOrNot (x ∷ xs) key s
  counted same upto (inl it) = elim (cases_lt x.stamp it.0.stamp) [
    | inl less ↦ inl (it.0, second it.0 (omega (arith, less)) it.1)
    | inr more ↦ inl (x, first same upto (λ w h w_same w_upto. omega (arith, more, it.1.greatest w h w_same w_upto)))
  ]
  counted same upto (inr none) = inl (x, first same upto (λ w h w_same w_upto. absurd (none w h w_same w_upto)))

pub as_of_or_not : (vs : List Version) (key s : ℕ) → IsOrNot vs key s
as_of_or_not [] key s = inr (λ v h same upto. Has-nil v h)
as_of_or_not (x ∷ xs) key s = elim (cases_eq x.key key) [
  | inl same ↦ elim (cases_lt s x.stamp) [
    | inl after ↦ passed x xs key s (λ _ upto. omega (arith, after, upto)) (as_of_or_not xs key s)
    | inr upto ↦ counted x xs key s same upto (as_of_or_not xs key s)
  ]
  | inr other ↦ passed x xs key s (λ same _. other same) (as_of_or_not xs key s)
]

module _ (all newer : List Version) (r : Range) (at : ℕ) (rising : IsRising all) (rising_newer : IsRising newer) (in_time : at < r.end)
    (right : (key s : ℕ) (answer : Option Found) → IsPoint (since r at) key s → Answers newer key s answer → Answers all key s answer)
    (v : Version) (k : IsKeyOf r v.key) (is : AsOf all v.key at v) (some : IsSome v.value) where
  point : IsPoint (since r at) v.key at
  point = record { low = k.low; high = k.high; start = omega arith; end = in_time }

  no_value : Answers newer v.key at None → ⊥
  no_value none = (let f : true ≡ false = sym some ∙ ap is_some (right v.key at None point none v is) in cc)

  has_same : (w : Version) → AsOf newer v.key at w → (o : Option (List ℕ)) → w.value ≡ o → Has newer v
  has_same w h None value = absurd (no_value (dead_of newer v.key at w rising_newer h value))
  has_same w h (Some octets) value =
      let found : AsOf all v.key at (found_version v.key (found_at w.stamp octets)) = right v.key at (Some (found_at w.stamp octets)) point (answer_of newer v.key at w (Some octets) rising_newer h value) in
      let in_newer : AsOf newer v.key at (found_version v.key (found_at w.stamp octets)) = answer_of newer v.key at w (Some octets) rising_newer h value in
      subst (Has newer) (AsOf-one all v.key at (found_version v.key (found_at w.stamp octets)) v rising found is) in_newer.has

  pub copy_needed : Has newer v
  copy_needed = elim (as_of_or_not newer v.key at) [
    | inl it ↦ has_same it.0 it.1 it.0.value refl
    | inr none ↦ absurd (no_value (no_answer newer v.key at (λ w h. none w h.has h.of_key h.not_after)))
  ]
