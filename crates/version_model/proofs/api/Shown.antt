-- A leaf answers as all versions do, and goes on showing its range through splits and new versions.
use Rattle.std.proofs.Common.{◌≡◌, ℕ, ◌<◌, ◌≤◌, inl, inr, List, Option, Some, None, IsSome, refl, sym, ◌∙◌, subst, ap, arith}
use Rattle.std.proofs.lemmas.Bool.{cases_lt}
use Rattle.std.specs.Option.{is_some}
use Rattle.version_model.specs.Versions.{Version, Has, AsOf, Found, found_version, Answers, Adds}
use Rattle.version_model.specs.Ranges.{Range, IsKeyOf, until, since, below, from_key, StartsBefore}
use Rattle.version_model.specs.LeafVersions.{LeafRepresents, IsBefore, IsFrom, IsBelow, IsFromKey}

-- a key of the range, named by another word for it
key_along : (r : Range) (k l : ℕ) → l ≡ k → IsKeyOf r k → IsKeyOf r l
key_along r k l e h = record { low = omega (arith, h.low); high = omega (arith, h.high) }

module _ (all : List Version) (r : Range) (leaf : List Version) (shows : LeafRepresents all r leaf) where
  -- what the leaf has of a key of the range up to a stamp is true
  pub holds_in_leaf : (key s : ℕ) (v : Version) → IsKeyOf r key → s < r.end → Has leaf v → AsOf all key s v → AsOf leaf key s v
  holds_in_leaf key s v k e has h = record {
    has = has;
    of_key = h.of_key;
    not_after = h.not_after;
    greatest = λ w in_leaf same upto. h.greatest w (shows.true_ones w in_leaf (key_along r key w.key same k) (omega arith)) same upto;
  }

  -- what holds among all versions, and is from before the range's start, holds at the start
  pub holds_at_start : (key s : ℕ) (v : Version) → r.start ≤ s → v.stamp < r.start → AsOf all key s v → AsOf all v.key r.start v
  holds_at_start key s v from before h = record {
    has = h.has;
    of_key = refl;
    not_after = omega arith;
    greatest = λ w in_all same upto. h.greatest w in_all (same ∙ h.of_key) (omega arith);
  }

  -- what holds among all versions is in the leaf, if it is a value
  pub leaf_has : (key s : ℕ) (v : Version) → IsKeyOf r key → r.start ≤ s → s < r.end → AsOf all key s v → IsSome v.value → Has leaf v
  leaf_has key s v k from e h some =
      let here : IsKeyOf r v.key = key_along r key v.key h.of_key k in
      elim (cases_lt v.stamp r.start) [
        | inl before ↦ shows.spanning v here before (holds_at_start key s v from before h) some
        | inr late ↦ shows.whole v h.has here late (omega (arith, h.not_after))
      ]

  -- no version of the key is greater than the one that holds in the leaf
  greatest_in_all : (key s : ℕ) (v w : Version) → IsKeyOf r key → r.start ≤ s → s < r.end → AsOf leaf key s v → Has all w → w.key ≡ key → w.stamp ≤ s → w.stamp ≤ v.stamp
  greatest_in_all key s v w k from e h in_all same upto =
      elim (cases_lt w.stamp r.start) [
        | inr late ↦ h.greatest w (shows.whole w in_all (key_along r key w.key same k) late (omega arith)) same upto
        | inl early ↦ elim (cases_lt v.stamp r.start) [
          | inr v_late ↦ omega arith
          | inl v_early ↦ (shows.copies v h.has (key_along r key v.key h.of_key k) v_early).greatest w in_all (same ∙ sym h.of_key) (omega arith)
        ]
      ]

  -- what holds in the leaf holds among all
  pub holds_in_all : (key s : ℕ) (v : Version) → IsKeyOf r key → r.start ≤ s → s < r.end → AsOf leaf key s v → AsOf all key s v
  holds_in_all key s v k from e h = record {
    has = shows.true_ones v h.has (key_along r key v.key h.of_key k) (omega (arith, h.not_after));
    of_key = h.of_key;
    not_after = h.not_after;
    greatest = λ w in_all same upto. greatest_in_all key s v w k from e h in_all same upto;
  }

  no_value : (key s : ℕ) → IsKeyOf r key → r.start ≤ s → s < r.end → Answers leaf key s None → (v : Version) → AsOf all key s v → (o : Option (List ℕ)) → v.value ≡ o → v.value ≡ None
  no_value key s k from e none v h None is = is
  no_value key s k from e none v h (Some value) is = none v (holds_in_leaf key s v k e (leaf_has key s v k from e h (ap is_some is)) h)

  -- the lookup: the leaf's answer is the answer
  pub answers_shown : (key s : ℕ) (answer : Option Found) → IsKeyOf r key → r.start ≤ s → s < r.end → Answers leaf key s answer → Answers all key s answer
  answers_shown key s (Some found) k from e holds = holds_in_all key s (found_version key found) k from e holds
  answers_shown key s None k from e none = λ v h. no_value key s k from e none v h v.value refl

-- a leaf that is cut to fewer keys, and to an earlier end, shows what is left of its range
pub LeafRepresents-cut : (all : List Version) (r s : Range) (leaf : List Version) → r.low ≤ s.low → s.high ≤ r.high → s.start ≡ r.start → s.end ≤ r.end → LeafRepresents all r leaf → LeafRepresents all s leaf
LeafRepresents-cut all r s leaf low high start end shows =
    let wider : (k : ℕ) → IsKeyOf s k → IsKeyOf r k = λ k h. record { low = omega (arith, h.low); high = omega (arith, h.high) } in
    record {
      whole = λ v has k from before. shows.whole v has (wider v.key k) (omega arith) (omega arith);
      true_ones = λ v has k before. shows.true_ones v has (wider v.key k) (omega arith);
      copies = λ v has k before. rw start (shows.copies v has (wider v.key k) (omega arith));
      spanning = λ v k before h some. shows.spanning v (wider v.key k) (omega arith) (rw start at h) some;
    }

-- a time split: the older part shows the range up to the split
pub LeafRepresents-before : (all : List Version) (r : Range) (leaf older : List Version) (at : ℕ) → r.start ≤ at → at ≤ r.end → IsBefore leaf at older → LeafRepresents all r leaf → LeafRepresents all (until r at) older
LeafRepresents-before all r leaf older at from upto is shows = record {
  whole = λ v has k late before. is.each v (shows.whole v has (record { low = k.low; high = k.high }) late (omega arith)) before;
  true_ones = λ v has k before. shows.true_ones v (is.is_in v has) (record { low = k.low; high = k.high }) (omega arith);
  copies = λ v has k before. shows.copies v (is.is_in v has) (record { low = k.low; high = k.high }) before;
  spanning = λ v k before h some. is.each v (shows.spanning v (record { low = k.low; high = k.high }) before h some) (omega arith);
}

-- a time split: the newer part shows the range from the split on
pub LeafRepresents-from : (all : List Version) (r : Range) (leaf newer : List Version) (at : ℕ) → r.start ≤ at → at < r.end → IsFrom leaf at newer → LeafRepresents all r leaf → LeafRepresents all (since r at) newer
LeafRepresents-from all r leaf newer at from upto is shows =
    let here : (k : ℕ) → IsKeyOf (since r at) k → IsKeyOf r k = λ k h. record { low = h.low; high = h.high } in
    record {
      whole = λ v has k late before. is.each v (shows.whole v has (here v.key k) (omega arith) before) late;
      true_ones = λ v has k before. shows.true_ones v (is.is_in v has) (here v.key k) before;
      copies = λ v has k before. holds_in_all all r leaf shows v.key at v (here v.key k) from upto (is.copies v has before);
      spanning = λ v k before h some. is.spanning v before (holds_in_leaf all r leaf shows v.key at v (here v.key k) upto (leaf_has all r leaf shows v.key at v (here v.key k) from upto h some) h) some;
    }

-- a key split: each side shows its keys
pub LeafRepresents-below : (all : List Version) (r : Range) (leaf left : List Version) (key : ℕ) → key ≤ r.high → IsBelow leaf key left → LeafRepresents all r leaf → LeafRepresents all (below r key) left
LeafRepresents-below all r leaf left key upto is shows =
    let here : (k : ℕ) → IsKeyOf (below r key) k → IsKeyOf r k = λ k h. record { low = h.low; high = omega (arith, h.high) } in
    record {
      whole = λ v has k late before. is.each v (shows.whole v has (here v.key k) late before) k.high;
      true_ones = λ v has k before. shows.true_ones v (is.is_in v has) (here v.key k) before;
      copies = λ v has k before. shows.copies v (is.is_in v has) (here v.key k) before;
      spanning = λ v k before h some. is.each v (shows.spanning v (here v.key k) before h some) k.high;
    }

pub LeafRepresents-from_key : (all : List Version) (r : Range) (leaf right : List Version) (key : ℕ) → r.low ≤ key → IsFromKey leaf key right → LeafRepresents all r leaf → LeafRepresents all (from_key r key) right
LeafRepresents-from_key all r leaf right key from is shows =
    let here : (k : ℕ) → IsKeyOf (from_key r key) k → IsKeyOf r k = λ k h. record { low = omega (arith, h.low); high = h.high } in
    record {
      whole = λ v has k late before. is.each v (shows.whole v has (here v.key k) late before) k.low;
      true_ones = λ v has k before. shows.true_ones v (is.is_in v has) (here v.key k) before;
      copies = λ v has k before. shows.copies v (is.is_in v has) (here v.key k) before;
      spanning = λ v k before h some. is.each v (shows.spanning v (here v.key k) before h some) k.low;
    }

-- what held before a later version came still holds at stamps before it
AsOf-kept : (all new : List Version) (v w : Version) (key s : ℕ) → Adds all v new → s < v.stamp → AsOf all key s w → AsOf new key s w
AsOf-kept all new v w key s adds later h = record {
  has = adds.keeps w h.has;
  of_key = h.of_key;
  not_after = h.not_after;
  greatest = λ x in_new same upto. elim (adds.same x in_new) [
    | inl old ↦ h.greatest x old same upto
    | inr is ↦ absurd (omega (arith, ap (λ (y : Version). y.stamp) is))
  ];
}

AsOf-was : (all new : List Version) (v w : Version) (key s : ℕ) → Adds all v new → s < v.stamp → AsOf new key s w → AsOf all key s w
AsOf-was all new v w key s adds later h = record {
  has = elim (adds.same w h.has) [
    | inl old ↦ old
    | inr is ↦ absurd (omega (arith, ap (λ (y : Version). y.stamp) is, h.not_after))
  ];
  of_key = h.of_key;
  not_after = h.not_after;
  greatest = λ x in_all same upto. h.greatest x (adds.keeps x in_all) same upto;
}

start_before : (r : Range) (s t : ℕ) → StartsBefore r s → t < r.start → r.start < s
start_before r s t (inl h) before = h
start_before r s t (inr h) before = absurd (omega arith)

-- a new version outside the range changes nothing there
pub LeafRepresents-outside : (all new : List Version) (r : Range) (leaf : List Version) (v : Version) → Adds all v new → StartsBefore r v.stamp → (IsKeyOf r v.key → r.end ≤ v.stamp) → LeafRepresents all r leaf → LeafRepresents new r leaf
LeafRepresents-outside all new r leaf v adds starts outside shows = record {
  whole = λ w has k late before. elim (adds.same w has) [
    | inl old ↦ shows.whole w old k late before
    | inr is ↦ absurd (omega (arith, ap (λ (y : Version). y.stamp) is, outside (key_along r w.key v.key (ap (λ (y : Version). y.key) (sym is)) k)))
  ];
  true_ones = λ w has k before. adds.keeps w (shows.true_ones w has k before);
  copies = λ w has k before. AsOf-kept all new v w w.key r.start adds (start_before r v.stamp w.stamp starts before) (shows.copies w has k before);
  spanning = λ w k before h some. shows.spanning w k before (AsOf-was all new v w w.key r.start adds (start_before r v.stamp w.stamp starts before) h) some;
}

-- a new version of the range is added to its leaf
pub LeafRepresents-adds : (all new : List Version) (r : Range) (leaf leaf' : List Version) (v : Version) → Adds all v new → Adds leaf v leaf' → StartsBefore r v.stamp → LeafRepresents all r leaf → LeafRepresents new r leaf'
LeafRepresents-adds all new r leaf leaf' v adds adds' starts shows = record {
  whole = λ w has k late before. elim (adds.same w has) [
    | inl old ↦ adds'.keeps w (shows.whole w old k late before)
    | inr is ↦ subst (Has leaf') (sym is) adds'.has
  ];
  true_ones = λ w has k before. elim (adds'.same w has) [
    | inl old ↦ adds.keeps w (shows.true_ones w old k before)
    | inr is ↦ subst (Has new) (sym is) adds.has
  ];
  copies = λ w has k before. elim (adds'.same w has) [
    | inl old ↦ AsOf-kept all new v w w.key r.start adds (start_before r v.stamp w.stamp starts before) (shows.copies w old k before)
    | inr is ↦ absurd (omega (arith, ap (λ (y : Version). y.stamp) is))
  ];
  spanning = λ w k before h some. adds'.keeps w (shows.spanning w k before (AsOf-was all new v w w.key r.start adds (start_before r v.stamp w.stamp starts before) h) some);
}
