-- What was answered as of a stamp stays the answer when only later versions come.
use Rattle.std.proofs.Common.{◌≡◌, ℕ, ◌+◌, ◌<◌, ◌≤◌, inl, inr, List, filter, Option, Some, None, ap, ◌∙◌, arith}
use Rattle.version_model.specs.Versions.{Version, AsOf, Found, found_version, Answers, IsRising, Adds, AddsLater}
use Rattle.version_model.specs.Ranges.{key_end, end_or}
use Rattle.version_model.specs.Looks.{NoneWithin, Reached, At, Past, End, IsReached, is_of, IsPart}
use Rattle.version_model.proofs.api.LooksShown.{rising_one, filter_has, has_filter, filter_rising, is_of_true}

module _ (all new : List Version) (s : ℕ) (adds : AddsLater all s new) where
  pub AsOf-stays : (key at : ℕ) (v : Version) → at ≤ s → AsOf all key at v → AsOf new key at v
  AsOf-stays key at v upto h = record {
    has = adds.keeps v h.has;
    of_key = h.of_key;
    not_after = h.not_after;
    greatest = λ w in_new same w_upto. elim (adds.later w in_new) [
      | inl old ↦ h.greatest w old same w_upto
      | inr late ↦ absurd (omega (arith, late, w_upto, upto))
    ];
  }

  pub AsOf-stood : (key at : ℕ) (v : Version) → at ≤ s → AsOf new key at v → AsOf all key at v
  AsOf-stood key at v upto h = record {
    has = elim (adds.later v h.has) [
      | inl old ↦ old
      | inr late ↦ absurd (omega (arith, late, h.not_after, upto))
    ];
    of_key = h.of_key;
    not_after = h.not_after;
    greatest = λ w in_all same w_upto. h.greatest w (adds.keeps w in_all) same w_upto;
  }

  pub answers_stay : (key at : ℕ) (answer : Option Found) → at ≤ s → Answers all key at answer → Answers new key at answer
  answers_stay key at (Some found) upto h = AsOf-stays key at (found_version key found) upto h
  answers_stay key at None upto none = λ v h. none v (AsOf-stood key at v upto h)

  pub none_stays : (at from to : ℕ) → at ≤ s → NoneWithin all at from to → NoneWithin new at from to
  none_stays at from to upto none = λ key above below. answers_stay key at None upto (none key above below)

  pub next_stays : (at from : ℕ) (reached : Reached) → at ≤ s → IsReached all at from reached → IsReached new at from reached
  next_stays at from (At key found) upto h = (h.0, answers_stay key at (Some found) upto h.1, none_stays at from key upto h.2)
  next_stays at from (Past high) upto h = (h.0, none_stays at from high upto h.1)
  next_stays at from End upto h = none_stays at from key_end upto h

  -- the versions of a key before a stamp that no later version is before
  filter_stays : (key from to : ℕ) → IsRising all → IsRising new → to ≤ s + 1 → filter (is_of key from to) all ≡ filter (is_of key from to) new
  filter_stays key from to rising rising_new upto =
      let p = is_of key from to in
      rising_one (filter p all) (filter p new) (filter_rising p all rising) (filter_rising p new rising_new)
      (λ x h. (let i = filter_has p all x h in has_filter p new x (adds.keeps x i.0) i.1))
      (λ x h. (let i = filter_has p new x h in
      elim (adds.later x i.0) [
        | inl old ↦ has_filter p all x old i.1
        | inr late ↦ absurd (omega (arith, late, upto, (is_of_true key from to x i.1).2))
      ]))

  pub part_stays : (key from : ℕ) (versions : List Version) (reported : Option ℕ) → IsRising all → IsRising new → end_or reported ≤ s + 1 → IsPart all key from versions reported → IsPart new key from versions reported
  part_stays key from versions reported rising rising_new upto h = record { above = h.above; are = h.are ∙ filter_stays key from (end_or reported) rising rising_new upto }

-- a version that is later than the stamp
pub Adds-later : (all new : List Version) (v : Version) (s : ℕ) → Adds all v new → s < v.stamp → AddsLater all s new
Adds-later all new v s adds late = record {
  keeps = adds.keeps;
  later = λ w h. elim (adds.same w h) [
    | inl old ↦ inl old
    | inr is ↦ inr (omega (arith, ap (λ (x : Version). x.stamp) is, late))
  ];
}
