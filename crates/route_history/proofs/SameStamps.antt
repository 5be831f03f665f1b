-- Versions that differ in values alone: what a walk knows of a session is the same of both.
use Rattle.std.proofs.Common.{◌≡◌, ℕ, zero, suc, ◌≤◌, List, [], ◌∷◌, Bool, Some, None, Option, refl, sym, ap, ◌∙◌, subst, slice_get}
use Rattle.std.specs.List.{AllZip}
use Rattle.std.proofs.lemmas.Option.{same_Some, none-some}
use Rattle.version_model.specs.Versions.{Version, AsOf, found_version}
use Rattle.route_history.specs.Stamps.{last_stamp}
use Rattle.route_model.specs.Admission.{Admitted}
use Rattle.route_meaning.specs.declared.question.Row.{Row}
use Rattle.route_meaning.specs.declared.question.RowsQuestion.{RowsQuestion}
use Rattle.route_meaning.specs.Merged.{Placed}
use Rattle.route_model.specs.PeerKeys.{first_key}
use Rattle.route_history.specs.Fronts.{front_number}
use Rattle.route_history.specs.declared.rows.RowsCursor.{RowsCursor}
use Rattle.route_history.specs.Walks.{EndedAt, IsSameVersion, IsGathered, Gathered}

flip : (vs ws : List Version) → AllZip IsSameVersion vs ws → AllZip IsSameVersion ws vs
flip [] [] a = tt
flip [] (w ∷ ws) a = absurd a
flip (v ∷ vs) [] a = absurd a
flip (v ∷ vs) (w ∷ ws) a = (record { key = sym a.0.key; stamp = sym a.0.stamp; ends = (a.0.ends.1, a.0.ends.0) }, flip vs ws a.1)

at_same : (vs ws : List Version) (i : ℕ) (v : Version) → AllZip IsSameVersion vs ws → slice_get vs i ≡ Some v → (w : Version) × (slice_get ws i ≡ Some w) × IsSameVersion v w
at_same [] ws i v a e = absurd (none-some v e)
at_same (x ∷ vs) [] i v a e = absurd a
at_same (x ∷ vs) (y ∷ ws) zero v a e = (y, refl, subst (λ (u : Version). IsSameVersion u y) (same_Some x v e) a.0)
at_same (x ∷ vs) (y ∷ ws) (suc i) v a e = at_same vs ws i v a.1 e

as_of_same : (vs ws : List Version) (key s : ℕ) (v : Version) → AllZip IsSameVersion vs ws → AsOf vs key s v → (w : Version) × AsOf ws key s w × IsSameVersion v w
as_of_same vs ws key s v a o =
    let there = at_same vs ws o.has.place v a o.has.is in
    let w : Version = there.0 in
    let same : IsSameVersion v w = there.2 in (
      w,
      record {
        has = record { place = o.has.place; is = there.1 };
        of_key = sym same.key ∙ o.of_key;
        not_after = subst (λ (n : ℕ). n ≤ s) same.stamp o.not_after;
        greatest = λ u h k n. (
            let back = at_same ws vs h.place u (flip vs ws a) h.is in
            let g : back.0.stamp ≤ v.stamp = o.greatest back.0 (record { place = h.place; is = back.1 }) (sym back.2.key ∙ k) (subst (λ (m : ℕ). m ≤ s) back.2.stamp n) in
            subst (λ (m : ℕ). m ≤ w.stamp) (sym back.2.stamp) (subst (λ (m : ℕ). back.0.stamp ≤ m) same.stamp g));
      },
      same,
    )

pub ended_same : (vs ws : List Version) (s key : ℕ) (ended : Option ℕ) → AllZip IsSameVersion vs ws → EndedAt vs s key ended → EndedAt ws s key ended
ended_same vs ws s key ended a (None, none, e) = (None, λ w o. (let back = as_of_same ws vs key s w (flip vs ws a) o in (back.2.ends).1 (none back.0 back.1)), e)
ended_same vs ws s key ended a (Some f, holds, e) =
    let there = as_of_same vs ws key s (found_version key f) a holds in
    by_value there.0 there.1 there.2 there.0.value refl
  where
    by_value : (w : Version) → AsOf ws key s w → IsSameVersion (found_version key f) w → (value : Option (List ℕ)) → w.value ≡ value → EndedAt ws s key ended
    by_value w o same None is = absurd (none-some f.value (sym (same.ends.1 is)))
    by_value w o same (Some octets) is =
        let whole : w ≡ found_version key (record { stamp = w.stamp; value = octets }) = λ i. record { key = o.of_key i; stamp = w.stamp; value = is i } in
        (Some (record { stamp = w.stamp; value = octets }), subst (AsOf ws key s) whole o, ap (λ (n : ℕ). Some n) (sym same.stamp) ∙ e)

gathered_like : (vs ws : List Version) (ps : List (Placed Admitted)) (q : RowsQuestion) (f ended : Option ℕ) (rows : List Row) (more : Bool) → AllZip IsSameVersion vs ws → IsGathered vs ps q f ended rows more → IsGathered ws ps q f ended rows more
gathered_like vs ws ps q None ended rows more a g = g
gathered_like vs ws ps q (Some at) ended rows more a g = record { are = g.are; few = g.few; alone = g.alone; session = λ lt. ended_same vs ws (last_stamp q.moment) (first_key at) ended a (g.session lt) }

pub gathered_alike : (vs ws : List Version) (ps : List (Placed Admitted)) (c : RowsCursor) → AllZip IsSameVersion vs ws → Gathered vs ps c → Gathered ws ps c
gathered_alike vs ws ps c a g = gathered_like vs ws ps c.question (front_number c.front) c.ended c.rows.items c.more a g
