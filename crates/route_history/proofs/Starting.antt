-- What a walk has gathered at its start; and that it stays where later versions are added.
use Rattle.std.proofs.Common.{◌≡◌, ◌↔◌, ℕ, zero, suc, ◌<◌, ◌≤◌, ◌⊎◌, inl, inr, List, [], ◌∷◌, ◌++◌, replicate, Bool, false, Some, None, Option, refl, sym, ap, ◌∙◌, arith, subst, slice_get}
use Rattle.std.specs.List.{AllByRecursion}
use Rattle.std.proofs.lemmas.Option.{same_Some, none-some}
use Rattle.route_model.specs.Admission.{Admitted}
use Rattle.route_model.specs.declared.peer.Peer.{Peer}
use Rattle.route_model.specs.declared.route.Route.{Route}
use Rattle.route_model.specs.Prefix.{IpPrefix, IsPrefix}
use Rattle.route_model.specs.Encoding.{IsPeer}
use Rattle.route_model.specs.Keys.{key_number, session_number, number_of}
use Rattle.route_model.proofs.api.Keys.{session_below}
use Rattle.route_meaning.specs.declared.question.Row.{Row}
use Rattle.route_meaning.specs.declared.question.Spot.{Spot}
use Rattle.route_meaning.specs.declared.question.RowsQuestion.{RowsQuestion}
use Rattle.route_meaning.specs.Merged.{Placed}
use Rattle.route_meaning.specs.Holds.{Holds}
use Rattle.route_meaning.specs.Rows.{IsAnswer, spot_number}
use Rattle.route_meaning.proofs.api.Sorting.{all_weaker}
use Rattle.version_model.specs.Versions.{Version, Has, AsOf, Found, found_version, Answers}
use Rattle.route_history.specs.Stamps.{last_stamp}
use Rattle.route_model.specs.PeerKeys.{first_key}
use Rattle.route_history.specs.Fronts.{front_number}
use Rattle.route_history.specs.declared.rows.RowsCursor.{RowsCursor}
use Rattle.route_history.specs.Walks.{AreRowsBelow, IsUnderWay, IsGathered, Gathered, IsStart, GoesOn}
use Rattle.route_model.proofs.api.PeerKeys.{session_first}

pub started : (all : List Version) (ps : List (Placed Admitted)) (q : RowsQuestion) (at : ℕ) (ended : Option ℕ) (rows : List Row) → IsStart q.after at → rows ≡ [] → IsUnderWay all ps q at ended rows false
started all ps q at ended rows start e = subst (λ (l : List Row). IsUnderWay all ps q at ended l false) (sym e) (record {
  are = record { rising = tt; only = tt; each = λ row h. absurd (start.1 row.peer row.prefix h.above h.below) };
  few = omega arith;
  alone = refl;
  session = λ lt. absurd (omega (arith, lt, start.0));
})

pub zeros_are : number_of (replicate 40 0) ≡ 0
unfolding number_of
zeros_are = refl

pub start_low : (at : ℕ) → at ≡ 0 → IsStart None at
start_low at e = (omega (arith, e), λ p x above below. omega (arith, e, below))

pub start_session : (spot : Spot) (at : ℕ) → IsPeer spot.peer → IsPrefix spot.prefix → at ≡ session_number spot.peer → IsStart (Some spot) at
start_session spot at hp hx e = (
  ap first_key e ∙ session_first spot.peer ∙ sym e,
  λ p x above below. (let low : session_number spot.peer < spot_number spot = session_below spot.peer spot.prefix hp hx in let above' : spot_number spot < key_number p x = above in omega (arith, low, above', below, e)),
)

-- ---- what is found as of a stamp stays, where only later versions are added

get_left : (xs ys : List Version) (i : ℕ) (v : Version) → slice_get xs i ≡ Some v → slice_get (xs ++ ys) i ≡ Some v
get_left [] ys i v e = absurd (none-some v e)
get_left (x ∷ xs) ys zero v e = e
get_left (x ∷ xs) ys (suc i) v e = get_left xs ys i v e

get_either : (P : Version → Type 0) (xs ys : List Version) (i : ℕ) (v : Version) → AllByRecursion P ys → slice_get (xs ++ ys) i ≡ Some v → Has xs v ⊎ P v
get_either P [] [] i v a e = absurd (none-some v e)
get_either P [] (y ∷ ys) zero v a e = inr (subst P (same_Some y v e) a.0)
get_either P [] (y ∷ ys) (suc i) v a e = get_either P [] ys i v a.1 e
get_either P (x ∷ xs) ys zero v a e = inl (record { place = 0; is = e })
get_either P (x ∷ xs) ys (suc i) v a e = elim (get_either P xs ys i v a e) [ inl h ↦ inl (record { place = suc h.place; is = h.is }) | inr p ↦ inr p ]

AsOf-grows : (all more : List Version) (key s : ℕ) (v : Version) → AllByRecursion (λ w. s < w.stamp) more → AsOf all key s v → AsOf (all ++ more) key s v
AsOf-grows all more key s v later a = record {
  has = record { place = a.has.place; is = get_left all more a.has.place v a.has.is };
  of_key = a.of_key;
  not_after = a.not_after;
  greatest = λ w h k n. elim (get_either (λ w. s < w.stamp) all more h.place w later h.is) [ inl old ↦ a.greatest w old k n | inr new ↦ absurd (let lt : s < w.stamp = new in omega arith) ];
}

AsOf-was : (all more : List Version) (key s : ℕ) (v : Version) → AllByRecursion (λ w. s < w.stamp) more → AsOf (all ++ more) key s v → AsOf all key s v
AsOf-was all more key s v later a = record {
  has = elim (get_either (λ w. s < w.stamp) all more a.has.place v later a.has.is) [ inl old ↦ old | inr new ↦ absurd (let lt : s < v.stamp = new in let le : v.stamp ≤ s = a.not_after in omega arith) ];
  of_key = a.of_key;
  not_after = a.not_after;
  greatest = λ w h k n. a.greatest w (record { place = h.place; is = get_left all more h.place w h.is }) k n;
}

Answers-grows : (all more : List Version) (key s : ℕ) (found : Option Found) → AllByRecursion (λ w. s < w.stamp) more → Answers all key s found → Answers (all ++ more) key s found
Answers-grows all more key s None later a = λ v h. a v (AsOf-was all more key s v later h)
Answers-grows all more key s (Some f) later a = AsOf-grows all more key s (found_version key f) later a

-- ---- what is gathered stays

rows_stay : (ps qs : List (Placed Admitted)) (q : RowsQuestion) → ((p : Peer) (x : IpPrefix) (route : Route) → Holds ps q.moment p x route ↔ Holds qs q.moment p x route) → (at : ℕ) (rows : List Row) → AreRowsBelow ps q at rows → AreRowsBelow qs q at rows
rows_stay ps qs q same at rows are = record {
  rising = are.rising;
  only = all_weaker _ _ (λ r h. record { selected = h.selected; above = h.above; below = h.below; holds = (same r.peer r.prefix r.route).0 h.holds }) rows are.only;
  each = λ r h. are.each r (record { selected = h.selected; above = h.above; below = h.below; holds = (same r.peer r.prefix r.route).1 h.holds });
}

answer_stays : (ps qs : List (Placed Admitted)) (q : RowsQuestion) → ((p : Peer) (x : IpPrefix) (route : Route) → Holds ps q.moment p x route ↔ Holds qs q.moment p x route) → (rows : List Row) (more : Bool) → IsAnswer ps q rows more → IsAnswer qs q rows more
answer_stays ps qs q same rows more a = record {
  all = a.all;
  are = record {
    rising = a.are.rising;
    only = all_weaker _ _ (λ r h. record { selected = h.selected; above = h.above; within = h.within; holds = (same r.peer r.prefix r.route).0 h.holds }) a.all a.are.only;
    each = λ r h. a.are.each r (record { selected = h.selected; above = h.above; within = h.within; holds = (same r.peer r.prefix r.route).1 h.holds });
  };
  first = a.first;
  rest = a.rest;
}

gathered_stays : (all new : List Version) (ps qs : List (Placed Admitted)) (q : RowsQuestion) (f ended : Option ℕ) (rows : List Row) (more : Bool) → GoesOn all new ps qs q.moment → IsGathered all ps q f ended rows more → IsGathered new qs q f ended rows more
gathered_stays all new ps qs q None ended rows more g h = answer_stays ps qs q g.holds rows more h
gathered_stays all new ps qs q (Some at) ended rows more g h = record {
  are = rows_stay ps qs q g.holds at rows h.are;
  few = h.few;
  alone = h.alone;
  session = λ lt. (
      let was = h.session lt in
      (was.0, subst (λ (l : List Version). Answers l (first_key at) (last_stamp q.moment) was.0) (sym g.added) (Answers-grows all g.more (first_key at) (last_stamp q.moment) was.0 g.later was.1), was.2));
}

pub gathered_goes_on : (all new : List Version) (ps qs : List (Placed Admitted)) (c : RowsCursor) → GoesOn all new ps qs c.question.moment → Gathered all ps c → Gathered new qs c
gathered_goes_on all new ps qs c g h = gathered_stays all new ps qs c.question (front_number c.front) c.ended c.rows.items c.more g h
