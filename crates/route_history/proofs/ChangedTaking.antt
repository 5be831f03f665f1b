-- What is gathered of the spots that changed, where a look has been taken in.
use Rattle.std.proofs.Common.{◌≡◌, ℕ, suc, ◌<◌, ◌≤◌, List, [], ◌∷◌, ◌++◌, length, Bool, true, false, Option, Some, None, refl, sym, ap, subst, ◌∙◌, inl, inr, arith, Contains}
use Rattle.std.specs.List.{AllByRecursion}
use Rattle.std.proofs.lemmas.Bool.{cases_lt, false≢true}
use Rattle.std.proofs.lemmas.List.{length-append}
use Rattle.std.proofs.lemmas.List.Elements.{Contains-append_left, Contains-append_right}
use Rattle.route_model.specs.declared.peer.Peer.{Peer}
use Rattle.route_model.specs.Admission.{Admitted}
use Rattle.route_model.specs.Encoding.{IsPeer}
use Rattle.route_model.specs.Keys.{key_number}
use Rattle.route_model.specs.Prefix.{IpPrefix, IsPrefix}
use Rattle.route_meaning.specs.declared.question.ChangedQuestion.{ChangedQuestion}
use Rattle.route_meaning.specs.declared.question.Spot.{Spot}
use Rattle.route_meaning.specs.Changed.{IsChanged, IsChangedAnswer, IsAboveAll, AreSpotsRising}
use Rattle.route_meaning.specs.Merged.{Placed}
use Rattle.route_meaning.specs.Rows.{IsAbove, spot_number, most_rows}
use Rattle.route_meaning.proofs.api.Sorting.{all_weaker, all_append}
use Rattle.version_model.specs.Versions.{Version}
use Rattle.tsb_walk.specs.Touched.{AreTouched, HasWithin, NoneTouched}
use Rattle.route_history.specs.declared.changed.ChangedCursor.{ChangedCursor}
use Rattle.route_history.specs.Changes.{ReportsChanged, IsChangedBelow, IsChangedSoFar, LeapsOver, IsSpotAt, HasChanged, HasChangedSo, IsTaking, BeginsAfter, changed_from, changed_end}

rising_append : (mid : ℕ) (xs : List Spot) (y : Spot) → AreSpotsRising xs → AllByRecursion (λ s. spot_number s < mid) xs → mid ≤ spot_number y → AreSpotsRising (xs ++ y ∷ [])
rising_append mid [] y a low high = (tt, tt)
rising_append mid (x ∷ xs) y a low high =
    let lt : spot_number x < mid = low.0 in
    (all_append _ xs (y ∷ []) a.0 (omega arith, tt), rising_append mid xs y a.1 low.1 high)

module _ (ps : List (Placed Admitted)) (q : ChangedQuestion) where
  -- no spot that changed has a number from `at` on and below `to`
  abbrev pub NoSpots : ℕ → ℕ → Type 0
  NoSpots at to = (spot : Spot) → IsChanged ps q spot → at ≤ spot_number spot → spot_number spot < to → ⊥

  -- none has a number from `at` on
  abbrev pub NoSpotsFrom : ℕ → Type 0
  NoSpotsFrom at = (spot : Spot) → IsChanged ps q spot → at ≤ spot_number spot → ⊥

  higher : (at to : ℕ) (spots : List Spot) → at ≤ to → AllByRecursion (IsChangedBelow ps q at) spots → AllByRecursion (IsChangedBelow ps q to) spots
  higher at to spots le a = all_weaker _ _ (λ s h. record { changed = h.changed; below = (let lt : spot_number s < at = h.below in omega arith) }) spots a

  pub passes : (at to : ℕ) (spots : List Spot) (more : Bool) → at ≤ to → NoSpots at to → IsChangedSoFar ps q at spots more → IsChangedSoFar ps q to spots more
  passes at to spots more le none so = record {
    rising = so.rising;
    only = higher at to spots le so.only;
    each = λ spot h. elim (cases_lt (spot_number spot) at) [
      | inl lt ↦ so.each spot (record { changed = h.changed; below = lt })
      | inr ge ↦ absurd (none spot h.changed ge h.below)
    ];
    few = so.few;
    alone = so.alone;
  }

  pub gains : (at key : ℕ) (spot : Spot) (spots : List Spot) (more : Bool) → at ≤ key → NoSpots at key → IsChanged ps q spot → spot_number spot ≡ key → ((other : Spot) → IsChanged ps q other → spot_number other ≡ key → other ≡ spot) → length spots < most_rows
      → IsChangedSoFar ps q at spots more → IsChangedSoFar ps q (suc key) (spots ++ spot ∷ []) more
  gains at key spot spots more le none changed is one room so = record {
    rising = rising_append key spots spot so.rising (all_weaker _ _ (λ s h. let lt : spot_number s < at = h.below in omega arith) spots so.only) (omega (arith, is));
    only = all_append _ spots (spot ∷ []) (higher at (suc key) spots (omega (arith, le)) so.only) (record { changed = changed; below = omega (arith, is) }, tt);
    each = λ other h. elim (cases_lt (spot_number other) at) [
      | inl lt ↦ Contains-append_left spots (spot ∷ []) other (so.each other (record { changed = h.changed; below = lt }))
      | inr ge ↦ elim (cases_lt (spot_number other) key) [
        | inl below ↦ absurd (none other h.changed ge below)
        | inr not_below ↦ (
            let there : spot_number other ≡ key = (let b : spot_number other < suc key = h.below in omega arith) in
            let same : other ≡ spot = one other h.changed there in
            Contains-append_right spots (spot ∷ []) other (0, omega arith, sym same))
      ]
    ];
    few = (let e = length-append spots (spot ∷ []) in omega (arith, e, room));
    alone = so.alone;
  }

  below_all : (at : ℕ) (spot : Spot) (spots : List Spot) → at ≤ spot_number spot → AllByRecursion (IsChangedBelow ps q at) spots → IsAboveAll spots spot
  below_all at spot spots le a = all_weaker _ _ (λ s h. let lt : spot_number s < at = h.below in omega arith) spots a

  plain : (at : ℕ) (spots : List Spot) → AllByRecursion (IsChangedBelow ps q at) spots → AllByRecursion (IsChanged ps q) spots
  plain at spots a = all_weaker _ _ (λ s h. h.changed) spots a

  -- as many as an answer has, and one more
  pub fills : (at : ℕ) (spot : Spot) (spots : List Spot) (more : Bool) → IsChanged ps q spot → at ≤ spot_number spot → most_rows ≤ length spots → IsChangedSoFar ps q at spots more → IsChangedAnswer ps q spots true
  fills at spot spots more changed le full so = record {
    rising = so.rising;
    only = plain at spots so.only;
    each = λ other h. elim (cases_lt (spot_number other) at) [
      | inl lt ↦ inl (so.each other (record { changed = h; below = lt }))
      | inr ge ↦ inr (refl, below_all at other spots ge so.only)
    ];
    few = so.few;
    full = λ _. ((let few : length spots ≤ most_rows = so.few in omega (arith, full)), record { next = spot; changed = changed; above = below_all at spot spots le so.only });
  }

  -- all, and they are few
  pub ends : (at : ℕ) (spots : List Spot) (more : Bool) → NoSpotsFrom at → IsChangedSoFar ps q at spots more → IsChangedAnswer ps q spots more
  ends at spots more none so = record {
    rising = so.rising;
    only = plain at spots so.only;
    each = λ other h. elim (cases_lt (spot_number other) at) [
      | inl lt ↦ inl (so.each other (record { changed = h; below = lt }))
      | inr ge ↦ absurd (none other h ge)
    ];
    few = so.few;
    full = λ e. absurd (false≢true (sym so.alone ∙ e));
  }

  module _ (all : List Version) (t : ReportsChanged all ps q) where
    -- no spot changed where no key has a version in the span
    pub none_changed : (at to : ℕ) → NoneTouched all (changed_from q) (changed_end q) at to → NoSpots at to
    none_changed at to none spot changed low high = none (spot_number spot) low high (t.each spot changed)

    -- a key at which nothing is asked for
    pub none_at : (key : ℕ) → IsSpotAt q key None → (spot : Spot) → IsChanged ps q spot → spot_number spot ≡ key → ⊥
    none_at key w spot changed e =
        let fits = t.fits spot changed in
        w spot.peer spot.prefix fits.0 fits.1 e (changed.low, changed.high) (subst (λ (n : ℕ). IsAbove q.after n) e changed.above)

    -- no spot changed up to such a key, itself included
    pub nothing : (at key : ℕ) → NoneTouched all (changed_from q) (changed_end q) at key → IsSpotAt q key None → NoSpots at (suc key)
    nothing at key none w spot changed low high = elim (cases_lt (spot_number spot) key) [
      | inl lt ↦ none_changed at key none spot changed low lt
      | inr ge ↦ none_at key w spot changed (omega (arith, ge, high))
    ]

    pub spot_changed : (key : ℕ) (spot : Spot) → IsSpotAt q key (Some spot) → HasWithin all key (changed_from q) (changed_end q) → IsChanged ps q spot
    spot_changed key spot w within =
        t.only spot w.0.0 w.0.1 w.2 (subst (λ (n : ℕ). IsAbove q.after n) (sym w.1) w.3) (subst (λ (n : ℕ). HasWithin all n (changed_from q) (changed_end q)) (sym w.1) within)

    pub one_spot : (key : ℕ) (spot : Spot) → IsSpotAt q key (Some spot) → (other : Spot) → IsChanged ps q other → spot_number other ≡ key → other ≡ spot
    one_spot key spot w other changed e =
        let fits = t.fits other changed in
        let same = w.4 other.peer other.prefix fits.0 fits.1 e in
        λ i. record { peer = same.0 i; prefix = same.1 i }

    -- a leap keeps what is gathered
    pub leaps : (at : ℕ) (to : Option ℕ) (spots : List Spot) (more : Bool) → LeapsOver q at to → IsChangedSoFar ps q at spots more → HasChanged ps q to spots more
    leaps at None spots more over so = ends at spots more (λ spot changed low. let fits = t.fits spot changed in over spot.peer spot.prefix fits.0 fits.1 (changed.low, changed.high) low) so
    leaps at (Some to) spots more over so = passes at to spots more over.0 (λ spot changed low high. let fits = t.fits spot changed in over.1 spot.peer spot.prefix fits.0 fits.1 (changed.low, changed.high) low high) so

-- nothing is gathered below where a walk begins
pub begins : (ps : List (Placed Admitted)) (q : ChangedQuestion) (at : ℕ) → BeginsAfter q.after (Some at) → IsChangedSoFar ps q at [] false
begins ps q at b = record {
  rising = tt;
  only = tt;
  each = λ spot h. absurd (b (spot_number spot) h.below h.changed.above);
  few = omega arith;
  alone = refl;
}

pub never_begins : (ps : List (Placed Admitted)) (q : ChangedQuestion) (all : List Version) → ReportsChanged all ps q → BeginsAfter q.after None → IsChangedAnswer ps q [] false
never_begins ps q all t b = record {
  rising = tt;
  only = tt;
  each = λ spot h. (let fits = t.fits spot h in absurd (b spot.peer spot.prefix fits.0 fits.1 h.above));
  few = omega arith;
  full = λ e. absurd (false≢true e);
}

-- the keys that are left are those of a look, at first
pub takes_first : (all : List Version) (ps : List (Placed Admitted)) (c : ChangedCursor) (from high : ℕ) (rest : List ℕ) → c.front ≡ Some from → HasChangedSo ps c → from ≤ high → AreTouched all (changed_from c.question) (changed_end c.question) from high rest → IsTaking all ps c.question high rest c.spots.items c.more
takes_first all ps c from high rest e has within touched = record { at = from; within = within; touched = touched; so = subst (λ (f : Option ℕ). HasChanged ps c.question f c.spots.items c.more) e has }

-- the last key is taken: the walk goes on where the look ends
pub takes_rest : (all : List Version) (ps : List (Placed Admitted)) (q : ChangedQuestion) (high : ℕ) (to : Option ℕ) (rest : List ℕ) (spots : List Spot) (more : Bool) → rest ≡ [] → ReportsChanged all ps q → LeapsOver q high to → IsTaking all ps q high rest spots more → HasChanged ps q to spots more
takes_rest all ps q high to rest spots more e t leap taking =
    let none = subst (AreTouched all (changed_from q) (changed_end q) taking.at high) e taking.touched in
    leaps ps q all t high to spots more leap (passes ps q taking.at high spots more taking.within (none_changed ps q all t taking.at high none) taking.so)

-- the walk is over
pub answered : (ps : List (Placed Admitted)) (q : ChangedQuestion) (d : ChangedCursor) → d.question ≡ q → d.front ≡ None → IsChangedAnswer ps q d.spots.items d.more → HasChangedSo ps d
answered ps q d question front answer =
    subst (λ (f : Option ℕ). HasChanged ps d.question f d.spots.items d.more) (sym front) (subst (λ (r : ChangedQuestion). IsChangedAnswer ps r d.spots.items d.more) (sym question) answer)
