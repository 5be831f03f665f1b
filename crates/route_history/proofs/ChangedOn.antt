-- What a walk over changes has gathered is right over later histories too.
use Rattle.std.proofs.Common.{◌≡◌, ◌<◌, ℕ, ◌⊎◌, inl, inr, List, [], ◌∷◌, Bool, true, Option, None, Some, sym, ap, subst, leb, Contains}
use Rattle.std.specs.List.{AllByRecursion, filter}
use Rattle.route_model.specs.Admission.{Admitted}
use Rattle.route_meaning.specs.declared.question.ChangedQuestion.{ChangedQuestion}
use Rattle.route_meaning.specs.declared.question.Spot.{Spot}
use Rattle.route_meaning.specs.Changed.{IsChanged, IsChangedAnswer}
use Rattle.route_meaning.specs.Events.{all_events, between}
use Rattle.route_meaning.specs.History.{History, IsHistory, Begins, applied, settled}
use Rattle.route_meaning.specs.Holds.{time_of}
use Rattle.route_meaning.specs.Merged.{Placed}
use Rattle.route_history.specs.Changes.{HasChanged, HasChangedSo, IsChangedBelow, IsChangedSoFar}
use Rattle.route_history.specs.declared.changed.ChangedCursor.{ChangedCursor}
use Rattle.route_history.proofs.AppliedLater.{until-applied}

-- of admissions with the same in the span the same has changed
module _ (ps qs : List (Placed Admitted)) (q : ChangedQuestion) (same : between q.from q.to ps ≡ between q.from q.to qs) where
  changed_on : (spot : Spot) → IsChanged ps q spot → IsChanged qs q spot
  changed_on spot k = record {
    event = k.event;
    reported = subst (λ (l : List (Placed Admitted)). Contains (all_events spot.peer spot.prefix l) k.event) same k.reported;
    of_prefix = k.of_prefix;
    low = k.low;
    high = k.high;
    above = k.above;
  }

  changed_back : (spot : Spot) → IsChanged qs q spot → IsChanged ps q spot
  changed_back spot k = record {
    event = k.event;
    reported = subst (λ (l : List (Placed Admitted)). Contains (all_events spot.peer spot.prefix l) k.event) (sym same) k.reported;
    of_prefix = k.of_prefix;
    low = k.low;
    high = k.high;
    above = k.above;
  }

  all_on : (spots : List Spot) → AllByRecursion (IsChanged ps q) spots → AllByRecursion (IsChanged qs q) spots
  all_on [] all = tt
  all_on (spot ∷ spots) all = (changed_on spot all.0, all_on spots all.1)

  below_on : (at : ℕ) (spots : List Spot) → AllByRecursion (IsChangedBelow ps q at) spots → AllByRecursion (IsChangedBelow qs q at) spots
  below_on at [] all = tt
  below_on at (spot ∷ spots) all = (record { changed = changed_on spot all.0.changed; below = all.0.below }, below_on at spots all.1)

  so_far_on : (at : ℕ) (spots : List Spot) (more : Bool) → IsChangedSoFar ps q at spots more → IsChangedSoFar qs q at spots more
  so_far_on at spots more k = record {
    rising = k.rising;
    only = below_on at spots k.only;
    each = λ spot b. k.each spot (record { changed = changed_back spot b.changed; below = b.below });
    few = k.few;
    alone = k.alone;
  }

  answer_on : (spots : List Spot) (more : Bool) → IsChangedAnswer ps q spots more → IsChangedAnswer qs q spots more
  answer_on spots more k = record {
    rising = k.rising;
    only = all_on spots k.only;
    each = λ spot b. k.each spot (changed_back spot b);
    few = k.few;
    full = λ e. (let f = k.full e in (f.0, record { next = f.1.next; changed = changed_on f.1.next f.1.changed; above = f.1.above }));
  }

  gathered_on : (front : Option ℕ) (spots : List Spot) (more : Bool) → HasChanged ps q front spots more → HasChanged qs q front spots more
  gathered_on None spots more k = answer_on spots more k
  gathered_on (Some at) spots more k = so_far_on at spots more k

pub changed_goes_on : (h g : History) (c : ChangedCursor) → IsHistory h → IsHistory g → Begins h g → c.question.to < settled h → HasChangedSo (applied h) c → HasChangedSo (applied g) c
changed_goes_on h g c is on b lt k =
    let q = c.question in
    let same : between q.from q.to (applied h) ≡ between q.from q.to (applied g) = ap (λ (l : List (Placed Admitted)). filter (λ p. leb q.from (time_of p)) l) (until-applied h g q.to is on b lt) in
    gathered_on (applied h) (applied g) q same c.front c.spots.items c.more k
