-- What is known of collectors again mirrors the history that their rings hold.
use Rattle.std.proofs.Common.{◌≡◌, ◌≢◌, ◌<◌, ◌≤◌, ℕ, zero, suc, ◌+◌, List, [], ◌∷◌, ◌++◌, length, map, drop, replicate, Bool, false, cond, eqb, refl, sym, ◌∙◌, ap, subst, inl, inr, ⊎_elim, arith, Some, Result, Ok, Err}
use Rattle.std.specs.List.{AllByRecursion, slice_get, slice_set, filter}
use Rattle.std.proofs.lemmas.Bool.{cases_Bool, cases_eq, le-ltb}
use Rattle.std.proofs.lemmas.List.{length-map, length-replicate}
use Rattle.std.proofs.lemmas.Option.{slice_get_within}
use Rattle.disk_models.specs.Once.{OnceState, settled_in}
use Rattle.route_model.specs.Admission.{Admitted}
use Rattle.route_meaning.specs.Holds.{admitted_time}
use Rattle.route_meaning.specs.Merged.{Placed, part, parts, IsRising}
use Rattle.route_meaning.specs.History.{Intake, History, IsIntake, IsHistory, all_of, waiting}
use Rattle.route_meaning.proofs.api.Sorting.{all_weaker}
use Rattle.sequencer.specs.declared.late.Late.{Late}
use Rattle.sequencer.specs.Late.{greatest, is_late, timely, lates}
use Rattle.sequencer.specs.declared.late.Sieved.{Sieved}
use Rattle.sequencer.specs.Lanes.{Waiting, HasMarkAbove, Raises, SameLanes, marks, waiting_times}
use Rattle.sequencer.specs.Taking.{IsSieved, TakesIn}
use Rattle.sequencer.proofs.api.Setting.{all_at, marks_at, one_there}
use Rattle.sequencer.proofs.api.Sieving.{greatest-push, is_late-greatest}
use Rattle.interleaving_core.proofs.api.Right.{to_map}
use Rattle.archive_head.specs.declared.lane.Lane.{Lane}
use Rattle.archive_head.specs.Head.{Contents}
use Rattle.intake.specs.Ring.{time_of}
use Rattle.archive_pages.specs.declared.settings.Settings.{Settings}
use Rattle.archive_pages.specs.Stored.{LaneHolds}
use Rattle.archive_pages.specs.Represented.{HeadRepresents, LaneRepresents}
use Rattle.archive_pages.proofs.api.Histories.{part_of_all}
use Rattle.disk_archive.specs.declared.open_error.OpenError.{OpenError}
use Rattle.disk_archive.specs.declared.open_error.OpenError.TheVariants as openings
use Rattle.disk_archive.specs.Mirrors.{Mirrors}
use Rattle.disk_archive.specs.Trees.{TreeLocated}
use Rattle.disk_archive.specs.inner.Recalling.{IsUnknown, KnowsMarks, KnowsTimes}
use Rattle.disk_archive.proofs.Mirroring.{intake_at, map_get, part_there}
use Rattle.disk_archive.proofs.Plans.{lane_at}

-- ---- times that rise are taken in whole

-- where none is late, all are kept
pub none_late : (mark i : ℕ) (earlier ts : List ℕ) → lates (λ t. t) mark earlier i ts ≡ [] → timely (λ t. t) mark earlier ts ≡ ts
none_late mark i earlier [] e = refl
none_late mark i earlier (t ∷ ts) e =
    let first : Late = record { index = i; time = t; mark = greatest mark earlier } in
    let rest = lates (λ t. t) mark (earlier ++ t ∷ []) (i + 1) ts in
    elim (cases_Bool (is_late mark earlier t)) [
      | inl late ↦ (let bad : first ∷ rest ≡ [] = ap (λ b. cond b (first ∷ rest) rest) (sym late) ∙ e in absurd cc)
      | inr not ↦
          (let none : rest ≡ [] = ap (λ b. cond b (first ∷ rest) rest) (sym not) ∙ e in
          rw not (ap (λ (l : List ℕ). t ∷ l) (none_late mark (i + 1) (earlier ++ t ∷ []) ts none)))
    ]

-- of times that rise, from the greatest of those before them on, none is late
none_rising : (mark i : ℕ) (earlier ts : List ℕ) → AllByRecursion (λ t. greatest mark earlier ≤ t) ts → IsRising (λ t. t) ts → lates (λ t. t) mark earlier i ts ≡ []
none_rising mark i earlier [] above rises = refl
none_rising mark i earlier (t ∷ ts) above rises =
    let not : is_late mark earlier t ≡ false = is_late-greatest mark earlier t ∙ le-ltb t (greatest mark earlier) above.0 in
    let next : AllByRecursion (λ u. greatest mark (earlier ++ t ∷ []) ≤ u) ts =
    all_weaker (λ u. t ≤ u) (λ u. greatest mark (earlier ++ t ∷ []) ≤ u) (λ u le. let g = greatest-push mark earlier t in let a = above.0 in omega (arith, g, a, le)) ts rises.0 in
    rw not (none_rising mark (i + 1) (earlier ++ t ∷ []) ts next rises.1)

all_from_zero : (ts : List ℕ) → AllByRecursion (λ t. 0 ≤ t) ts
all_from_zero [] = tt
all_from_zero (t ∷ ts) = (omega arith, all_from_zero ts)

pub rising_none : (ts : List ℕ) → IsRising (λ t. t) ts → lates (λ t. t) 0 [] 0 ts ≡ []
rising_none ts rises = none_rising 0 0 [] ts (all_from_zero ts) rises

pub greatest_within : (mark : ℕ) (ts : List ℕ) → AllByRecursion (λ t. t ≤ mark) ts → greatest 0 ts ≤ mark
greatest_within mark [] all = omega arith
greatest_within mark (t ∷ ts) all = let ih = greatest_within mark ts all.1 in let h = all.0 in omega (arith, ih, h)

-- ---- lists, place by place

pub no_items : {X : Type 0} (xs : List X) → length xs ≡ 0 → xs ≡ []
no_items [] e = refl
no_items (x ∷ xs) e = absurd (omega (arith, e))

pub set_here : {X : Type 0} (xs : List X) (c : ℕ) (new : X) → c < length xs → slice_get (slice_set xs c new) c ≡ Some new
set_here [] c new lt = absurd (omega arith)
set_here (y ∷ xs) zero new lt = refl
set_here (y ∷ xs) (suc c) new lt = set_here xs c new (omega arith)

pub set_beside : {X : Type 0} (xs : List X) (c k : ℕ) (new : X) → k ≢ c → slice_get (slice_set xs c new) k ≡ slice_get xs k
set_beside [] c k new ne = refl
set_beside (y ∷ xs) zero zero new ne = absurd (ne refl)
set_beside (y ∷ xs) zero (suc k) new ne = refl
set_beside (y ∷ xs) (suc c) zero new ne = refl
set_beside (y ∷ xs) (suc c) (suc k) new ne = set_beside xs c k new (λ e. ne (ap suc e))

pub set_again : {X : Type 0} (xs : List X) (c : ℕ) (x y : X) → slice_set (slice_set xs c x) c y ≡ slice_set xs c y
set_again [] c x y = refl
set_again (z ∷ xs) zero x y = refl
set_again {X} (z ∷ xs) (suc c) x y = ap (λ (l : List X). z ∷ l) (set_again xs c x y)

long_set : {X : Type 0} (xs : List X) (c : ℕ) (x : X) → length (slice_set xs c x) ≡ length xs
long_set [] c x = refl
long_set (z ∷ xs) zero x = refl
long_set (z ∷ xs) (suc c) x = ap suc (long_set xs c x)

repeated : {X : Type 0} (n c : ℕ) (x : X) → c < n → slice_get (replicate n x) c ≡ Some x
repeated zero c x lt = absurd (omega arith)
repeated (suc n) zero x lt = refl
repeated (suc n) (suc c) x lt = repeated n c x (omega arith)

-- lists of one length that have the same at each place
one_list : {X : Type 0} (xs ys : List X) → length xs ≡ length ys → ((k : ℕ) (y : X) → slice_get ys k ≡ Some y → slice_get xs k ≡ Some y) → xs ≡ ys
one_list [] [] n each = refl
one_list [] (y ∷ ys) n each = absurd (omega (arith, n))
one_list (x ∷ xs) [] n each = absurd (omega (arith, n))
one_list {X} (x ∷ xs) (y ∷ ys) n each =
    let here : Some x ≡ Some y = each 0 y refl in
    let same : x ≡ y = cc in
    ap (λ (z : X). z ∷ xs) same ∙ ap (λ (l : List X). y ∷ l) (one_list xs ys (omega (arith, n)) (λ k z at. each (suc k) z at))

times_at : (lanes : List Waiting) (c : ℕ) (w : Waiting) → slice_get lanes c ≡ Some w → slice_get (waiting_times lanes) c ≡ Some w.times
times_at [] c w e = cc
times_at (v ∷ lanes) zero w e = let same : v ≡ w = cc in ap (λ (x : Waiting). Some x.times) same
times_at (v ∷ lanes) (suc c) w e = times_at lanes c w e

-- ---- one collector

pub known_marks : (lanes mid taken new : List Waiting) (n c mark : ℕ) (s : Sieved) → n ≡ c → SameLanes lanes mid → TakesIn mid n s taken → Raises taken n mark new → marks new ≡ slice_set (marks lanes) c mark
known_marks lanes mid taken new n c mark s number same takes raises =
    raises.marks
    ∙ ap (λ (l : List ℕ). slice_set l n mark) (takes.marks ∙ ap (λ (l : List ℕ). slice_set l n s.mark) same.marks)
    ∙ set_again (marks lanes) n s.mark mark
    ∙ ap (λ k. slice_set (marks lanes) k mark) number

pub known_times : (lanes mid taken new : List Waiting) (n c : ℕ) (times : List ℕ) (s : Sieved) → n ≡ c → IsUnknown lanes c → IsSieved 0 times s → s.late.items ≡ [] → SameLanes lanes mid → TakesIn mid n s taken → waiting_times new ≡ waiting_times taken → waiting_times new ≡ slice_set (waiting_times lanes) c times
known_times lanes mid taken new n c times s number unknown sieved none same takes raises =
    let nothing : slice_get (waiting_times mid) n ≡ Some [] = ap (λ (l : List (List ℕ)). slice_get l n) same.times ∙ subst (λ k. slice_get (waiting_times lanes) k ≡ Some []) (sym number) unknown.times in
    let bare : takes.lane.times ≡ [] = one_there (slice_get (waiting_times mid) n) takes.lane.times [] (times_at mid n takes.lane takes.here) nothing in
    let all : s.timely.items ≡ times = sieved.timely ∙ none_late 0 0 [] times (sym sieved.late ∙ none) in
    raises ∙ takes.times
    ∙ ap (λ (l : List (List ℕ)). slice_set l n (takes.lane.times ++ s.timely.items)) same.times
    ∙ ap (λ (l : List ℕ). slice_set (waiting_times lanes) n (l ++ s.timely.items)) bare
    ∙ ap (λ (l : List ℕ). slice_set (waiting_times lanes) n l) all
    ∙ ap (λ k. slice_set (waiting_times lanes) k times) number

pub not_above : (lanes mid taken : List Waiting) (n mark : ℕ) (times : List ℕ) (s : Sieved) → slice_get (marks lanes) n ≡ Some 0 → IsSieved 0 times s → SameLanes lanes mid → TakesIn mid n s taken → greatest 0 times ≤ mark → HasMarkAbove taken n mark → ⊥
not_above lanes mid taken n mark times s there sieved same takes within above =
    let low = slice_get_within (marks mid) n 0 (ap (λ (l : List ℕ). slice_get l n) same.marks ∙ there) in
    let set : slice_get (marks taken) n ≡ Some s.mark = ap (λ (l : List ℕ). slice_get l n) takes.marks ∙ set_here (marks mid) n s.mark low in
    let is : above.lane.mark ≡ s.mark = one_there (slice_get (marks taken) n) above.lane.mark s.mark (marks_at taken n above.lane above.here) set in
    let high = above.above in
    let mark_is = sieved.mark in
    absurd (omega (arith, is, high, mark_is, within))

-- ---- of each collector in turn

marks_long : (lanes : List Waiting) → length (marks lanes) ≡ length lanes
marks_long lanes = length-map lanes (λ (w : Waiting). w.mark)

times_long : (lanes : List Waiting) → length (waiting_times lanes) ≡ length lanes
times_long lanes = length-map lanes (λ (w : Waiting). w.times)

pub knows_none : (reported : List Lane) (lanes : List Waiting) (n : ℕ) → length reported ≡ n → marks lanes ≡ replicate n 0 → waiting_times lanes ≡ replicate n [] → KnowsMarks reported lanes 0
knows_none reported lanes n long m t = record {
  count = (let a = marks_long lanes in let b = ap length m in let d = length-replicate {A = ℕ} n 0 in omega (arith, a, b, d, long));
  marks = λ c lane lt at. absurd (omega (arith, lt));
  others = λ c ge lt. record {
    mark = ap (λ (l : List ℕ). slice_get l c) m ∙ repeated n c 0 (omega (arith, lt, long));
    times = ap (λ (l : List (List ℕ)). slice_get l c) t ∙ repeated n c [] (omega (arith, lt, long));
  };
}

pub knows_more : (reported : List Lane) (lanes new : List Waiting) (k : ℕ) (lane : Lane) (ts : List ℕ) → KnowsMarks reported lanes k → slice_get reported k ≡ Some lane → marks new ≡ slice_set (marks lanes) k lane.mark → waiting_times new ≡ slice_set (waiting_times lanes) k ts → KnowsMarks reported new (k + 1)
knows_more reported lanes new k lane ts knows here m t =
    let low = slice_get_within reported k lane here in
    let count = knows.count in
    let long = marks_long lanes in
    record {
      count = (let a = marks_long new in let b = ap length m in let d = long_set (marks lanes) k lane.mark in omega (arith, a, b, d, long, count));
      marks = λ c l lt at. ⊎_elim
          (λ (e : c ≡ k).
          let same : l ≡ lane = one_there (slice_get reported k) l lane (subst (λ j. slice_get reported j ≡ Some l) e at) here in
          let set : slice_get (slice_set (marks lanes) k lane.mark) k ≡ Some lane.mark = set_here (marks lanes) k lane.mark (omega (arith, low, count, long)) in
          subst (λ j. slice_get (marks new) j ≡ Some l.mark) (sym e) (ap (λ (x : List ℕ). slice_get x k) m ∙ set ∙ ap (λ (x : Lane). Some x.mark) (sym same)))
          (λ (ne : c ≢ k). ap (λ (x : List ℕ). slice_get x c) m ∙ set_beside (marks lanes) k c lane.mark ne ∙ knows.marks c l (omega (arith, lt, ne)) at)
          (cases_eq c k);
      others = λ c ge lt.
          let ne : c ≢ k = λ e. absurd (omega (arith, e, ge)) in
          let was = knows.others c (omega (arith, ge)) lt in
          record {
            mark = ap (λ (x : List ℕ). slice_get x c) m ∙ set_beside (marks lanes) k c lane.mark ne ∙ was.mark;
            times = ap (λ (x : List (List ℕ)). slice_get x c) t ∙ set_beside (waiting_times lanes) k c ts ne ∙ was.times;
          };
    }

pub times_more : (s : Settings) (reported : List Lane) (shown : List (List ℕ)) (lanes new : List Waiting) (k : ℕ) (ts : List ℕ) → KnowsMarks reported lanes k → k < length reported → KnowsTimes s reported shown lanes k → waiting_times new ≡ slice_set (waiting_times lanes) k ts
    → ((lane : Lane) (waits : List Admitted) → slice_get reported k ≡ Some lane → LaneHolds s shown k lane waits → ts ≡ map time_of waits) → KnowsTimes s reported shown new (k + 1)
times_more s reported shown lanes new k ts marks low knows t is c lane waits lt at holds = ⊎_elim
    (λ (e : c ≡ k).
    let count = marks.count in
    let long = times_long lanes in
    let held : LaneHolds s shown k lane waits = subst (λ j. LaneHolds s shown j lane waits) e holds in
    let same : ts ≡ map time_of waits = is lane waits (subst (λ j. slice_get reported j ≡ Some lane) e at) held in
    subst (λ j. slice_get (waiting_times new) j ≡ Some (map time_of waits)) (sym e)
    (ap (λ (x : List (List ℕ)). slice_get x k) t ∙ set_here (waiting_times lanes) k ts (omega (arith, low, count, long)) ∙ ap (λ (x : List ℕ). Some x) same))
    (λ (ne : c ≢ k). ap (λ (x : List (List ℕ)). slice_get x c) t ∙ set_beside (waiting_times lanes) k c ts ne ∙ knows c lane waits (omega (arith, lt, ne)) at holds)
    (cases_eq c k)

-- ---- what waits of a history rises up to the mark

rises_later : (c n : ℕ) (ps : List (Placed Admitted)) → IsRising admitted_time (part c ps) → IsRising admitted_time (part c (drop n ps))
rises_later c zero ps r = r
rises_later c (suc n) [] r = r
rises_later c (suc n) (p ∷ ps) r =
    let F : Bool → Type 0 = λ b. IsRising admitted_time (map (λ (q : Placed Admitted). q.item) (cond b (p ∷ filter (λ q. eqb q.collector c) ps) (filter (λ q. eqb q.collector c) ps))) in
    elim (cases_Bool (eqb p.collector c)) [
      | inl e ↦ (let both = subst F e r in rises_later c n ps both.1)
      | inr e ↦ rises_later c n ps (subst F e r)
    ]

all_later : (P : Admitted → Type 0) (c n : ℕ) (ps : List (Placed Admitted)) → AllByRecursion P (part c ps) → AllByRecursion P (part c (drop n ps))
all_later P c zero ps r = r
all_later P c (suc n) [] r = r
all_later P c (suc n) (p ∷ ps) r =
    let F : Bool → Type 0 = λ b. AllByRecursion P (map (λ (q : Placed Admitted). q.item) (cond b (p ∷ filter (λ q. eqb q.collector c) ps) (filter (λ q. eqb q.collector c) ps))) in
    elim (cases_Bool (eqb p.collector c)) [
      | inl e ↦ (let both = subst F e r in all_later P c n ps both.1)
      | inr e ↦ all_later P c n ps (subst F e r)
    ]

rising_times : (waits : List Admitted) → IsRising admitted_time waits → IsRising (λ t. t) (map admitted_time waits)
rising_times [] r = tt
rising_times (a ∷ waits) r = (to_map admitted_time (λ t. a.time ≤ t) waits r.0, rising_times waits r.1)

pub waits_rise : (h : History) (c : ℕ) (i : Intake) → IsHistory h → slice_get h.intakes c ≡ Some i → IsRising (λ t. t) (map admitted_time (part c (waiting h)))
waits_rise h c i right here =
    let own = all_at IsIntake h.intakes c i right.intakes here in
    rising_times (part c (waiting h)) (rises_later c h.whole (all_of h) (subst (IsRising admitted_time) (sym (part_of_all h right c i here)) own.rising))

pub waits_low : (h : History) (c : ℕ) (i : Intake) → IsHistory h → slice_get h.intakes c ≡ Some i → AllByRecursion (λ t. t ≤ i.mark) (map admitted_time (part c (waiting h)))
waits_low h c i right here =
    let own = all_at IsIntake h.intakes c i right.intakes here in
    to_map admitted_time (λ t. t ≤ i.mark) (part c (waiting h)) (all_later (λ a. a.time ≤ i.mark) c h.whole (all_of h) (subst (AllByRecursion (λ a. a.time ≤ i.mark)) (sym (part_of_all h right c i here)) own.below))

-- ---- what a history says of a collector

-- what the head says of it, and what its ring holds
pub record Own (s : Settings) (shown : List (List ℕ)) (c : ℕ) (lane : Lane) (h : History) : Type 0 where
  pub intake : Intake
  pub here : slice_get h.intakes c ≡ Some intake
  pub represents_all : LaneRepresents s shown c lane intake (part c (waiting h))

pub own_of : (count : ℕ) (s : Settings) (o : OnceState) (head : Contents) (shown : List (List ℕ)) (h : History) (c : ℕ) (lane : Lane) → HeadRepresents (TreeLocated count) s (settled_in o) head shown h → slice_get head.lanes c ≡ Some lane → Own s shown c lane h
own_of count s o head shown h c lane b at =
    let within = slice_get_within head.lanes c lane at in
    let n = b.number in
    let m = b.lanes_number in
    let i = intake_at c h.intakes (omega (arith, within, n, m)) in
    record { intake = i.0; here = i.1; represents_all = b.lanes c lane i.0 at i.1 }

-- all collectors are known
pub mirrors_known : (count : ℕ) (s : Settings) (o : OnceState) (head : Contents) (shown : List (List ℕ)) (h : History) (lanes : List Waiting) (known : ℕ) → HeadRepresents (TreeLocated count) s (settled_in o) head shown h → length head.lanes ≤ known → KnowsMarks head.lanes lanes known → KnowsTimes s head.lanes shown lanes known → Mirrors lanes h
mirrors_known count s o head shown h lanes known b all knows times =
    let n = b.number in
    let m = b.lanes_number in
    let long = knows.count in
    let intakes = h.intakes in
    record {
      marks = one_list (marks lanes) (map (λ (i : Intake). i.mark) intakes)
          (let a = marks_long lanes in let d = length-map intakes (λ (i : Intake). i.mark) in omega (arith, a, d, n, m, long))
          (λ k y at.
          let low = slice_get_within (map (λ (i : Intake). i.mark) intakes) k y at in
          let d = length-map intakes (λ (i : Intake). i.mark) in
          let lane = lane_at k head.lanes (omega (arith, low, d, n, m)) in
          let own = own_of count s o head shown h k lane.0 b lane.1 in
          let is : own.intake.mark ≡ y = one_there (slice_get (map (λ (i : Intake). i.mark) intakes) k) own.intake.mark y (map_get (λ (i : Intake). i.mark) intakes k own.intake own.here) at in
          knows.marks k lane.0 (omega (arith, low, d, n, m, all)) lane.1 ∙ ap (λ (x : ℕ). Some x) (own.represents_all.mark ∙ is));
      times =
          let lists = parts 0 (length intakes) (waiting h) in
          one_list (waiting_times lanes) (map (map admitted_time) lists)
          (let a = times_long lanes in let d = length-map lists (map admitted_time) in let e = parts_long 0 (length intakes) (waiting h) in omega (arith, a, d, e, n, m, long))
          (λ k y at.
          let low = slice_get_within (map (map admitted_time) lists) k y at in
          let d = length-map lists (map admitted_time) in
          let e = parts_long 0 (length intakes) (waiting h) in
          let lane = lane_at k head.lanes (omega (arith, low, d, e, n, m)) in
          let own = own_of count s o head shown h k lane.0 b lane.1 in
          let zero_plus : 0 + k ≡ k = omega arith in
          let there : slice_get lists k ≡ Some (part k (waiting h)) = part_there 0 (length intakes) k (waiting h) (omega (arith, low, d, e)) ∙ ap (λ j. Some (part j (waiting h))) zero_plus in
          let is : map admitted_time (part k (waiting h)) ≡ y = one_there (slice_get (map (map admitted_time) lists) k) (map admitted_time (part k (waiting h))) y (map_get (map admitted_time) lists k (part k (waiting h)) there) at in
          times k lane.0 (part k (waiting h)) (omega (arith, low, d, e, n, m, all)) lane.1 own.represents_all.holds ∙ ap (λ (x : List ℕ). Some x) is);
    }
  where
    parts_long : (d k : ℕ) (ps : List (Placed Admitted)) → length (parts d k ps) ≡ k
    parts_long d zero ps = refl
    parts_long d (suc k) ps = ap suc (parts_long (suc d) k ps)

-- where the result is an Ok, the device didn't fail
pub no_fault : {A : Type 0} (r : Result A OpenError) (a : A) → r ≡ Ok a → r ≡ Err openings.Fault → ⊥
no_fault r a is was = cc
