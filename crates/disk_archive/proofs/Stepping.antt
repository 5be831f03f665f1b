-- Pages that are shown after a change is applied represent the history as it is then.
use Rattle.std.proofs.Common.{◌≡◌, ◌<◌, ◌≤◌, ◌↔◌, ℕ, zero, suc, ◌+◌, List, [], ◌∷◌, ◌++◌, length, take, drop, map, Bool, true, refl, sym, ◌∙◌, ap, subst, inl, inr, true≢false, arith, Some, append-nil, length-set}
use Rattle.std.specs.List.{AllByRecursion, slice_get}
use Rattle.std.proofs.lemmas.Bool.{cases_lt, eq-eqb}
use Rattle.route_model.specs.declared.change.Change.{Change}
use Rattle.route_model.specs.Admission.{Admitted}
use Rattle.route_meaning.specs.Merged.{Placed, placed, part, all_placed, IsRising}
use Rattle.route_meaning.specs.Holds.{time_of}
use Rattle.route_meaning.specs.History.{Intake, History, IsBelowMarks, all_of, waiting, begun, applied}
use Rattle.route_meaning.proofs.api.Sorting.{all_append, rises_by_time}
use Rattle.route_meaning.proofs.api.Settling.{all_drop}
use Rattle.interleaving_core.specs.Steps.{Applies, AppliesMore}
use Rattle.version_model.specs.Versions.{Version}
use Rattle.route_history.specs.Kept.{Timed, at_time, timed, AreVersions}
use Rattle.route_history.specs.Stamps.{stamp_of}
use Rattle.archive_pages.specs.Places.{ring_of, tree_low}
use Rattle.archive_pages.specs.Stored.{LaneHolds}
use Rattle.archive_head.specs.declared.lane.Lane.{Lane}
use Rattle.intake.specs.Ring.{IsRing}
use Rattle.disk_archive.proofs.Mirroring.{intake_at}
use Rattle.disk_archive.proofs.Plans.{lane_at}
use Rattle.archive_head.specs.Head.{Contents}
use Rattle.archive_pages.specs.declared.settings.Settings.{Settings}
use Rattle.archive_pages.specs.Represented.{HeadRepresents, last_time}
use Rattle.archive_pages.specs.Changes.{Takes, next_change}
use Rattle.archive_pages.specs.Batches.{HasLane}
use Rattle.archive_pages.proofs.api.Passing.{Passes, steps_passed}
use Rattle.disk_archive.specs.Trees.{TreeLocated}
use Rattle.disk_archive.specs.Moves.{Moves}
use Rattle.disk_archive.specs.inner.Applications.{TreeTakes, TakesNext, MovesOn}

-- a change is applied
pub moves_one : (h g : History) → Applies h g → Moves h g
moves_one h g a = record { first = g; next = a; more = 0; others = refl }

one_more : (n : ℕ) (f m g : History) → AppliesMore n f m → Applies m g → AppliesMore (suc n) f g
one_more zero f m g e a = inl (g, subst (λ (x : History). Applies x g) e a, refl)
one_more (suc n) f m g (inl rest) a = inl (rest.0, rest.1, one_more n rest.0 m g rest.2 a)
one_more (suc n) f m g (inr stop) a =
    let a' : Applies f g = subst (λ (x : History). Applies x g) stop.1 a in
    absurd ((subst (AllByRecursion (λ p. IsBelowMarks f (time_of p) → ⊥)) a'.here stop.0).0 a'.below)

-- and one more
pub moves_more : (h m g : History) → Moves h m → Applies m g → Moves h g
moves_more h m g k a = record { first = k.first; next = k.next; more = suc k.more; others = one_more k.more k.first m g k.others a }

more_then : (n : ℕ) (f m g : History) → AppliesMore n f m → Moves m g → (more : ℕ) × AppliesMore more f g
more_then zero f m g e moves = let moves' : Moves f g = subst (λ (x : History). Moves x g) e moves in (suc moves'.more, inl (moves'.first, moves'.next, moves'.others))
more_then (suc n) f m g (inl rest) moves = let r = more_then n rest.0 m g rest.2 moves in (suc r.0, inl (rest.0, rest.1, r.1))
more_then (suc n) f m g (inr stop) moves = let moves' : Moves f g = subst (λ (x : History). Moves x g) stop.1 moves in (suc moves'.more, inl (moves'.first, moves'.next, moves'.others))

-- and further ones
pub moves_then : (h m g : History) → Moves h m → Moves m g → Moves h g
moves_then h m g k moves = let r = more_then k.more k.first m g k.others moves in record { first = k.first; next = k.next; more = r.0; others = r.1 }

-- the tree took the next change, and the head passed over it
pub moves_on : (count : ℕ) (s : Settings) (settled few : ℕ → List ℕ → Type 0) (shows : List (List ℕ) → Type 0) (head after : Contents) (whole : Bool) (root fresh block : ℕ) (shown : List (List ℕ)) (h : History) (c : ℕ) (first : Admitted) (later : List (Placed Admitted)) (lane : Lane)
    → (b : HeadRepresents (TreeLocated count) s few head shown h) → waiting h ≡ placed c first ∷ later → IsBelowMarks h first.time → HasLane head c lane → Passes s head after (placed c first) fresh block root
    → ((whole ≡ true) ↔ (length first.changes ≤ suc head.begun)) → TakesNext count s settled shows head (placed c first) root fresh block b.versions shown → MovesOn count s settled shows after whole h
moves_on count s settled few shows head after whole root fresh block shown h c first later lane b here below at passes is k =
    let t = k.takes in
    let Tree = TreeLocated count in
    let takes : Takes Tree s settled head after head.begun (placed c first) b.versions shown t.pages = elim (cases_lt (suc head.begun) (length first.changes)) [
      | inl lt ↦ subst (λ (x : Contents). Takes Tree s settled head x head.begun (placed c first) b.versions shown t.pages) (sym (passes.stays lt)) (record { more = k.more; versions = k.versions; changes = t.changes; tree = t.tree })
      | inr ge ↦ subst (λ (x : Contents). Takes Tree s settled head x head.begun (placed c first) b.versions shown t.pages) (sym (passes.leaves ge lane at)) (record { more = k.more; versions = k.versions; changes = t.changes; tree = t.tree })
    ] in
    let done = steps_passed Tree s settled few head after fresh block root shown t.pages h (placed c first) later lane b here below at passes takes in
    let a = done.applies in
    let same : a.next ≡ placed c first = (let e : a.next ∷ a.later ≡ placed c first ∷ later = sym a.here ∙ here in cc) in
    let changes : length a.next.item.changes ≡ length first.changes = ap (λ (p : Placed Admitted). length p.item.changes) same in
    let some = b.begun in
    record {
      after = done.after;
      moves = moves_one h done.after a;
      stays = λ part. (
        suc h.some,
        a.part (elim (cases_lt (suc h.some) (length first.changes)) [
          | inl lt ↦ omega (arith, lt, changes)
          | inr ge ↦ (let w : whole ≡ true = is.1 (omega (arith, ge, some)) in absurd (true≢false (sym w ∙ part)))
        ]),
      );
      leaves = λ all. a.whole (let le = is.0 all in omega (arith, le, changes, some));
      pages = t.pages;
      shown = t.shown;
      head_represents = done.head_represents;
    }

-- ---- the first that waits

-- the ring of its collector holds the first that waits in front
pub record Front (s : Settings) (head : Contents) (pages : List (List ℕ)) (h : History) (c : ℕ) (first : Admitted) : Type 0 where
  pub lane : Lane
  pub at : HasLane head c lane
  pub ring : IsRing (length pages) (ring_of s c lane)
  pub rest : List Admitted
  pub waits : part c (waiting h) ≡ first ∷ rest
  pub holds : LaneHolds s pages c lane (first ∷ rest)

pub front_holds : (count : ℕ) (s : Settings) (settled : ℕ → List ℕ → Type 0) (head : Contents) (pages : List (List ℕ)) (h : History) (c : ℕ) (first : Admitted) (later : List (Placed Admitted)) → c < length head.lanes → HeadRepresents (TreeLocated count) s settled head pages h → waiting h ≡ placed c first ∷ later → Front s head pages h c first
front_holds count s settled head pages h c first later low b here =
    let lane = lane_at c head.lanes low in
    let i = intake_at c h.intakes (let n = b.number in let m = b.lanes_number in omega (arith, n, m, low)) in
    let own = b.lanes c lane.0 i.0 lane.1 i.1 in
    let waits : part c (waiting h) ≡ first ∷ part c later = ap (part c) here ∙ rw (eq-eqb c c refl) refl in
    record { lane = lane.0; at = lane.1; ring = own.place; rest = part c later; waits = waits; holds = subst (LaneHolds s pages c lane.0) waits own.holds }

pub first_is : (h : History) (c : ℕ) (first a : Admitted) (later : List (Placed Admitted)) (rest : List Admitted) → waiting h ≡ placed c first ∷ later → slice_get (first ∷ rest) 0 ≡ Some a → waiting h ≡ placed c a ∷ later
first_is h c first a later rest here reported = let same : first ≡ a = cc in here ∙ ap (λ (x : Admitted). placed c x ∷ later) same

-- ---- what the tree took

-- no change is left: the tree is as it was
pub takes_none : (count : ℕ) (s : Settings) (settled : ℕ → List ℕ → Type 0) (shows : List (List ℕ) → Type 0) (head : Contents) (next : Placed Admitted) (versions : List Version) (shown : List (List ℕ)) → next_change head.begun next ≡ [] → shows shown
    → TreeLocated count shown settled (tree_low s) head.root head.fresh head.block (stamp_of head.last head.applied) versions → TakesNext count s settled shows head next head.root head.fresh head.block versions shown
takes_none count s settled shows head next versions shown none there t = record {
  more = [];
  versions = subst (λ (ts : List Timed). AreVersions head.applied ts []) (sym none) tt;
  takes = record {
    pages = shown;
    shown = there;
    changes = record { count = refl; below = λ n lt. refl };
    tree =
        let same : head.applied ≡ head.applied + 0 = omega arith in
        subst (λ (ts : List Timed). TreeLocated count shown settled (tree_low s) head.root head.fresh head.block (stamp_of (last_time head.last ts) (head.applied + length ts)) (versions ++ [])) (sym none)
        (subst (λ (vs : List Version). TreeLocated count shown settled (tree_low s) head.root head.fresh head.block (stamp_of head.last (head.applied + 0)) vs) (sym (append-nil versions))
        (subst (λ (n : ℕ). TreeLocated count shown settled (tree_low s) head.root head.fresh head.block (stamp_of head.last n) versions) same t));
  };
}

one_stamp : (n d : ℕ) (ts : List Timed) (v : Version) → AreVersions n ts (v ∷ []) → v.stamp + 1 ≡ stamp_of (last_time d ts) (n + length ts)
one_stamp n d [] v are = absurd are
one_stamp n d (t ∷ []) v are = let e = are.0.stamp in omega (arith, e)
one_stamp n d (t ∷ u ∷ ts) v are = absurd are.1

-- the version of the next change
pub takes_one : (count : ℕ) (s : Settings) (settled : ℕ → List ℕ → Type 0) (shows : List (List ℕ) → Type 0) (head : Contents) (next : Placed Admitted) (root fresh block : ℕ) (versions : List Version) (v : Version) (shown : List (List ℕ)) → AreVersions head.applied (next_change head.begun next) (v ∷ [])
    → TreeTakes count settled shows (tree_low s) root fresh block (v.stamp + 1) (versions ++ v ∷ []) shown → TakesNext count s settled shows head next root fresh block versions shown
takes_one count s settled shows head next root fresh block versions v shown are t = record {
  more = v ∷ [];
  versions = are;
  takes = subst (λ (n : ℕ). TreeTakes count settled shows (tree_low s) root fresh block n (versions ++ v ∷ []) shown) (one_stamp head.applied head.last (next_change head.begun next) v are) t;
}

-- what the head keeps after a change
pub record Kept (head after : Contents) (first_page first_block : ℕ) : Type 0 where
  pub fresh : after.fresh ≡ first_page
  pub block : after.block ≡ first_block
  pub lanes : length after.lanes ≡ length head.lanes

pub kept_passed : (s : Settings) (head after : Contents) (next : Placed Admitted) (fresh block root : ℕ) (lane : Lane) → HasLane head next.collector lane → Passes s head after next fresh block root → Kept head after fresh block
kept_passed s head after next fresh block root lane at passes = elim (cases_lt (suc head.begun) (length next.item.changes)) [
  | inl lt ↦ (let e = passes.stays lt in record { fresh = ap (λ (x : Contents). x.fresh) e; block = ap (λ (x : Contents). x.block) e; lanes = ap (λ (x : Contents). length x.lanes) e })
  | inr ge ↦ (let e = passes.leaves ge lane at in record { fresh = ap (λ (x : Contents). x.fresh) e; block = ap (λ (x : Contents). x.block) e; lanes = ap (λ (x : Contents). length x.lanes) e ∙ length-set head.lanes next.collector _ })
]

-- ---- no change that is applied is later than the first that waits

last_low : (d t : ℕ) (ts : List Timed) → d ≤ t → AllByRecursion (λ x. x.time ≤ t) ts → last_time d ts ≤ t
last_low d t [] le all = le
last_low d t (x ∷ ts) le all = last_low x.time t ts all.0 all.1

changes_low : (time t : ℕ) (changes : List Change) → time ≤ t → AllByRecursion (λ (x : Timed). x.time ≤ t) (map (at_time time) changes)
changes_low time t [] le = tt
changes_low time t (x ∷ changes) le = (le, changes_low time t changes le)

timed_low : (t : ℕ) (ps : List (Placed Admitted)) → AllByRecursion (λ p. time_of p ≤ t) ps → AllByRecursion (λ (x : Timed). x.time ≤ t) (timed ps)
timed_low t [] all = tt
timed_low t (p ∷ ps) all = all_append (λ (x : Timed). x.time ≤ t) (map (at_time (time_of p)) p.item.changes) (timed ps) (changes_low (time_of p) t p.item.changes all.0) (timed_low t ps all.1)

take_low : (n : ℕ) (ps : List (Placed Admitted)) (p : Placed Admitted) (qs : List (Placed Admitted)) → IsRising time_of ps → drop n ps ≡ p ∷ qs → AllByRecursion (λ q. time_of q ≤ time_of p) (take n ps)
take_low zero ps p qs r e = tt
take_low (suc n) [] p qs r e = tt
take_low (suc n) (x ∷ ps) p qs r e = ((subst (AllByRecursion (λ q. time_of x ≤ time_of q)) e (all_drop _ n ps r.0)).0, take_low n ps p qs r.1 e)

begun_low : (some t : ℕ) (ps : List (Placed Admitted)) (p : Placed Admitted) (qs : List (Placed Admitted)) → ps ≡ p ∷ qs → AllByRecursion (λ q. time_of q ≤ time_of p) (begun some ps)
begun_low zero t ps p qs e = tt
begun_low (suc n) t [] p qs e = tt
begun_low (suc n) t (x ∷ ps) p qs e = (let same : x ≡ p = cc in let times = ap time_of same in omega (arith, times), tt)

pub last_no_later : (count : ℕ) (s : Settings) (settled : ℕ → List ℕ → Type 0) (head : Contents) (pages : List (List ℕ)) (h : History) (next : Placed Admitted) (later : List (Placed Admitted)) → HeadRepresents (TreeLocated count) s settled head pages h → waiting h ≡ next ∷ later → head.last ≤ time_of next
last_no_later count s settled head pages h next later b here =
    let rises : IsRising time_of (all_of h) = rises_by_time time_of (all_placed 0 (map (λ (i : Intake). i.admitted) h.intakes)) in
    let all : AllByRecursion (λ q. time_of q ≤ time_of next) (applied h) =
    all_append _ (take h.whole (all_of h)) (begun h.some (waiting h)) (take_low h.whole (all_of h) next later rises here) (begun_low h.some 0 (waiting h) next later here) in
    let low = last_low 0 (time_of next) (timed (applied h)) (omega arith) (timed_low (time_of next) (applied h) all) in
    let e = b.last in
    omega (arith, low, e)
