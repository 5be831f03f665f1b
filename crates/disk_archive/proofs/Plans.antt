-- Pages that are shown after a batch represent the history as it is then.
use Rattle.std.proofs.Common.{◌≡◌, ◌≢◌, ◌<◌, ℕ, zero, suc, List, [], ◌∷◌, ◌++◌, length, set, refl, sym, subst, arith, Some, length-set, get_or-set_same, get_or-set_other}
use Rattle.std.specs.List.{AllByRecursion, slice_get, slice_set}
use Rattle.std.proofs.lemmas.Option.{slice_get_within}
use Rattle.disk_models.specs.Once.{OnceState, settled_in}
use Rattle.route_model.specs.Admission.{Admitted, IsAdmission}
use Rattle.route_meaning.specs.Merged.{part}
use Rattle.route_meaning.specs.History.{Intake, History, waiting}
use Rattle.interleaving_core.specs.Steps.{given}
use Rattle.archive_head.specs.declared.lane.Lane.{Lane}
use Rattle.archive_head.specs.Head.{Contents, IsHead, head_octets}
use Rattle.archive_head.proofs.api.Heads.{encodes_written}
use Rattle.intake.specs.Ring.{Gains, RingRepresents}
use Rattle.archive_pages.specs.declared.settings.Settings.{Settings}
use Rattle.archive_pages.specs.Places.{ring_of}
use Rattle.archive_pages.specs.Represented.{HeadRepresents}
use Rattle.archive_pages.specs.Changes.{with_lane}
use Rattle.archive_pages.specs.Batches.{Kept, IsKeptOf, HasLane, lane_with}
use Rattle.archive_pages.proofs.api.Representing.{head_represents_headed}
use Rattle.archive_pages.proofs.api.Giving.{shows_given}
use Rattle.disk_archive.specs.Trees.{TreeLocated}
use Rattle.disk_archive.specs.inner.Planning.{Planned}
use Rattle.disk_archive.proofs.Mirroring.{intake_at}
use Rattle.disk_archive.proofs.api.Trees.{tree_framed}

pub lane_at : (c : ℕ) (lanes : List Lane) → c < length lanes → (lane : Lane) × (slice_get lanes c ≡ Some lane)
lane_at c [] lt = absurd (omega arith)
lane_at zero (l ∷ lanes) lt = (l, refl)
lane_at (suc c) (l ∷ lanes) lt = lane_at c lanes (omega arith)

pub set_there : {X : Type 0} (xs : List X) (c : ℕ) (x new : X) → slice_get xs c ≡ Some x → slice_get (slice_set xs c new) c ≡ Some new
set_there [] c x new e = cc
set_there (y ∷ xs) zero x new e = refl
set_there (y ∷ xs) (suc c) x new e = set_there xs c x new e

-- the ring gained what is kept, so some pages are shown
pub given_shown : (count : ℕ) (s : Settings) (o : OnceState) (shows : List (List ℕ) → Type 0) (head : Contents) (shown : List (List ℕ)) (h : History) (c : ℕ) (kept : Kept) (lane : Lane)
    → HeadRepresents (TreeLocated count) s (settled_in o) head shown h → HasLane head c lane
    → ((waits : List Admitted) → RingRepresents shown (ring_of s c lane) waits → Gains shows shown (ring_of s c (lane_with lane kept)) (waits ++ kept.timely))
    → (now : List (List ℕ)) × shows now
given_shown count s o shows head shown h c kept lane b at gains =
    let within = slice_get_within head.lanes c lane at in
    let n = b.number in
    let m = b.lanes_number in
    let i = intake_at c h.intakes (omega (arith, within, n, m)) in
    let own = b.lanes c lane i.0 at i.1 in
    let g = gains own.holds.stored own.holds.represents in
    (g.pages, g.shown)

-- and once the head is laid over page 0, they represent the history
pub plan_done : (count : ℕ) (s : Settings) (o : OnceState) (mid new : List (List ℕ) → Type 0) (head next : Contents) (shown : List (List ℕ)) (h : History) (c : ℕ) (offered : List Admitted) (kept : Kept) (lane : Lane) (i : Intake)
    → HeadRepresents (TreeLocated count) s (settled_in o) head shown h → AllByRecursion IsAdmission offered → HasLane head c lane → slice_get h.intakes c ≡ Some i → IsKeptOf i.mark offered kept
    → ((waits : List Admitted) → RingRepresents shown (ring_of s c lane) waits → Gains mid shown (ring_of s c (lane_with lane kept)) (waits ++ kept.timely))
    → next ≡ with_lane head c (lane_with lane kept) → IsHead next → ((pages : List (List ℕ)) → mid pages → 0 < length pages) → ((pages : List (List ℕ)) → mid pages → new (slice_set pages 0 (head_octets next)))
    → Planned count s (settled_in o) new next (given h c offered)
plan_done count s o mid new head next shown h c offered kept lane i b valid at here is gains same is_head some written =
    let g = shows_given (TreeLocated count) s (settled_in o) (tree_framed count (settled_in o)) mid head shown h c offered kept lane i b valid at here is gains in
    let head_represents = subst (λ (x : Contents). HeadRepresents (TreeLocated count) s (settled_in o) x g.pages (given h c offered)) (sym same) g.head_represents in
    record {
      pages = slice_set g.pages 0 (head_octets next);
      shown = written g.pages g.shown;
      headed = record {
        valid = is_head;
        first = encodes_written next _ is_head (get_or-set_same g.pages 0 (head_octets next) [] (some g.pages g.shown));
        head_represents = head_represents_headed (TreeLocated count) s (settled_in o) (tree_framed count (settled_in o)) next g.pages (set g.pages 0 (head_octets next)) (given h c offered) (length-set g.pages 0 (head_octets next))
            (λ n ge. get_or-set_other g.pages 0 n (head_octets next) [] (let other : n ≢ 0 = omega arith in other)) head_represents;
      };
    }
