-- Where a batch is too much for an archive, and where it isn't.
use Rattle.std.proofs.Common.{◌≡◌, ◌<◌, ◌≤◌, ◌↔◌, ◌+◌, ◌-◌, ◌*◌, ℕ, Bool, false, List, [], length, sym, ◌∙◌, ap, subst, arith, Some, inl, inr, Result, Ok, Err, true≢false}
use Rattle.std.specs.Prelude.{IsErrAnd}
use Rattle.std.specs.List.{slice_get}
use Rattle.std.proofs.lemmas.Bool.{cases_lt}
use Rattle.std.proofs.lemmas.Option.{slice_get_within}
use Rattle.disk_models.specs.Once.{OnceState, settled_in}
use Rattle.route_model.specs.Admission.{Admitted}
use Rattle.route_meaning.specs.Merged.{part}
use Rattle.route_meaning.specs.Holds.{admitted_time}
use Rattle.route_meaning.specs.History.{Intake, History, IsIntake, waiting}
use Rattle.sequencer.specs.Late.{timely}
use Rattle.sequencer.specs.Lanes.{Waiting, marks}
use Rattle.sequencer.proofs.api.Setting.{all_at, one_there}
use Rattle.interleaving_core.proofs.api.Right.{few}
use Rattle.intake.specs.Ring.{IsRing, octets_for, size_of}
use Rattle.archive_head.specs.declared.lane.Lane.{Lane}
use Rattle.archive_head.specs.Head.{Contents}
use Rattle.archive_pages.specs.declared.settings.Settings.{Settings}
use Rattle.archive_pages.specs.Places.{ring_of}
use Rattle.archive_pages.specs.Represented.{HeadRepresents}
use Rattle.archive_pages.specs.Batches.{Kept, IsKeptOf, CanTake, HasLane}
use Rattle.archive_pages.proofs.api.Stored.{holds_size}
use Rattle.disk_archive.specs.Trees.{TreeLocated}
use Rattle.disk_archive.specs.Limits.{IsCounterFull, IsRingFull}
use Rattle.page_journal.specs.declared.error.UseError.{UseError}
use Rattle.page_journal.specs.declared.error.UseError.TheVariants as uses
use Rattle.disk_archive.specs.declared.error.AdmitError.{AdmitError}
use Rattle.disk_archive.specs.declared.error.AdmitError.TheVariants as admits
use Rattle.page_journal.specs.Refusals.{UseRefusal}
use Rattle.disk_archive.specs.inner.Committing.{PlanRefusal, admit_of_use}
use Rattle.disk_archive.specs.Mirrors.{Mirrors}
use Rattle.disk_archive.proofs.Mirroring.{intake_at, mark_there}
use Rattle.disk_archive.proofs.Plans.{lane_at}

-- A collector of a history that is represented can take a batch whose records can be counted.
pub can_take : (count : ℕ) (s : Settings) (o : OnceState) (head : Contents) (shown : List (List ℕ)) (h : History) (c homes : ℕ) (lane : Lane) (i : Intake) (batch : List Admitted) (kept : Kept)
    → HeadRepresents (TreeLocated count) s (settled_in o) head shown h → HasLane head c lane → slice_get h.intakes c ≡ Some i → IsKeptOf i.mark batch kept → length shown ≡ homes
    → lane.offered + length batch ≤ 18446744073709551615 → CanTake homes s c lane kept
can_take count s o head shown h c homes lane i batch kept b at here is len fits =
    let own = b.lanes c lane i at here in
    let offered = own.offered in
    let admitted = own.admitted in
    let counted = (all_at IsIntake h.intakes c i b.right.intakes here).counted in
    let n : length kept.timely ≡ length (timely admitted_time i.mark [] batch) = ap (λ (l : List Admitted). length l) is.items in
    let m = few admitted_time i.mark batch in
    let all = is.count in
    record {
      ring = subst (λ (k : ℕ). IsRing k (ring_of s c lane)) len own.place;
      offered = omega (arith, fits, all);
      admitted = omega (arith, fits, offered, admitted, counted, n, m);
    }

-- the collector's count is full, according to the head
pub counter_full : (count : ℕ) (s : Settings) (o : OnceState) (head : Contents) (shown : List (List ℕ)) (h : History) (c more : ℕ) (lane : Lane)
    → HeadRepresents (TreeLocated count) s (settled_in o) head shown h → HasLane head c lane → c < length h.intakes → IsCounterFull h c more ↔ (18446744073709551615 < lane.offered + more)
counter_full count s o head shown h c more lane b at low =
    let i = intake_at c h.intakes low in
    let offered = (b.lanes c lane i.0 at i.1).offered in (
      λ full. let own = (b.lanes c lane full.intake at full.here).offered in let above = full.above in omega (arith, own, above),
      λ above. record { intake = i.0; here = i.1; above = omega (arith, offered, above) },
    )

-- the ring is full, according to the head
pub ring_full : (count : ℕ) (s : Settings) (o : OnceState) (head : Contents) (shown : List (List ℕ)) (h : History) (c : ℕ) (batch : List Admitted) (lane : Lane) (i : Intake)
    → HeadRepresents (TreeLocated count) s (settled_in o) head shown h → HasLane head c lane → slice_get h.intakes c ≡ Some i
    → IsRingFull s h c batch ↔ (16384 * s.ring - lane.used < octets_for (timely admitted_time i.mark [] batch))
ring_full count s o head shown h c batch lane i b at here =
    let own = b.lanes c lane i at here in
    let size = holds_size s shown c lane (part c (waiting h)) own.holds in
    let used = own.place.used in (
      λ full.
          let same : full.intake ≡ i = one_there (slice_get h.intakes c) full.intake i full.here here in
          let above : 16384 * s.ring < octets_for (part c (waiting h)) + octets_for (timely admitted_time i.mark [] batch) =
          subst (λ (j : Intake). 16384 * s.ring < octets_for (part c (waiting h)) + octets_for (timely admitted_time j.mark [] batch)) same full.above in
          omega (arith, above, size, used),
      λ crowded. record { intake = i; here = here; above = omega (arith, crowded, size, used) },
    )

-- a ring isn't full that, according to the head and the marks in memory, has room for what isn't late of a batch
pub not_crowded : (count : ℕ) (s : Settings) (o : OnceState) (head : Contents) (lanes : List Waiting) (shown : List (List ℕ)) (h : History) (c : ℕ) (batch : List Admitted)
    → HeadRepresents (TreeLocated count) s (settled_in o) head shown h → Mirrors lanes h → c < s.collectors
    → ((lane : Lane) (mark : ℕ) → HasLane head c lane → slice_get (marks lanes) c ≡ Some mark → octets_for (timely admitted_time mark [] batch) ≤ 16384 * s.ring - lane.used) → IsRingFull s h c batch → ⊥
not_crowded count s o head lanes shown h c batch b m low room full =
    let n = b.lanes_number in
    let lane = lane_at c head.lanes (omega (arith, n, low)) in
    let free = room lane.0 full.intake.mark lane.1 (mark_there lanes h c full.intake m full.here) in
    let crowded = (ring_full count s o head shown h c batch lane.0 full.intake b lane.1 full.here).0 full in
    absurd (omega (arith, free, crowded))

-- ---- what isn't returned before a plan

-- it is none of the refusals that are returned before anything is planned
pub record IsLater (e : AdmitError) : Type 0 where
  pub recovery : e ≡ admits.NeedsRecovery → ⊥
  pub collector : e ≡ admits.NoCollector → ⊥
  pub large : e ≡ admits.BatchTooLarge → ⊥
  pub counter : e ≡ admits.CounterFull → ⊥
  pub ring : e ≡ admits.IntakeFull → ⊥

pub plan_later : (down : Bool) (e : AdmitError) → PlanRefusal down e → down ≡ false → IsLater e
plan_later down admits.NeedsRecovery r usable = absurd (true≢false (sym r ∙ usable))
plan_later down admits.NoCollector r usable = absurd r
plan_later down admits.BatchTooLarge r usable = absurd r
plan_later down admits.CounterFull r usable = absurd r
plan_later down admits.IntakeFull r usable = absurd r
plan_later down (admits.BadNode page) r usable = record { recovery = λ e. cc; collector = λ e. cc; large = λ e. cc; counter = λ e. cc; ring = λ e. cc }
plan_later down admits.Fault r usable = record { recovery = λ e. cc; collector = λ e. cc; large = λ e. cc; counter = λ e. cc; ring = λ e. cc }
plan_later down admits.OutOfMemory r usable = record { recovery = λ e. cc; collector = λ e. cc; large = λ e. cc; counter = λ e. cc; ring = λ e. cc }

-- what a commit refuses is neither, and no fault of the pages
pub record IsOfCommit (e : AdmitError) : Type 0 where
  pub later : IsLater e
  pub page : (n : ℕ) → e ≡ admits.BadNode n → ⊥

pub commit_later : (down : Bool) (e : UseError) → UseRefusal down e → down ≡ false → IsOfCommit (admit_of_use e)
commit_later down uses.Fault r usable = record { later = record { recovery = λ e. cc; collector = λ e. cc; large = λ e. cc; counter = λ e. cc; ring = λ e. cc }; page = λ n e. cc }
commit_later down uses.NeedsRecovery r usable = absurd (true≢false (sym r ∙ usable))

-- ---- what is returned

pub reported_err : {X : Type 0} (r : Result X AdmitError) (e : AdmitError) → IsErrAnd r (λ y. y ≡ e) → r ≡ Err e
reported_err (Ok x) e h = absurd h
reported_err (Err y) e h = ap (λ z. Err z) h

pub as_reported : {X : Type 0} (r : Result X AdmitError) (e f : AdmitError) → r ≡ Err e → r ≡ Err f → e ≡ f
as_reported r e f is reported = let both : Err e ≡ Err f = sym is ∙ reported in cc

pub not_full : (count : ℕ) (s : Settings) (o : OnceState) (head : Contents) (shown : List (List ℕ)) (h : History) (c more : ℕ) → HeadRepresents (TreeLocated count) s (settled_in o) head shown h
    → c < s.collectors → ((lane : Lane) → HasLane head c lane → lane.offered + more ≤ 18446744073709551615) → IsCounterFull h c more → ⊥
not_full count s o head shown h c more b low fits full =
    let n = b.lanes_number in
    let lane = lane_at c head.lanes (omega (arith, n, low)) in
    let within = slice_get_within h.intakes c full.intake full.here in
    let above = (counter_full count s o head shown h c more lane.0 b lane.1 within).0 full in
    let few = fits lane.0 lane.1 in
    absurd (omega (arith, above, few))

pub no_counter : (count : ℕ) (s : Settings) (o : OnceState) (head : Contents) (shown : List (List ℕ)) (h : History) (c octets more : ℕ) {X : Type 0} (r : Result X AdmitError) (e : AdmitError) → HeadRepresents (TreeLocated count) s (settled_in o) head shown h
    → r ≡ Err e → IsLater e → c < s.collectors → ((lane : Lane) → HasLane head c lane → lane.offered + more ≤ 18446744073709551615) → (r ≡ Err admits.CounterFull) ↔ ((octets ≤ 262144) × IsCounterFull h c more)
no_counter count s o head shown h c octets more r e b is later low fits = (
  λ reported. absurd (later.counter (as_reported r e admits.CounterFull is reported)),
  λ full. absurd (not_full count s o head shown h c more b low fits full.1),
)

-- Exactly a count that is full is reported as that.
pub counter_reported : (count : ℕ) (s : Settings) (o : OnceState) (head : Contents) (shown : List (List ℕ)) (h : History) (c octets more : ℕ) {X : Type 0} (r : Result X AdmitError) (e : AdmitError) → HeadRepresents (TreeLocated count) s (settled_in o) head shown h
    → r ≡ Err e → (s.collectors ≤ c → e ≡ admits.NoCollector) → ((lane : Lane) → HasLane head c lane → (e ≡ admits.CounterFull) ↔ ((octets ≤ 262144) × (18446744073709551615 < lane.offered + more)))
    → (r ≡ Err admits.CounterFull) ↔ ((octets ≤ 262144) × IsCounterFull h c more)
counter_reported count s o head shown h c octets more r e b is only iff =
    let n = b.number in
    let m = b.lanes_number in (
      λ reported.
          let same = as_reported r e admits.CounterFull is reported in
          elim (cases_lt c s.collectors) [
            | inl low ↦ (
                let lane = lane_at c head.lanes (omega (arith, m, low)) in
                let q = (iff lane.0 lane.1).0 same in
                (q.0, (counter_full count s o head shown h c more lane.0 b lane.1 (omega (arith, n, low))).1 q.1)
                )
            | inr ge ↦ absurd (let other = only ge in let both : admits.NoCollector ≡ admits.CounterFull = sym other ∙ same in cc)
          ],
      λ full.
          let within = slice_get_within h.intakes c full.1.intake full.1.here in
          let lane = lane_at c head.lanes (omega (arith, within, n, m)) in
          is ∙ ap (λ z. Err z) ((iff lane.0 lane.1).1 (full.0, (counter_full count s o head shown h c more lane.0 b lane.1 within).0 full.1)),
    )

-- no other refusal is reported as a full ring
pub no_crowd : {X : Type 0} (octets : ℕ) (s : Settings) (h : History) (c more : ℕ) (batch : List Admitted) (r : Result X AdmitError) (e : AdmitError) → r ≡ Err e → IsLater e → (IsRingFull s h c batch → ⊥)
    → (r ≡ Err admits.IntakeFull) ↔ ((octets ≤ 262144) × (IsCounterFull h c more → ⊥) × IsRingFull s h c batch)
no_crowd octets s h c more batch r e is later room = (λ reported. absurd (later.ring (as_reported r e admits.IntakeFull is reported)), λ full. absurd (room full.2))

-- Exactly a ring that is full is reported as that.
pub crowd_reported : (count : ℕ) (s : Settings) (o : OnceState) (head : Contents) (lanes : List Waiting) (shown : List (List ℕ)) (h : History) (c octets : ℕ) (batch : List Admitted) {X : Type 0} (r : Result X AdmitError) (e : AdmitError)
    → HeadRepresents (TreeLocated count) s (settled_in o) head shown h → Mirrors lanes h → r ≡ Err e → (s.collectors ≤ c → e ≡ admits.NoCollector)
    → ((lane : Lane) (mark : ℕ) → HasLane head c lane → slice_get (marks lanes) c ≡ Some mark → (e ≡ admits.IntakeFull) ↔ ((octets ≤ 262144) × (lane.offered + length batch ≤ 18446744073709551615) × (16384 * s.ring - lane.used < octets_for (timely admitted_time mark [] batch))))
    → (r ≡ Err admits.IntakeFull) ↔ ((octets ≤ 262144) × (IsCounterFull h c (length batch) → ⊥) × IsRingFull s h c batch)
crowd_reported count s o head lanes shown h c octets batch r e b m is only iff =
    let n = b.number in
    let k = b.lanes_number in (
      λ reported.
          let same = as_reported r e admits.IntakeFull is reported in
          elim (cases_lt c s.collectors) [
            | inl low ↦ (
                let lane = lane_at c head.lanes (omega (arith, k, low)) in
                let i = intake_at c h.intakes (omega (arith, n, low)) in
                let q = (iff lane.0 i.0.mark lane.1 (mark_there lanes h c i.0 m i.1)).0 same in
                let fits = q.1 in
                (q.0, (λ full. (let above = (counter_full count s o head shown h c (length batch) lane.0 b lane.1 (omega (arith, n, low))).0 full in absurd (omega (arith, fits, above)))), (ring_full count s o head shown h c batch lane.0 i.0 b lane.1 i.1).1 q.2)
                )
            | inr ge ↦ absurd (let other = only ge in let both : admits.NoCollector ≡ admits.IntakeFull = sym other ∙ same in cc)
          ],
      λ full.
          let ring = full.2 in
          let within = slice_get_within h.intakes c ring.intake ring.here in
          let lane = lane_at c head.lanes (omega (arith, within, n, k)) in
          let fits : lane.0.offered + length batch ≤ 18446744073709551615 = elim (cases_lt 18446744073709551615 (lane.0.offered + length batch)) [
            | inl above ↦ absurd (full.1 ((counter_full count s o head shown h c (length batch) lane.0 b lane.1 within).1 above))
            | inr le ↦ le
          ] in
          is ∙ ap (λ z. Err z) ((iff lane.0 ring.intake.mark lane.1 (mark_there lanes h c ring.intake m ring.here)).1 (full.0, fits, (ring_full count s o head shown h c batch lane.0 ring.intake b lane.1 ring.here).0 ring)),
    )

pub memory_later : IsLater admits.OutOfMemory
memory_later = record { recovery = λ e. cc; collector = λ e. cc; large = λ e. cc; counter = λ e. cc; ring = λ e. cc }

pub not_both : {X : Type 0} (r : Result X AdmitError) (f : AdmitError) → r ≡ Err admits.NeedsRecovery → (admits.NeedsRecovery ≡ f → ⊥) → r ≡ Err f → ⊥
not_both r f down apart reported = apart (as_reported r admits.NeedsRecovery f down reported)
