-- The pages after a mark, after a batch, and where more blocks are settled, represent the history of then.
use Rattle.std.proofs.Common.{◌≡◌, ◌≢◌, ◌<◌, ◌≤◌, ℕ, ◌+◌, List, [], ◌++◌, length, set, refl, sym, ◌∙◌, ap, subst, inl, inr, arith, Some, length-set, length-append, get_or-set_same, get_or-set_other}
use Rattle.std.specs.List.{AllByRecursion, slice_get}
use Rattle.std.proofs.lemmas.Bool.{cases_lt}
use Rattle.std.proofs.lemmas.Option.{slice_get_within}
use Rattle.route_model.specs.Admission.{Admitted, IsAdmission}
use Rattle.route_meaning.specs.Merged.{part}
use Rattle.route_meaning.specs.Holds.{admitted_time}
use Rattle.route_meaning.specs.History.{Intake, History, IsHistory, waiting}
use Rattle.sequencer.specs.Late.{timely}
use Rattle.interleaving_core.specs.Steps.{with_batch, with_mark, given, marked}
use Rattle.route_history.specs.Kept.{timed, HaveVersions}
use Rattle.archive_head.specs.declared.lane.Lane.{Lane}
use Rattle.archive_head.specs.Head.{Contents, head_octets, IsHead}
use Rattle.archive_head.proofs.api.Heads.{encodes_written}
use Rattle.intake.specs.Ring.{page_at, ChangesOnly, RepresentsAlone}
use Rattle.archive_pages.specs.declared.settings.Settings.{Settings}
use Rattle.archive_pages.specs.Places.{ring_of, tree_low}
use Rattle.archive_pages.specs.Stored.{LaneHolds}
use Rattle.archive_pages.specs.Represented.{TreeOn, IsFramed, IsGrowing, HeadRepresents, PagesRepresent, last_time}
use Rattle.archive_pages.specs.Changes.{with_lane, lane_given}
use Rattle.archive_pages.proofs.api.Histories.{length_changed, waits_given, waits_given_other, applied_given, waits_marked, applied_marked}
use Rattle.archive_pages.proofs.api.Stored.{holds_given}
use Rattle.archive_pages.proofs.Lanes.{rings_apart, ring_before_tree, lane_framed, lanes_changed}

-- ---- the first page

-- Only page 0 is written.
pub head_represents_headed : (Tree : TreeOn) (s : Settings) (settled : ℕ → List ℕ → Type 0) → IsFramed Tree settled → (head : Contents) (old new : List (List ℕ)) (h : History) → length new ≡ length old → ((n : ℕ) → 1 ≤ n → page_at new n ≡ page_at old n) → HeadRepresents Tree s settled head old h → HeadRepresents Tree s settled head new h
head_represents_headed Tree s settled framed head old new h count same b = record {
  right = b.right;
  number = b.number;
  lanes_number = b.lanes_number;
  lanes = λ k l i at here. lane_framed s old new k l i (part k (waiting h)) count (λ n ge lt. same n (omega arith)) (b.lanes k l i at here);
  begun = b.begun;
  numbered = b.numbered;
  last = b.last;
  versions = b.versions;
  kept = b.kept;
  tree = framed (tree_low s) head.root head.fresh head.block _ b.versions old new count (λ n le. same n (omega arith)) b.tree;
}

-- The head is written, at the end of a transaction.
pub represents_written : (Tree : TreeOn) (s : Settings) (settled : ℕ → List ℕ → Type 0) → IsFramed Tree settled → (head : Contents) (pages : List (List ℕ)) (h : History) → IsHead head → 0 < length pages → HeadRepresents Tree s settled head pages h → PagesRepresent Tree s settled (set pages 0 (head_octets head)) h
represents_written Tree s settled framed head pages h valid some b = record {
  head = head;
  valid = valid;
  first = encodes_written head (page_at (set pages 0 (head_octets head)) 0) valid (get_or-set_same pages 0 (head_octets head) [] some);
  head_represents = head_represents_headed Tree s settled framed head pages (set pages 0 (head_octets head)) h (length-set pages 0 (head_octets head)) (λ n ge. get_or-set_other pages 0 n (head_octets head) [] (let other : n ≢ 0 = omega arith in other)) b;
}

-- More blocks are settled.
pub head_represents_grown : (Tree : TreeOn) → IsGrowing Tree → (s : Settings) (few many : ℕ → List ℕ → Type 0) → ((b : ℕ) (octets : List ℕ) → few b octets → many b octets) → (head : Contents) (pages : List (List ℕ)) (h : History) → HeadRepresents Tree s few head pages h → HeadRepresents Tree s many head pages h
head_represents_grown Tree growing s few many more head pages h b = record {
  right = b.right;
  number = b.number;
  lanes_number = b.lanes_number;
  lanes = b.lanes;
  begun = b.begun;
  numbered = b.numbered;
  last = b.last;
  versions = b.versions;
  kept = b.kept;
  tree = growing few many more (tree_low s) head.root head.fresh head.block _ b.versions pages b.tree;
}

-- ---- a mark is raised

pub head_represents_marked : (Tree : TreeOn) (s : Settings) (settled : ℕ → List ℕ → Type 0) (head : Contents) (pages : List (List ℕ)) (h : History) (c mark : ℕ) (lane : Lane) (i : Intake)
    → HeadRepresents Tree s settled head pages h → IsHistory (marked h c mark) → slice_get head.lanes c ≡ Some lane → slice_get h.intakes c ≡ Some i
    → HeadRepresents Tree s settled (with_lane head c (record lane { mark = mark })) pages (marked h c mark)
head_represents_marked Tree s settled head pages h c mark lane i b right at here =
    let g = marked h c mark in
    let own = b.lanes c lane i at here in
    let waits = waits_marked h c mark in
    let same = applied_marked h c mark in
    record {
      right = right;
      number = length_changed c (with_mark mark) h.intakes ∙ b.number;
      lanes_number = length-set head.lanes c (record lane { mark = mark }) ∙ b.lanes_number;
      lanes = lanes_changed s pages pages h g c (with_mark mark) head.lanes (record lane { mark = mark }) i refl here (slice_get_within head.lanes c lane at) b.lanes
          (record { offered = own.offered; admitted = own.admitted; mark = refl; place = own.place; since = own.since; holds = held pages (part c (waiting h)) (part c (waiting g)) (ap (part c) (sym waits)) own.holds })
          refl (λ k ne lt n ge below. refl) (λ k j ne there. ap (part k) waits);
      begun = b.begun;
      numbered = b.numbered ∙ ap (λ ps. length (timed ps)) (sym same);
      last = b.last ∙ ap (λ ps. last_time 0 (timed ps)) (sym same);
      versions = b.versions;
      kept = subst (λ ps. HaveVersions ps b.versions) (sym same) b.kept;
      tree = b.tree;
    }
  where
    held : (pages : List (List ℕ)) (w v : List Admitted) → w ≡ v → LaneHolds s pages c lane w → LaneHolds s pages c (record lane { mark = mark }) v
    held pages w v same h = record { valid = subst (AllByRecursion IsAdmission) same h.valid; stored = h.stored; represents = h.represents; moments = sym same ∙ h.moments }

-- ---- a batch is given

-- The collector's ring gained what isn't late, and no page of another owner changed.
pub head_represents_given : (Tree : TreeOn) (s : Settings) (settled : ℕ → List ℕ → Type 0) → IsFramed Tree settled → (head : Contents) (old new : List (List ℕ)) (h : History) (c : ℕ) (batch : List Admitted) (lane : Lane) (i : Intake) (used : ℕ)
    → HeadRepresents Tree s settled head old h → IsHistory (given h c batch) → slice_get head.lanes c ≡ Some lane → slice_get h.intakes c ≡ Some i
    → ChangesOnly (ring_of s c lane) old new → (holds : LaneHolds s old c lane (part c (waiting h))) → RepresentsAlone new (record (ring_of s c lane) { used = used }) (holds.stored ++ timely admitted_time i.mark [] batch)
    → HeadRepresents Tree s settled (with_lane head c (lane_given lane i.mark batch used)) new (given h c batch)
head_represents_given Tree s settled framed head old new h c batch lane i used b right at here changes holds ring =
    let g = given h c batch in
    let lane' = lane_given lane i.mark batch used in
    let own = b.lanes c lane i at here in
    let same = applied_given h c batch b.right in
    let within = slice_get_within head.lanes c lane at in
    let counted = b.lanes_number in
    let low : c < s.collectors = omega arith in
    let beyond = ring_before_tree s c low in
    record {
      right = right;
      number = length_changed c (with_batch batch) h.intakes ∙ b.number;
      lanes_number = length-set head.lanes c lane' ∙ b.lanes_number;
      lanes = lanes_changed s old new h g c (with_batch batch) head.lanes lane' i refl here within b.lanes
          (record {
            offered = ap (λ n. n + length batch) own.offered;
            admitted = (let a = own.admitted in let l = length-append i.admitted (timely admitted_time i.mark [] batch) in omega arith);
            mark = refl;
            place = ring.place;
            since = (let few = own.since in omega (arith, few));
            holds = subst (LaneHolds s new c lane') (sym (waits_given h c batch b.right right i here)) (holds_given s old c lane new lane' (part c (waiting h)) (timely admitted_time i.mark [] batch) holds own.since refl refl ring.holds);
          })
          changes.count
          (λ k ne lt. elim (cases_lt k c) [
            | inl l ↦ (λ n from to. let apart = rings_apart s k c l in changes.below n (omega arith))
            | inr ge ↦ (λ n from to. let apart = rings_apart s c k (omega arith) in changes.above n (omega arith))
          ])
          (λ k j ne there. waits_given_other h c k batch b.right right ne j there);
      begun = b.begun;
      numbered = b.numbered ∙ ap (λ ps. length (timed ps)) (sym same);
      last = b.last ∙ ap (λ ps. last_time 0 (timed ps)) (sym same);
      versions = b.versions;
      kept = subst (λ ps. HaveVersions ps b.versions) (sym same) b.kept;
      tree = framed (tree_low s) head.root head.fresh head.block _ b.versions old new changes.count (λ n le. changes.above n (omega arith)) b.tree;
    }
