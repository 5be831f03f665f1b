-- A mark is raised: in the pages that are shown, in what is kept in memory, and in the history.
use Rattle.std.proofs.Common.{◌≡◌, ◌≢◌, ◌⊎◌, inl, inr, ⊎_elim, ◌<◌, ◌≤◌, ◌↔◌, ℕ, zero, suc, Bool, true, false, List, [], ◌∷◌, length, set, refl, sym, ◌∙◌, ap, subst, arith, Some, Result, Ok, Err, true≢false, length-set, get_or-set_same, get_or-set_other}
use Rattle.route_model.specs.Moments.{last_mark}
use Rattle.std.specs.Prelude.{IsErrAnd}
use Rattle.std.specs.List.{slice_get, slice_set}
use Rattle.std.proofs.lemmas.Bool.{cases_lt}
use Rattle.std.proofs.lemmas.Option.{slice_get_within}
use Rattle.disk_models.specs.Once.{OnceState, settled_in}
use Rattle.route_meaning.specs.History.{Intake, History}
use Rattle.sequencer.specs.Lanes.{Waiting, marks}
use Rattle.interleaving_core.specs.Steps.{changed, with_mark, marked, IsMarkAbove}
use Rattle.interleaving_core.proofs.api.Right.{IsNotBack, right_marked}
use Rattle.page_tx.specs.Images.{joined}
use Rattle.page_tx.specs.declared.error.PageError.{PageError}
use Rattle.page_tx.specs.declared.error.PageError.TheVariants as pages_refusals
use Rattle.archive_head.specs.declared.lane.Lane.{Lane}
use Rattle.archive_head.specs.Head.{Contents, IsHead, head_octets}
use Rattle.archive_head.proofs.api.Heads.{encodes_written}
use Rattle.archive_pages.specs.declared.settings.Settings.{Settings}
use Rattle.archive_pages.specs.Represented.{HeadRepresents}
use Rattle.archive_pages.specs.Changes.{with_lane}
use Rattle.archive_pages.specs.Batches.{HasLane}
use Rattle.archive_pages.specs.Refusals.{HeadRefusal}
use Rattle.archive_pages.proofs.api.Representing.{head_represents_headed, head_represents_marked}
use Rattle.disk_models.specs.declared.erase.EraseDisk.{Ghosts as EraseGhosts}
use Rattle.disk_models.specs.declared.once.OnceDisk.{Ghosts as OnceGhosts}
use Rattle.disk_archive.specs.declared.archive.Archive.{Archive}
use Rattle.disk_archive.specs.Archives.{Represents}
use Rattle.disk_archive.specs.Trees.{TreeLocated}
use Rattle.disk_archive.specs.Mirrors.{Mirrors}
use Rattle.page_journal.specs.declared.error.UseError.{UseError}
use Rattle.page_journal.specs.declared.error.UseError.TheVariants as uses
use Rattle.disk_archive.specs.declared.mark_error.MarkError.{MarkError}
use Rattle.disk_archive.specs.declared.mark_error.MarkError.TheVariants as refusals
use Rattle.page_journal.specs.Refusals.{UseRefusal}
use Rattle.disk_models.specs.Left.{Left}
use Rattle.disk_archive.specs.Sites.{Site, LeftEither, LeftMarked}
use Rattle.disk_archive.specs.inner.Marked.{mark_of_use}
use Rattle.disk_archive.specs.inner.Planning.{Planned}
use Rattle.disk_archive.proofs.Mirroring.{intake_at, mark_there}
use Rattle.disk_archive.proofs.api.Trees.{tree_framed}

-- ---- histories

pub not_back : (h : History) (c mark : ℕ) → (IsMarkAbove h c mark → ⊥) → IsNotBack c mark h.intakes
not_back h c mark below i here = elim (cases_lt mark i.mark) [ inl lt ↦ absurd (below (record { intake = i; here = here; above = lt })) | inr ge ↦ ge ]

changed_present : (c mark : ℕ) (is : List Intake) (i : Intake) → slice_get is c ≡ Some i → mark ≡ i.mark → changed c (with_mark mark) is ≡ is
changed_present c mark [] i e m = refl
changed_present zero mark (j ∷ is) i e m =
    let same : j ≡ i = cc in
    let n : mark ≡ j.mark = m ∙ ap (λ (k : Intake). k.mark) (sym same) in
    λ x. record { admitted = j.admitted; mark = n x; offered = j.offered } ∷ is
changed_present (suc c) mark (j ∷ is) i e m = ap (λ l. j ∷ l) (changed_present c mark is i e m)

-- the collector's present mark
pub marked_present : (h : History) (c mark : ℕ) (i : Intake) → slice_get h.intakes c ≡ Some i → mark ≡ i.mark → marked h c mark ≡ h
marked_present h c mark i here m = let e = changed_present c mark h.intakes i here m in λ x. record { intakes = e x; whole = h.whole; some = h.some }

-- an archive that represents the history represents it with the present mark
pub represents_present : {E O Pen Seen : Type 0} {erase : EraseGhosts E} {once : OnceGhosts O Pen Seen} (a : Archive E O Pen Seen erase once) (h : History) (c mark : ℕ) (i : Intake) → slice_get h.intakes c ≡ Some i → mark ≡ i.mark → Represents a h → Represents a (marked h c mark)
represents_present a h c mark i here m k = subst (λ (g : History). Represents a g) (sym (marked_present h c mark i here m)) k

-- ---- pages

-- The head with the mark is laid over page 0, and the pages represent the history with the mark.
pub mark_planned : (count : ℕ) (s : Settings) (o : OnceState) (old new : List (List ℕ) → Type 0) (head next : Contents) (shown : List (List ℕ)) (h : History) (c mark : ℕ) (lane : Lane)
    → HeadRepresents (TreeLocated count) s (settled_in o) head shown h → HasLane head c lane → (IsMarkAbove h c mark → ⊥) → mark ≤ last_mark
    → next ≡ with_lane head c (record lane { mark = mark }) → IsHead next → 0 < length shown → new (slice_set shown 0 (head_octets next))
    → Planned count s (settled_in o) new next (marked h c mark)
mark_planned count s o old new head next shown h c mark lane b at below low same is_head some written =
    let within = slice_get_within head.lanes c lane at in
    let n = b.number in
    let m = b.lanes_number in
    let i = intake_at c h.intakes (omega (arith, within, n, m)) in
    let right = right_marked h c mark (not_back h c mark below) low b.right in
    let head_represents = subst (λ (x : Contents). HeadRepresents (TreeLocated count) s (settled_in o) x shown (marked h c mark)) (sym same)
    (head_represents_marked (TreeLocated count) s (settled_in o) head shown h c mark lane i.0 b right at i.1) in
    record {
      pages = slice_set shown 0 (head_octets next);
      shown = written;
      headed = record {
        valid = is_head;
        first = encodes_written next _ is_head (get_or-set_same shown 0 (head_octets next) [] some);
        head_represents = head_represents_headed (TreeLocated count) s (settled_in o) (tree_framed count (settled_in o)) next shown (set shown 0 (head_octets next)) (marked h c mark) (length-set shown 0 (head_octets next))
            (λ n ge. get_or-set_other shown 0 n (head_octets next) [] (let other : n ≢ 0 = omega arith in other)) head_represents;
      };
    }

-- ---- what is kept in memory

-- As the collector's mark in memory compares with the new one, so does that of the history.
pub above_there : (lanes : List Waiting) (h : History) (c mark : ℕ) → Mirrors lanes h → c < length h.intakes → ((present : ℕ) → slice_get (marks lanes) c ≡ Some present → mark < present) → IsMarkAbove h c mark
above_there lanes h c mark m low is =
    let i = intake_at c h.intakes low in
    record { intake = i.0; here = i.1; above = is i.0.mark (mark_there lanes h c i.0 m i.1) }

pub not_above_there : (lanes : List Waiting) (h : History) (c mark : ℕ) → Mirrors lanes h → ((present : ℕ) → slice_get (marks lanes) c ≡ Some present → present ≤ mark) → IsMarkAbove h c mark → ⊥
not_above_there lanes h c mark m is above =
    let le = is above.intake.mark (mark_there lanes h c above.intake m above.here) in
    let lt = above.above in
    absurd (omega (arith, le, lt))

-- the mark isn't above the collector's, nor below it
pub at_present : (raised : Bool) (present mark : ℕ) → raised ≡ false → present ≤ mark → ((raised ≡ true) ↔ (present < mark)) → mark ≡ present
at_present raised present mark not_raised le iff = elim (cases_lt present mark) [
  | inl lt ↦ absurd (true≢false (sym (iff.1 lt) ∙ not_raised))
  | inr ge ↦ omega (arith, le, ge)
]

-- ---- crashes

pub left_before : (site : Site) (h : History) (c mark : ℕ) (left : Left) → LeftEither site h h left → LeftMarked site h c mark left
left_before site h c mark left either = ⊎_elim (λ was. inl was) (λ is. inl is) either

pub left_marked : (site : Site) (h : History) (c mark : ℕ) → (IsMarkAbove h c mark → ⊥) → (left : Left) → LeftEither site h (marked h c mark) left → LeftMarked site h c mark left
left_marked site h c mark below left either = ⊎_elim (λ was. inl was) (λ is. inr (below, is)) either

-- ---- refusals

-- where no image is held, only running out of memory keeps the head from being laid over its page
pub only_memory : (named : List ℕ) (e : PageError) → named ≡ [] → HeadRefusal (length (joined named (0 ∷ []))) e → e ≡ pages_refusals.OutOfMemory
only_memory named pages_refusals.Fault none r = absurd r
only_memory named pages_refusals.NeedsRecovery none r = absurd r
only_memory named pages_refusals.TooManyImages none r =
    let many : 31 < 1 = subst (λ (l : List ℕ). 31 < length (joined l (0 ∷ []))) none r in
    absurd (omega (arith, many))
only_memory named pages_refusals.PagesFull none r = absurd r
only_memory named pages_refusals.OutOfMemory none r = refl

-- what a commit that isn't down refuses is no refusal of the mark's own
pub record IsFromCommit (e : MarkError) : Type 0 where
  pub usable : e ≡ refusals.NeedsRecovery → ⊥
  pub collector : e ≡ refusals.NoCollector → ⊥
  pub back : e ≡ refusals.MarkBack → ⊥

pub from_commit : (down : Bool) (e : UseError) → UseRefusal down e → down ≡ false → IsFromCommit (mark_of_use e)
from_commit down uses.Fault r usable = record { usable = λ e. cc; collector = λ e. cc; back = λ e. cc }
from_commit down uses.NeedsRecovery r usable = absurd (true≢false (sym r ∙ usable))

pub not_both : {X : Type 0} (r : Result X MarkError) → r ≡ Err refusals.NeedsRecovery → r ≡ Err refusals.MarkBack → ⊥
not_both r down back = let e : Err refusals.NeedsRecovery ≡ Err refusals.MarkBack = sym down ∙ back in cc

-- what is returned, where it is known what was converted
pub reported_err : {X : Type 0} (r : Result X MarkError) (e : MarkError) → IsErrAnd r (λ y. y ≡ e) → r ≡ Err e
reported_err (Ok x) e h = absurd h
reported_err (Err y) e h = ap (λ z. Err z) h

pub not_reported : {X : Type 0} (r : Result X MarkError) (e f : MarkError) → r ≡ Err e → (e ≡ f → ⊥) → r ≡ Err f → ⊥
not_reported r e f is apart reported = apart (let both : Err e ≡ Err f = sym is ∙ reported in cc)

-- Exactly a mark below the collector's is reported as that, for a collector that exists.
pub back_reported : {X : Type 0} (r : Result X MarkError) (e : MarkError) (lanes : List Waiting) (h : History) (n c mark : ℕ) → r ≡ Err e → (e ≡ refusals.NoCollector) ⊎ (e ≡ refusals.MarkBack)
    → (e ≡ refusals.NoCollector → n ≤ c) → (n ≤ c → e ≡ refusals.NoCollector) → (e ≡ refusals.MarkBack → (present : ℕ) → slice_get (marks lanes) c ≡ Some present → mark < present)
    → Mirrors lanes h → length h.intakes ≡ n → (r ≡ Err refusals.MarkBack) ↔ IsMarkAbove h c mark
back_reported r e lanes h n c mark is either none only back m number = (
  λ reported.
      let same : e ≡ refusals.MarkBack = (let both : Err e ≡ Err refusals.MarkBack = sym is ∙ reported in cc) in
      elim (cases_lt c n) [
        | inl low ↦ above_there lanes h c mark m (omega (arith, low, number)) (back same)
        | inr ge ↦ absurd (let other = only ge in let both : refusals.NoCollector ≡ refusals.MarkBack = sym other ∙ same in cc)
      ],
  λ above. ⊎_elim
      (λ no. let ge = none no in let within = slice_get_within h.intakes c above.intake above.here in absurd (omega (arith, ge, within, number)))
      (λ same. is ∙ ap (λ z. Err z) same) either,
)

pub present_not_back : (e : MarkError) (lanes : List Waiting) (h : History) (n c mark : ℕ) (i : Intake) → (e ≡ refusals.NoCollector) ⊎ (e ≡ refusals.MarkBack)
    → (e ≡ refusals.NoCollector → n ≤ c) → (e ≡ refusals.MarkBack → (present : ℕ) → slice_get (marks lanes) c ≡ Some present → mark < present)
    → Mirrors lanes h → length h.intakes ≡ n → slice_get h.intakes c ≡ Some i → mark ≡ i.mark → ⊥
present_not_back e lanes h n c mark i either none back m number here same = ⊎_elim
    (λ no. let ge = none no in let within = slice_get_within h.intakes c i here in absurd (omega (arith, ge, within, number)))
    (λ is. let lt = back is i.mark (mark_there lanes h c i m here) in absurd (omega (arith, lt, same))) either

-- a mark that is raised isn't the present one
pub not_present : (lanes : List Waiting) (h : History) (c mark : ℕ) (i : Intake) (raised : Bool) → raised ≡ true → ((present : ℕ) → slice_get (marks lanes) c ≡ Some present → (raised ≡ true) ↔ (present < mark))
    → Mirrors lanes h → slice_get h.intakes c ≡ Some i → mark ≡ i.mark → ⊥
not_present lanes h c mark i raised is iff m here same =
    let lt = (iff i.mark (mark_there lanes h c i m here)).0 is in
    absurd (omega (arith, lt, same))
