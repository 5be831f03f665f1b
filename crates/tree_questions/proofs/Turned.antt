-- Turns over current pages: what they return of a tree, and how far they come.
use Rattle.std.proofs.Common.{◌≡◌, ℕ, ◌<◌, ◌≤◌, ◌^◌, List, Bool, Option, Some, None, sym, ap, arith, subst}
use Rattle.page_tx.specs.declared.pages.Pages.{Ghosts}
use Rattle.page_tx.specs.Start.{Start}
use Rattle.route_model.specs.Admission.{Admitted}
use Rattle.route_meaning.specs.declared.question.Event.{Event}
use Rattle.route_meaning.specs.declared.question.EventsQuestion.{EventsQuestion}
use Rattle.route_meaning.specs.declared.question.Row.{Row}
use Rattle.route_meaning.specs.declared.question.RowsQuestion.{RowsQuestion}
use Rattle.route_meaning.specs.Events.{IsEventsAnswer}
use Rattle.route_meaning.specs.Merged.{Placed}
use Rattle.route_meaning.specs.Rows.{IsAnswer}
use Rattle.route_history.specs.declared.rows.RowsCursor.{RowsCursor}
use Rattle.route_history.specs.declared.rows_turn.RowsTurn.{RowsTurn}
use Rattle.route_history.specs.declared.rows_turn.RowsTurn.TheVariants as rows
use Rattle.route_history.specs.declared.events.EventsCursor.{EventsCursor}
use Rattle.route_history.specs.declared.events_turn.EventsTurn.{EventsTurn}
use Rattle.route_history.specs.declared.events_turn.EventsTurn.TheVariants as events
use Rattle.route_history.specs.Fronts.{front_number}
use Rattle.route_history.specs.Points.{PartsAt as PartsAtPoint}
use Rattle.route_history.specs.Spans.{HasReported, HasReportedSo, IsSameReporting}
use Rattle.route_history.specs.Walks.{IsGathered, Gathered, IsSame, Rose, NotBack}
use Rattle.tsb_walk.specs.declared.looks.Parted.{Parted}
use Rattle.tsb_walk.specs.declared.looks.Parted.TheVariants as parted
use Rattle.tsb_walk.specs.declared.page_place.PagePlace.{PagePlace}
use Rattle.tsb_walk.specs.Looked.{PartsAt, ReportsAll}
use Rattle.version_model.specs.Blocks.{BlockNode}
use Rattle.version_model.specs.Pages.{Store}
use Rattle.version_model.specs.Ranges.{end_or}
use Rattle.version_model.specs.Versions.{Version}
use Rattle.tree_questions.specs.Turning.{RepresentsTree, TurnsRows, TurnsEvents, GoesOnRows, GoesOnEvents}
use Rattle.tree_questions.specs.inner.Reporting.{KeepsEvents, KeepsRows, ReportsOn, ReportedEvents, ReportedRows}

-- where pages were only read
pub shows_pages : {P : Type 0} (pages : Ghosts P) (root : PagePlace) (burnt : ℕ) (store : Store) (all : List Version) (held held' : P) → ((start : Start) (shown : List (List ℕ)) → pages.shows held start shown → pages.shows held' start shown)
    → RepresentsTree pages held root burnt store all → RepresentsTree pages held' root burnt store all
shows_pages pages root burnt store all held held' shows r = record { start = r.start; shown = r.shown; shows = shows r.start r.shown r.shows; represents_all = r.represents_all; named = r.named; rising = r.rising }

-- the walk went on from a key that isn't before the front
pub rose_on : (f g : Option ℕ) (from : ℕ) → NotBack f (Some from) → Rose (Some from) g → Rose f g
rose_on None g from n r = absurd n
rose_on (Some a) None from n r = tt
rose_on (Some a) (Some b) from n r = let le : a ≤ from = n in let lt : from < b = r in omega (arith, le, lt)

-- no stamp is before itself
pub not_before : (at : Option ℕ) (from : ℕ) → at ≡ Some from → NotBack at at
not_before at from e = subst (λ (o : Option ℕ). NotBack o o) (sym e) (let le : from ≤ from = omega arith in le)

-- the walk stood at the stamp
pub rose_at : (at to : Option ℕ) (from : ℕ) → at ≡ Some from → Rose (Some from) to → Rose at to
rose_at at to from e r = subst (λ (o : Option ℕ). Rose o to) (sym e) r

-- ---- what was gathered, where the cursor says the same

pub rows_same : (all : List Version) (ps : List (Placed Admitted)) (c d : RowsCursor) → IsSame c d → Gathered all ps c → Gathered all ps d
rows_same all ps c d s g =
    subst (λ (x : RowsQuestion). IsGathered all ps x (front_number d.front) d.ended d.rows.items d.more) (sym s.question)
    (subst (λ (x : Option ℕ). IsGathered all ps c.question x d.ended d.rows.items d.more) (sym (ap front_number s.front))
    (subst (λ (x : Option ℕ). IsGathered all ps c.question (front_number c.front) x d.rows.items d.more) (sym s.ended)
    (subst (λ (x : List Row). IsGathered all ps c.question (front_number c.front) c.ended x d.more) (sym s.rows)
    (subst (λ (x : Bool). IsGathered all ps c.question (front_number c.front) c.ended c.rows.items x) (sym s.more) g))))

pub events_same : (all : List Version) (ps : List (Placed Admitted)) (c d : EventsCursor) → IsSameReporting c d → HasReportedSo all ps c → HasReportedSo all ps d
events_same all ps c d s g =
    subst (λ (x : EventsQuestion). HasReported all ps x d.at d.left d.reported.items d.more) (sym s.question)
    (subst (λ (x : Option ℕ). HasReported all ps c.question x d.left d.reported.items d.more) (sym s.at)
    (subst (λ (x : ℕ). HasReported all ps c.question c.at x d.reported.items d.more) (sym s.left)
    (subst (λ (x : List Event). HasReported all ps c.question c.at c.left x d.more) (sym s.reported)
    (subst (λ (x : Bool). HasReported all ps c.question c.at c.left c.reported.items x) (sym s.more) g))))

-- ---- what is returned after a look, as a turn: from one cursor, by way of another, to the last

pub rows_reported : (blocks : ℕ → Option BlockNode) (all : List Version) (ps : List (Placed Admitted)) (c d e : RowsCursor) (turn : RowsTurn) → ReportedRows ps d e turn → KeepsRows d e turn → d.question ≡ c.question → Rose (front_number c.front) (front_number d.front) → TurnsRows blocks all ps c e turn
rows_reported blocks all ps c d e (rows.Done answer) reported keeps same rose = subst (λ (q : RowsQuestion). IsAnswer ps q answer.rows.items answer.more) same reported
rows_reported blocks all ps c d e rows.Again reported keeps same rose = subst (λ (x : RowsCursor). Rose (front_number c.front) (front_number x.front)) (sym keeps) rose
rows_reported blocks all ps c d e (rows.Historical errand) reported keeps same rose = absurd reported

pub rows_kept : (c d e : RowsCursor) (turn : RowsTurn) → KeepsRows d e turn → Rose (front_number c.front) (front_number d.front) → GoesOnRows c e turn
rows_kept c d e (rows.Done answer) keeps rose = tt
rows_kept c d e rows.Again keeps rose = subst (λ (x : RowsCursor). Rose (front_number c.front) (front_number x.front)) (sym keeps) rose
rows_kept c d e (rows.Historical errand) keeps rose = absurd keeps

pub events_reported : (blocks : ℕ → Option BlockNode) (all : List Version) (ps : List (Placed Admitted)) (c d e : EventsCursor) (turn : EventsTurn) → ReportedEvents ps d e turn → KeepsEvents d e turn → d.question ≡ c.question → Rose c.at d.at → TurnsEvents blocks all ps c e turn
events_reported blocks all ps c d e (events.Done answer) reported keeps same rose = subst (λ (q : EventsQuestion). IsEventsAnswer ps q answer.events.items answer.more) same reported
events_reported blocks all ps c d e events.Again reported keeps same rose = subst (λ (x : EventsCursor). Rose c.at x.at) (sym keeps) rose
events_reported blocks all ps c d e (events.Historical errand) reported keeps same rose = absurd reported

pub events_kept : (c d e : EventsCursor) (turn : EventsTurn) → KeepsEvents d e turn → Rose c.at d.at → GoesOnEvents c e turn
events_kept c d e (events.Done answer) keeps rose = tt
events_kept c d e events.Again keeps rose = subst (λ (x : EventsCursor). Rose c.at x.at) (sym keeps) rose
events_kept c d e (events.Historical errand) keeps rose = absurd keeps

-- ---- looks for versions

pub parts_at : (key from : ℕ) (p : Parted) → PartsAt key from p → PartsAtPoint key from p
parts_at key from (parted.Here part) at = tt
parts_at key from (parted.InBlock place) at = at

-- if all versions are returned, they go up to the end of all stamps
pub reports_on : (from : ℕ) (p : Parted) → from < 256 ^ 16 → ReportsAll p → ReportsOn from p
reports_on from (parted.Here part) fits all = subst (λ (o : Option ℕ). from < end_or o) (sym all) (let lt : from < 256 ^ 16 = fits in omega (arith, lt))
reports_on from (parted.InBlock place) fits all = tt
