-- Turns of questions over an archive, and their errands.
use Rattle.std.proofs.Common.{◌≡◌, ⊎_elim, true, ℕ, ◌<◌, ◌≤◌, arith, List, Bool, Option, Some, Result, Ok, Err, OnOk, OnErr, sym, ap, subst}
use Rattle.disk_models.specs.declared.erase.EraseDisk.{Ghosts as EraseGhosts}
use Rattle.disk_models.specs.declared.once.OnceDisk.{Ghosts as OnceGhosts}
use Rattle.once_store.specs.declared.reader.ShelfReader.{ShelfReader}
use Rattle.page_tx.specs.declared.pages.Pages.{Ghosts}
use Rattle.page_tx.specs.Start.{Start}
use Rattle.route_model.specs.Admission.{Admitted}
use Rattle.route_model.specs.Prefix.{IsPrefix}
use Rattle.route_model.specs.Encoding.{IsPeer}
use Rattle.route_meaning.specs.declared.question.Event.{Event}
use Rattle.route_meaning.specs.declared.question.EventsQuestion.{EventsQuestion}
use Rattle.route_meaning.specs.declared.question.Row.{Row}
use Rattle.route_meaning.specs.declared.question.RowsQuestion.{RowsQuestion}
use Rattle.route_meaning.specs.History.{History, IsHistory, Begins, applied, settled}
use Rattle.route_meaning.proofs.api.Beginning.{Begins-refl}
use Rattle.route_history.specs.declared.events.EventsCursor.{EventsCursor}
use Rattle.route_history.specs.declared.events_turn.EventsErrand.{EventsErrand}
use Rattle.route_history.specs.declared.events_turn.EventsTurn.{EventsTurn}
use Rattle.route_history.specs.declared.events_turn.EventsTurn.TheVariants as events
use Rattle.route_history.specs.declared.rows.RowsCursor.{RowsCursor}
use Rattle.route_history.specs.declared.rows_turn.RowsErrand.{RowsErrand}
use Rattle.route_history.specs.declared.rows_turn.RowsTurn.{RowsTurn}
use Rattle.route_history.specs.declared.rows_turn.RowsTurn.TheVariants as rows
use Rattle.route_history.specs.EventTurns.{AreKnownParts, IsKnownPart}
use Rattle.route_history.specs.Kept.{HaveVersions}
use Rattle.route_meaning.specs.Merged.{Placed, IsRising}
use Rattle.route_meaning.specs.Holds.{time_of}
use Rattle.version_model.specs.Pages.{Store}
use Rattle.disk_archive.proofs.Asking.{rises_applied}
use Rattle.route_history.specs.Fronts.{front_number}
use Rattle.route_history.specs.Spans.{HasReported, HasReportedSo, IsSameReporting, ReportsEvents}
use Rattle.route_history.specs.Walks.{Gathered, IsGathered as IsGatheredRows, IsSame, Reports, Rose}
use Rattle.route_model.specs.Keys.{key_number, session_number}
use Rattle.tsb_walk.specs.declared.error.NodeError.{NodeError}
use Rattle.tsb_walk.specs.declared.error.NodeError.TheVariants as nodes
use Rattle.tsb_walk.specs.Refusals.{LookRefusal as PageRefusal}
use Rattle.disk_archive.specs.declared.ask_error.AskError.TheVariants as refusals
use Rattle.disk_archive.specs.inner.Asking.{ask_of_node, LookRefusal}
use Rattle.tsb_walk.specs.declared.looks.Parted.{Parted}
use Rattle.tsb_walk.specs.declared.looks.Parted.TheVariants as parted
use Rattle.tsb_walk.specs.declared.page_place.PagePlace.{PagePlace}
use Rattle.tsb_walk.specs.Knowing.{AreKnown, ReadsWell, RepresentsKnown}
use Rattle.tsb_walk.specs.Looked.{IsParted}
use Rattle.tsb_walk.specs.Shown.{RepresentsShown}
use Rattle.once_store.specs.Readers.{reader_disk}
use Rattle.version_model.specs.Blocks.{BlockNode}
use Rattle.version_model.specs.Versions.{Version}
use Rattle.tree_questions.specs.Turning.{RepresentsTree, TurnsRows, TurnsEvents, GoesOnRows, GoesOnEvents, RowsBelow, EventsBelow}
use Rattle.archive_pages.specs.Places.{tree_low}
use Rattle.route_history.specs.Stamps.{stamp_of}
use Rattle.disk_archive.specs.declared.archive.Archive.{Archive}
use Rattle.disk_archive.specs.Archives.{Represents, RepresentsIfHonest, IsHonest, is_down, once_of, once_state}
use Rattle.disk_archive.proofs.Calling.{start_of}
use Rattle.disk_archive.specs.declared.cursor.Cursor.{Cursor}
use Rattle.disk_archive.specs.declared.cursor.Cursor.TheVariants.{Rows, Events}
use Rattle.disk_archive.specs.declared.errand.Errand.{Errand}
use Rattle.disk_archive.specs.declared.errand.Errand.TheVariants as errands
use Rattle.disk_archive.specs.Cursors.{IsGathered, IsSameCursor}
use Rattle.disk_archive.specs.Descents.{Descends, GoesFurther, ReadsBelow, Located, LocatedKnown}
use Rattle.disk_archive.specs.inner.Descending.{HasPages, of_rows, of_events}

-- ---- what was gathered over one list of versions, and over each later history

-- the law of what cursors of a moment have gathered
abbrev pub RowsStay : Type 0
RowsStay = (h g : History) (all new : List Version) (c : RowsCursor) → IsHistory h → IsHistory g → Begins h g → c.question.moment < settled h → HaveVersions (applied h) all → HaveVersions (applied g) new → Gathered all (applied h) c → Gathered new (applied g) c

-- and those of a history
abbrev pub EventsStay : Type 0
EventsStay = (h g : History) (all new : List Version) (c : EventsCursor) → IsHistory h → IsHistory g → Begins h g → c.question.to < settled h → IsPeer c.question.peer → IsPrefix c.question.prefix → HaveVersions (applied h) all → HaveVersions (applied g) new → HasReportedSo all (applied h) c → HasReportedSo new (applied g) c

-- what versions of applied changes give
abbrev pub RowsReport : Type 0
RowsReport = (ps : List (Placed Admitted)) (all : List Version) (moment : ℕ) → IsRising time_of ps → HaveVersions ps all → Reports all ps moment

abbrev pub EventsReport : Type 0
EventsReport = (ps : List (Placed Admitted)) (all : List Version) (q : EventsQuestion) → IsRising time_of ps → HaveVersions ps all → IsPeer q.peer → IsPrefix q.prefix → ReportsEvents all ps q

module _ (h : History) (right : IsHistory h) (all : List Version) (kept : HaveVersions (applied h) all) where
  -- over the versions of the history itself
  pub rows_now : (c : RowsCursor) → IsGathered (Rows c) h → Gathered all (applied h) c
  rows_now c g = g h right (Begins-refl h) all kept

  pub events_now : (c : EventsCursor) → IsGathered (Events c) h → HasReportedSo all (applied h) c
  events_now c g = g h right (Begins-refl h) all kept

  pub rows_later : RowsStay → (c : RowsCursor) → c.question.moment < settled h → Gathered all (applied h) c → IsGathered (Rows c) h
  rows_later stay c below g = λ k on begins new later. stay h k all new c right on begins below kept later g

  pub events_later : EventsStay → (c : EventsCursor) → c.question.to < settled h → IsPeer c.question.peer → IsPrefix c.question.prefix → HasReportedSo all (applied h) c → IsGathered (Events c) h
  events_later stay c below peer prefix g = λ k on begins new later. stay h k all new c right on begins below peer prefix kept later g

-- ---- turns

-- what was shown still is
abbrev pub Reads : {P : Type 0} (pages : Ghosts P) → P → P → Type 0
Reads pages held held' = (start : Start) (shown : List (List ℕ)) → pages.shows held start shown → pages.shows held' start shown

-- what turns give
abbrev pub GathersRows : {P : Type 0} (pages : Ghosts P) → P → PagePlace → ℕ → RowsCursor → RowsCursor → Type 0
GathersRows pages held place burnt c d = (store : Store) (all : List Version) (ps : List (Placed Admitted)) → RepresentsTree pages held place burnt store all → Reports all ps c.question.moment → Gathered all ps c → Gathered all ps d

abbrev pub GivesRows : {P : Type 0} (pages : Ghosts P) → P → PagePlace → ℕ → RowsCursor → RowsCursor → RowsTurn → Type 0
GivesRows pages held place burnt c d turn = (store : Store) (all : List Version) (ps : List (Placed Admitted)) → RepresentsTree pages held place burnt store all → Reports all ps c.question.moment → Gathered all ps c → TurnsRows store.blocks all ps c d turn

abbrev pub GathersEvents : {P : Type 0} (pages : Ghosts P) → P → PagePlace → ℕ → EventsCursor → EventsCursor → Type 0
GathersEvents pages held place burnt c d = (store : Store) (all : List Version) (ps : List (Placed Admitted)) → RepresentsTree pages held place burnt store all → ReportsEvents all ps c.question → HasReportedSo all ps c → HasReportedSo all ps d

abbrev pub GivesEvents : {P : Type 0} (pages : Ghosts P) → P → PagePlace → ℕ → EventsCursor → EventsCursor → EventsTurn → Type 0
GivesEvents pages held place burnt c d turn = (store : Store) (all : List Version) (ps : List (Placed Admitted)) → RepresentsTree pages held place burnt store all → ReportsEvents all ps c.question → HasReportedSo all ps c → TurnsEvents store.blocks all ps c d turn

module _ {P : Type 0} (pages : Ghosts P) (held : P) (count : ℕ) (known : ℕ → Option (List ℕ)) (root block burnt : ℕ) (most : block ≤ burnt) (h : History) (t : HasPages pages held count known root block h) where
  pub shows_tree : (held' : P) (place : PagePlace) → Reads pages held held' → RepresentsShown t.shown t.located.store t.versions place
      → RepresentsTree pages held' place burnt t.located.store t.versions
  shows_tree held' place reads represents_all = record { start = t.start; shown = t.shown; shows = reads t.start t.shown t.shows; represents_all = represents_all; named = (let next = t.located.next in omega (arith, next, most)); rising = t.located.has.represents_all.rising }

  pub rows_descend : (c d : RowsCursor) → d.question ≡ c.question → c.question.moment < settled h → IsGathered (Rows d) h → (turn : RowsTurn) → TurnsRows t.located.store.blocks t.versions (applied h) c d turn → Descends count known h (Rows c) (Rows d) (of_rows turn)
  rows_descend c d same below g (rows.Done answer) reported = reported
  rows_descend c d same below g rows.Again reported = tt
  rows_descend c d same below g (rows.Historical errand) reported = record {
    right = t.right;
    below = subst (λ (q : RowsQuestion). q.moment < settled h) (sym same) below;
    gathered = g;
    versions = t.versions;
    kept = t.kept;
    represents_node = t.located.store.blocks;
    are = t.located.blocks;
    represents_all = reported.1;
  }

  pub events_descend : (c d : EventsCursor) → d.question ≡ c.question → c.question.to < settled h → IsGathered (Events d) h → (turn : EventsTurn) → TurnsEvents t.located.store.blocks t.versions (applied h) c d turn → Descends count known h (Events c) (Events d) (of_events turn)
  events_descend c d same below g (events.Done answer) reported = reported
  events_descend c d same below g events.Again reported = tt
  events_descend c d same below g (events.Historical errand) reported = record {
    right = t.right;
    below = subst (λ (q : EventsQuestion). q.to < settled h) (sym same) below;
    gathered = g;
    versions = t.versions;
    kept = t.kept;
    represents_node = t.located.store.blocks;
    are = t.located.blocks;
    represents_all = reported.1;
  }

  -- by what a turn does over its tree, and the laws of versions
  pub rows_gathered : RowsReport → RowsStay → (held' : P) (place : PagePlace) → Reads pages held held' → RepresentsShown t.shown t.located.store t.versions place → (c d : RowsCursor) → d.question ≡ c.question → c.question.moment < settled h → IsGathered (Rows c) h → GathersRows pages held' place burnt c d → IsGathered (Rows d) h
  rows_gathered report stay held' place reads represents_all c d same below g gathers =
      rows_later h t.right t.versions t.kept stay d (subst (λ (q : RowsQuestion). q.moment < settled h) (sym same) below)
      (gathers t.located.store t.versions (applied h) (shows_tree held' place reads represents_all) (report (applied h) t.versions c.question.moment (rises_applied h) t.kept) (rows_now h t.right t.versions t.kept c g))

  pub rows_descends : RowsReport → RowsStay → (held' : P) (place : PagePlace) → Reads pages held held' → RepresentsShown t.shown t.located.store t.versions place → (c d : RowsCursor) (turn : RowsTurn) → d.question ≡ c.question → c.question.moment < settled h → IsGathered (Rows c) h → GathersRows pages held' place burnt c d
      → GivesRows pages held' place burnt c d turn → Descends count known h (Rows c) (Rows d) (of_rows turn)
  rows_descends report stay held' place reads represents_all c d turn same below g gathers gives =
      rows_descend c d same below (rows_gathered report stay held' place reads represents_all c d same below g gathers) turn
      (gives t.located.store t.versions (applied h) (shows_tree held' place reads represents_all) (report (applied h) t.versions c.question.moment (rises_applied h) t.kept) (rows_now h t.right t.versions t.kept c g))

  pub events_gathered : EventsReport → EventsStay → (held' : P) (place : PagePlace) → Reads pages held held' → RepresentsShown t.shown t.located.store t.versions place → (c d : EventsCursor) → d.question ≡ c.question → c.question.to < settled h → IsPeer c.question.peer → IsPrefix c.question.prefix → IsGathered (Events c) h
      → GathersEvents pages held' place burnt c d → IsGathered (Events d) h
  events_gathered report stay held' place reads represents_all c d same below peer prefix g gathers =
      events_later h t.right t.versions t.kept stay d (subst (λ (q : EventsQuestion). q.to < settled h) (sym same) below) (subst (λ (q : EventsQuestion). IsPeer q.peer) (sym same) peer) (subst (λ (q : EventsQuestion). IsPrefix q.prefix) (sym same) prefix)
      (gathers t.located.store t.versions (applied h) (shows_tree held' place reads represents_all) (report (applied h) t.versions c.question (rises_applied h) t.kept peer prefix) (events_now h t.right t.versions t.kept c g))

  pub events_descends : EventsReport → EventsStay → (held' : P) (place : PagePlace) → Reads pages held held' → RepresentsShown t.shown t.located.store t.versions place → (c d : EventsCursor) (turn : EventsTurn) → d.question ≡ c.question → c.question.to < settled h → IsPeer c.question.peer → IsPrefix c.question.prefix → IsGathered (Events c) h
      → GathersEvents pages held' place burnt c d → GivesEvents pages held' place burnt c d turn → Descends count known h (Events c) (Events d) (of_events turn)
  events_descends report stay held' place reads represents_all c d turn same below peer prefix g gathers gives =
      events_descend c d same below (events_gathered report stay held' place reads represents_all c d same below peer prefix g gathers) turn
      (gives t.located.store t.versions (applied h) (shows_tree held' place reads represents_all) (report (applied h) t.versions c.question (rises_applied h) t.kept peer prefix) (events_now h t.right t.versions t.kept c g))

pub rows_further : (c d : RowsCursor) (turn : RowsTurn) → GoesOnRows c d turn → GoesFurther (Rows c) (Rows d) (of_rows turn)
rows_further c d (rows.Done answer) on = tt
rows_further c d rows.Again on = on
rows_further c d (rows.Historical errand) on = (on.1, on.0)

pub events_further : (c d : EventsCursor) (turn : EventsTurn) → GoesOnEvents c d turn → GoesFurther (Events c) (Events d) (of_events turn)
events_further c d (events.Done answer) on = tt
events_further c d events.Again on = on
events_further c d (events.Historical errand) on = (on.1, on.0)

-- an errand of a turn reads a block below a number
pub rows_below : (burnt : ℕ) (turn : RowsTurn) → RowsBelow burnt turn → ReadsBelow burnt (of_rows turn)
rows_below burnt (rows.Done answer) below = tt
rows_below burnt rows.Again below = tt
rows_below burnt (rows.Historical errand) below = below

pub events_below : (burnt : ℕ) (turn : EventsTurn) → EventsBelow burnt turn → ReadsBelow burnt (of_events turn)
events_below burnt (events.Done answer) below = tt
events_below burnt events.Again below = tt
events_below burnt (events.Historical errand) below = below

-- ---- errands

pub on_ok : {X E A B : Type 0} (r : Result X E) → (A → B) → OnOk r A → OnOk r B
on_ok (Ok x) f a = f a
on_ok (Err e) f a = tt

-- one lies where more blocks are settled
pub located_on : (count : ℕ) (few many : ℕ → Option (List ℕ)) (errand : Errand) (c : Cursor) (h : History) → ((n : ℕ) (octets : List ℕ) → few n ≡ Some octets → many n ≡ Some octets) → Located count few errand c h → Located count many errand c h
located_on count few many errand c h more l = record {
  right = l.right;
  below = l.below;
  gathered = l.gathered;
  versions = l.versions;
  kept = l.kept;
  represents_node = l.represents_node;
  are = λ n node here. (let b = l.are n node here in record { inside = b.inside; octets = b.octets; here = more n b.octets b.here; represents_node = b.represents_node });
  represents_all = l.represents_all;
}

module _ {O Pen Seen : Type 0} (device : OnceGhosts O Pen Seen) (reader : ShelfReader O Pen Seen device) (seen : Seen) (h : History) where
  -- what the errand's blocks say is known
  says_known : (errand : Errand) (c : Cursor) (l : LocatedKnown device reader seen errand c h) → AreKnown (device.known seen) (device.block_count (reader_disk reader)) l.located.represents_node
  says_known errand c l = record { represents_node = λ n node here. (let b = l.located.are n node here in (b.octets, record { inside = b.inside; at = b.here }, b.represents_node)) }

  pub place_known : (errand : RowsErrand) (c : RowsCursor) (l : LocatedKnown device reader seen (errands.Rows errand) (Rows c) h) → RepresentsKnown device reader seen l.located.versions errand.place
  place_known errand c l = record { well = l.well; blocks = l.located.represents_node; known = says_known (errands.Rows errand) (Rows c) l; represents_all = l.located.represents_all }

  part_known : (represents_node : ℕ → Option BlockNode) (all : List Version) (key from : ℕ) (p : Parted) → ReadsWell device reader seen → AreKnown (device.known seen) (device.block_count (reader_disk reader)) represents_node → IsParted represents_node all key from p → IsKnownPart device reader seen all key from p
  part_known represents_node all key from (parted.Here part) well known is = (is, well)
  part_known represents_node all key from (parted.InBlock place) well known is = record { well = well; blocks = represents_node; known = known; represents_all = is.represents_all }

  pub parts_known : (errand : EventsErrand) (c : EventsCursor) (l : LocatedKnown device reader seen (errands.Events errand) (Events c) h) → AreKnownParts device reader seen l.located.versions c errand
  parts_known errand c l =
      let known = says_known (errands.Events errand) (Events c) l in
      (part_known l.located.represents_node l.located.versions (key_number c.question.peer c.question.prefix) errand.from errand.route l.well known l.located.represents_all.0, part_known l.located.represents_node l.located.versions (session_number c.question.peer) errand.from errand.session l.well known l.located.represents_all.1)

  pub rows_finished : RowsReport → RowsStay → {X E : Type 0} (r : Result X E) (errand : RowsErrand) (c d : RowsCursor) → LocatedKnown device reader seen (errands.Rows errand) (Rows c) h → d.question ≡ c.question
      → ((all : List Version) (ps : List (Placed Admitted)) → RepresentsKnown device reader seen all errand.place → Reports all ps c.question.moment → Gathered all ps c → OnOk r (Gathered all ps d × Rose (front_number c.front) (front_number d.front)))
      → OnOk r (IsGathered (Rows d) h × Rose (front_number c.front) (front_number d.front))
  rows_finished report stay r errand c d l same finished =
      let k = l.located in
      on_ok r (λ f. (rows_later h k.right k.versions k.kept stay d (subst (λ (q : RowsQuestion). q.moment < settled h) (sym same) k.below) f.0, f.1))
      (finished k.versions (applied h) (place_known errand c l) (report (applied h) k.versions c.question.moment (rises_applied h) k.kept) (rows_now h k.right k.versions k.kept c k.gathered))

  pub events_finished : EventsReport → EventsStay → {X E : Type 0} (r : Result X E) (errand : EventsErrand) (c d : EventsCursor) → LocatedKnown device reader seen (errands.Events errand) (Events c) h → d.question ≡ c.question → IsPeer c.question.peer → IsPrefix c.question.prefix
      → ((all : List Version) (ps : List (Placed Admitted)) → AreKnownParts device reader seen all c errand → ReportsEvents all ps c.question → HasReportedSo all ps c → OnOk r (HasReportedSo all ps d × Rose c.at d.at))
      → OnOk r (IsGathered (Events d) h × Rose c.at d.at)
  events_finished report stay r errand c d l same peer prefix finished =
      let k = l.located in
      on_ok r (λ f. (events_later h k.right k.versions k.kept stay d (subst (λ (q : EventsQuestion). q.to < settled h) (sym same) k.below) (subst (λ (q : EventsQuestion). IsPeer q.peer) (sym same) peer) (subst (λ (q : EventsQuestion). IsPrefix q.prefix) (sym same) prefix) f.0, f.1))
      (finished k.versions (applied h) (parts_known errand c l) (report (applied h) k.versions c.question (rises_applied h) k.kept peer prefix) (events_now h k.right k.versions k.kept c k.gathered))

-- ---- what was gathered, where the cursor says the same

rows_same : (all : List Version) (ps : List (Placed Admitted)) (c d : RowsCursor) → IsSame c d → Gathered all ps c → Gathered all ps d
rows_same all ps c d s g =
    subst (λ (q : RowsQuestion). IsGatheredRows all ps q (front_number d.front) d.ended d.rows.items d.more) (sym s.question)
    (subst (λ (f : Option ℕ). IsGatheredRows all ps c.question f d.ended d.rows.items d.more) (sym (ap front_number s.front))
    (subst (λ (e : Option ℕ). IsGatheredRows all ps c.question (front_number c.front) e d.rows.items d.more) (sym s.ended)
    (subst (λ (r : List Row). IsGatheredRows all ps c.question (front_number c.front) c.ended r d.more) (sym s.rows)
    (subst (λ (m : Bool). IsGatheredRows all ps c.question (front_number c.front) c.ended c.rows.items m) (sym s.more) g))))

events_same : (all : List Version) (ps : List (Placed Admitted)) (c d : EventsCursor) → IsSameReporting c d → HasReportedSo all ps c → HasReportedSo all ps d
events_same all ps c d s g =
    subst (λ (q : EventsQuestion). HasReported all ps q d.at d.left d.reported.items d.more) (sym s.question)
    (subst (λ (a : Option ℕ). HasReported all ps c.question a d.left d.reported.items d.more) (sym s.at)
    (subst (λ (l : ℕ). HasReported all ps c.question c.at l d.reported.items d.more) (sym s.left)
    (subst (λ (t : List Event). HasReported all ps c.question c.at c.left t d.more) (sym s.reported)
    (subst (λ (m : Bool). HasReported all ps c.question c.at c.left c.reported.items m) (sym s.more) g))))

pub same_gathered : (c d : Cursor) (h : History) → IsSameCursor c d → IsGathered c h → IsGathered d h
same_gathered (Rows c) (Rows d) h s g = λ k right begins all kept. rows_same all (applied k) c d s (g k right begins all kept)
same_gathered (Rows c) (Events d) h s g = absurd s
same_gathered (Events c) (Rows d) h s g = absurd s
same_gathered (Events c) (Events d) h s g = λ k right begins all kept. events_same all (applied k) c d s (g k right begins all kept)

pub same_where : {X E : Type 0} (r : Result X E) (c d : Cursor) → OnErr r (IsSameCursor c d) → OnErr r ((h : History) → IsGathered c h → IsGathered d h)
same_where (Ok x) c d s = tt
same_where (Err e) c d s = λ h g. same_gathered c d h s g

-- ---- what an archive's turns go by

-- what it represents lies on the pages of a transaction that shows them
pub pages_in : {E O Pen Seen : Type 0} {erase : EraseGhosts E} {once : OnceGhosts O Pen Seen} (a : Archive E O Pen Seen erase once) (h : History) (k : Represents a h) {P : Type 0} (pages : Ghosts P) (held : P) → pages.shows held (start_of a h k) k.pages
    → HasPages pages held (once.block_count (once_of a)) (once_state a).settled a.head.root a.head.block h
pages_in a h k pages held shows = record {
  right = k.head_represents.right;
  start = start_of a h k;
  shown = k.pages;
  shows = shows;
  low = tree_low a.settings;
  fresh = a.head.fresh;
  stamp = stamp_of a.head.last a.head.applied;
  versions = k.head_represents.versions;
  located = k.head_represents.tree;
  kept = k.head_represents.kept;
}

-- an archive that must be opened again moves no cursor
pub gathered_of : {E O Pen Seen : Type 0} {erase : EraseGhosts E} {once : OnceGhosts O Pen Seen} (a : Archive E O Pen Seen erase once) (c d : Cursor) (h : History) → (is_down a ≡ true → d ≡ c) → ((g : History) → Represents a g → IsGathered c g → IsGathered d g)
    → IsHonest a → RepresentsIfHonest a h → IsGathered c h → IsGathered d h
gathered_of a c d h unmoved step honest held g = ⊎_elim (λ k. step h k g) (λ w. subst (λ (x : Cursor). IsGathered x h) (sym (unmoved w.unusable)) g) (held honest)

-- ---- refusals of turns

-- a turn reads no block
pub turn_undamaged : (down : Bool) (refusal : NodeError) → PageRefusal down refusal → (block : ℕ) → ask_of_node refusal ≡ refusals.Damaged block → ⊥
turn_undamaged down (nodes.BadNode page) r block is = cc
turn_undamaged down (nodes.Damaged block') r block is = absurd r
turn_undamaged down nodes.Fault r block is = cc
turn_undamaged down nodes.OnceFault r block is = cc
turn_undamaged down nodes.NeedsRecovery r block is = cc
turn_undamaged down nodes.OutOfMemory r block is = cc

pub turn_refused : (down : Bool) (refusal : NodeError) → PageRefusal down refusal → LookRefusal down (ask_of_node refusal)
turn_refused down (nodes.BadNode page) r = tt
turn_refused down (nodes.Damaged block) r = absurd r
turn_refused down nodes.Fault r = tt
turn_refused down nodes.OnceFault r = tt
turn_refused down nodes.NeedsRecovery r = r
turn_refused down nodes.OutOfMemory r = tt
