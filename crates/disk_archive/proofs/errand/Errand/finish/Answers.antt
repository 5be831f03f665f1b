use Rattle.std.proofs.Common.{◌∙◌, Result, Ok, Err, OnOk, OnErr, sym, subst}
use Rattle.once_store.specs.declared.error.BlockError.{BlockError}
use Rattle.route_history.specs.Fronts.{front_number}
use Rattle.route_history.specs.Walks.{Rose}
use Rattle.tsb_walk.specs.Inside.{CachesInside}
use Rattle.tsb_walk.specs.Knowing.{ReadsWell}
use Rattle.route_meaning.specs.History.{History}
use Rattle.disk_archive.specs.declared.cursor.Cursor.{Cursor}
use Rattle.disk_archive.specs.declared.cursor.Cursor.TheVariants.{Rows, Events}
use Rattle.disk_archive.specs.declared.errand.Errand.{Errand}
use Rattle.disk_archive.specs.declared.errand.Errand.TheVariants as errands
use Rattle.disk_archive.specs.Cursors.{IsGathered, IsSameCursor, walked_to}
use Rattle.disk_archive.specs.Descents.{LocatedKnown}
use Rattle.disk_archive.proofs.Turning.{place_known, parts_known, rows_finished, events_finished, same_where}
use Rattle.disk_archive.proofs.errand.Errand.finish.Goals as goal
use Rattle.disk_archive.proofs.errand.Errand.finish.Goals.{in-Rows-Rows, in-Events-Events}

ok_first : {X E : Type 0} (A B : Type 0) (r : Result X E) → OnOk r (A × B) → OnOk r A
ok_first A B (Ok x) p = p.0
ok_first A B (Err e) p = tt

ok_second : {X E : Type 0} (A B : Type 0) (r : Result X E) → OnOk r (A × B) → OnOk r B
ok_second A B (Ok x) p = p.1
ok_second A B (Err e) p = tt

pub returns-clause-gathered : goal.returns-clause-gathered
returns-clause-gathered g c h l =
    let d = g.O.OnceDisk in
    elim c.match-self.branch [
      | in-Rows-Rows w ↦ (
          let k = w.in-Rows-Rows in
          let is : LocatedKnown d c.args.reader.now c.args.seen.now (errands.Rows k.errand) (Rows k.rows) h = subst (λ (x : Cursor). LocatedKnown d c.args.reader.now c.args.seen.now (errands.Rows k.errand) x h) k.is-1 (subst (λ (e : Errand). LocatedKnown d c.args.reader.now c.args.seen.now e c.args.cursor.now h) k.is-0 l) in
          let f = rows_finished d c.args.reader.now c.args.seen.now h c.versions_report.ensures.rows c.gathered_follows_histories.ensures.rows w.finish.result k.errand k.rows w.finish.new.cursor is w.finish.ensures.question w.finish.ensures.finished in
          subst (λ (r : Result (Unit {0}) BlockError). OnOk r (IsGathered c.match-self.cursor h)) (sym w.result-is) (subst (λ (x : Cursor). OnOk w.finish.result (IsGathered x h)) (sym w.cursor-is) (ok_first (IsGathered (Rows w.finish.new.cursor) h) (Rose (front_number k.rows.front) (front_number w.finish.new.cursor.front)) w.finish.result f))
          )
      | in-Events-Events w ↦ (
          let k = w.in-Events-Events in
          let is : LocatedKnown d c.args.reader.now c.args.seen.now (errands.Events k.errand) (Events k.events) h = subst (λ (x : Cursor). LocatedKnown d c.args.reader.now c.args.seen.now (errands.Events k.errand) x h) k.is-1 (subst (λ (e : Errand). LocatedKnown d c.args.reader.now c.args.seen.now e c.args.cursor.now h) k.is-0 l) in
          let f = events_finished d c.args.reader.now c.args.seen.now h c.versions_report.ensures.events c.gathered_follows_histories.ensures.events w.finish-in-Events-Events.result k.errand k.events w.finish-in-Events-Events.new.cursor is w.finish-in-Events-Events.ensures.question w.encoded_len-len.ensures.valid w.address-address.ensures.valid w.finish-in-Events-Events.ensures.finished in
          subst (λ (r : Result (Unit {0}) BlockError). OnOk r (IsGathered c.match-self.cursor h)) (sym w.result-is) (subst (λ (x : Cursor). OnOk w.finish-in-Events-Events.result (IsGathered x h)) (sym w.cursor-is) (ok_first (IsGathered (Events w.finish-in-Events-Events.new.cursor) h) (Rose k.events.at w.finish-in-Events-Events.new.cursor.at) w.finish-in-Events-Events.result f))
          )
    ]

pub returns-clause-further : goal.returns-clause-further
returns-clause-further g c h l =
    let d = g.O.OnceDisk in
    elim c.match-self.branch [
      | in-Rows-Rows w ↦ (
          let k = w.in-Rows-Rows in
          let is : LocatedKnown d c.args.reader.now c.args.seen.now (errands.Rows k.errand) (Rows k.rows) h = subst (λ (x : Cursor). LocatedKnown d c.args.reader.now c.args.seen.now (errands.Rows k.errand) x h) k.is-1 (subst (λ (e : Errand). LocatedKnown d c.args.reader.now c.args.seen.now e c.args.cursor.now h) k.is-0 l) in
          let f = rows_finished d c.args.reader.now c.args.seen.now h c.versions_report.ensures.rows c.gathered_follows_histories.ensures.rows w.finish.result k.errand k.rows w.finish.new.cursor is w.finish.ensures.question w.finish.ensures.finished in
          subst (λ (r : Result (Unit {0}) BlockError). OnOk r (Rose (walked_to c.args.cursor.now) (walked_to c.match-self.cursor))) (sym w.result-is) (subst (λ (x : Cursor). OnOk w.finish.result (Rose (walked_to c.args.cursor.now) (walked_to x))) (sym w.cursor-is) (subst (λ (y : Cursor). OnOk w.finish.result (Rose (walked_to y) (walked_to (Rows w.finish.new.cursor)))) (sym k.is-1) (ok_second (IsGathered (Rows w.finish.new.cursor) h) (Rose (front_number k.rows.front) (front_number w.finish.new.cursor.front)) w.finish.result f)))
          )
      | in-Events-Events w ↦ (
          let k = w.in-Events-Events in
          let is : LocatedKnown d c.args.reader.now c.args.seen.now (errands.Events k.errand) (Events k.events) h = subst (λ (x : Cursor). LocatedKnown d c.args.reader.now c.args.seen.now (errands.Events k.errand) x h) k.is-1 (subst (λ (e : Errand). LocatedKnown d c.args.reader.now c.args.seen.now e c.args.cursor.now h) k.is-0 l) in
          let f = events_finished d c.args.reader.now c.args.seen.now h c.versions_report.ensures.events c.gathered_follows_histories.ensures.events w.finish-in-Events-Events.result k.errand k.events w.finish-in-Events-Events.new.cursor is w.finish-in-Events-Events.ensures.question w.encoded_len-len.ensures.valid w.address-address.ensures.valid w.finish-in-Events-Events.ensures.finished in
          subst (λ (r : Result (Unit {0}) BlockError). OnOk r (Rose (walked_to c.args.cursor.now) (walked_to c.match-self.cursor))) (sym w.result-is) (subst (λ (x : Cursor). OnOk w.finish-in-Events-Events.result (Rose (walked_to c.args.cursor.now) (walked_to x))) (sym w.cursor-is) (subst (λ (y : Cursor). OnOk w.finish-in-Events-Events.result (Rose (walked_to y) (walked_to (Events w.finish-in-Events-Events.new.cursor)))) (sym k.is-1) (ok_second (IsGathered (Events w.finish-in-Events-Events.new.cursor) h) (Rose k.events.at w.finish-in-Events-Events.new.cursor.at) w.finish-in-Events-Events.result f)))
          )
    ]

pub returns-clause-kept : goal.returns-clause-kept
returns-clause-kept g c =
    let d = g.O.OnceDisk in
    elim c.match-self.branch [
      | in-Rows-Rows w ↦ (
          let s = subst (λ (y : Cursor). OnErr w.finish.result (IsSameCursor y (Rows w.finish.new.cursor))) (sym w.in-Rows-Rows.is-1) w.finish.ensures.refused in
          subst (λ (r : Result (Unit {0}) BlockError). OnErr r ((h : History) → IsGathered c.args.cursor.now h → IsGathered c.match-self.cursor h)) (sym w.result-is) (subst (λ (x : Cursor). OnErr w.finish.result ((h : History) → IsGathered c.args.cursor.now h → IsGathered x h)) (sym w.cursor-is) (same_where w.finish.result c.args.cursor.now (Rows w.finish.new.cursor) s))
          )
      | in-Events-Events w ↦ (
          let s = subst (λ (y : Cursor). OnErr w.finish-in-Events-Events.result (IsSameCursor y (Events w.finish-in-Events-Events.new.cursor))) (sym w.in-Events-Events.is-1) w.finish-in-Events-Events.ensures.refused in
          subst (λ (r : Result (Unit {0}) BlockError). OnErr r ((h : History) → IsGathered c.args.cursor.now h → IsGathered c.match-self.cursor h)) (sym w.result-is) (subst (λ (x : Cursor). OnErr w.finish-in-Events-Events.result ((h : History) → IsGathered c.args.cursor.now h → IsGathered x h)) (sym w.cursor-is) (same_where w.finish-in-Events-Events.result c.args.cursor.now (Events w.finish-in-Events-Events.new.cursor) s))
          )
    ]

pub returns-clause-undamaged : goal.returns-clause-undamaged
returns-clause-undamaged g c h l block reported =
    let d = g.O.OnceDisk in
    elim c.match-self.branch [
      | in-Rows-Rows w ↦ (
          let k = w.in-Rows-Rows in
          let is : LocatedKnown d c.args.reader.now c.args.seen.now (errands.Rows k.errand) (Rows k.rows) h = subst (λ (x : Cursor). LocatedKnown d c.args.reader.now c.args.seen.now (errands.Rows k.errand) x h) k.is-1 (subst (λ (e : Errand). LocatedKnown d c.args.reader.now c.args.seen.now e c.args.cursor.now h) k.is-0 l) in
          w.finish.ensures.never is.located.versions (place_known d c.args.reader.now c.args.seen.now h k.errand k.rows is) block (sym w.result-is ∙ reported)
          )
      | in-Events-Events w ↦ (
          let k = w.in-Events-Events in
          let is : LocatedKnown d c.args.reader.now c.args.seen.now (errands.Events k.errand) (Events k.events) h = subst (λ (x : Cursor). LocatedKnown d c.args.reader.now c.args.seen.now (errands.Events k.errand) x h) k.is-1 (subst (λ (e : Errand). LocatedKnown d c.args.reader.now c.args.seen.now e c.args.cursor.now h) k.is-0 l) in
          w.finish-in-Events-Events.ensures.never is.located.versions (parts_known d c.args.reader.now c.args.seen.now h k.errand k.events is) block (sym w.result-is ∙ reported)
          )
    ]

pub returns-clause-reads : goal.returns-clause-reads
returns-clause-reads g c h l =
    let d = g.O.OnceDisk in
    elim c.match-self.branch [
      | in-Rows-Rows w ↦ (
          let k = w.in-Rows-Rows in
          let is : LocatedKnown d c.args.reader.now c.args.seen.now (errands.Rows k.errand) (Rows k.rows) h = subst (λ (x : Cursor). LocatedKnown d c.args.reader.now c.args.seen.now (errands.Rows k.errand) x h) k.is-1 (subst (λ (e : Errand). LocatedKnown d c.args.reader.now c.args.seen.now e c.args.cursor.now h) k.is-0 l) in
          subst (λ r. ReadsWell d r c.match-self.seen) (sym w.reader-is) (subst (λ s. ReadsWell d w.finish.new.reader s) (sym w.seen-is) (w.finish.ensures.reads is.located.versions (place_known d c.args.reader.now c.args.seen.now h k.errand k.rows is)))
          )
      | in-Events-Events w ↦ (
          let k = w.in-Events-Events in
          let is : LocatedKnown d c.args.reader.now c.args.seen.now (errands.Events k.errand) (Events k.events) h = subst (λ (x : Cursor). LocatedKnown d c.args.reader.now c.args.seen.now (errands.Events k.errand) x h) k.is-1 (subst (λ (e : Errand). LocatedKnown d c.args.reader.now c.args.seen.now e c.args.cursor.now h) k.is-0 l) in
          subst (λ r. ReadsWell d r c.match-self.seen) (sym w.reader-is) (subst (λ s. ReadsWell d w.finish-in-Events-Events.new.reader s) (sym w.seen-is) (w.finish-in-Events-Events.ensures.reads is.located.versions (parts_known d c.args.reader.now c.args.seen.now h k.errand k.events is)))
          )
    ]

pub returns-clause-inside : goal.returns-clause-inside
returns-clause-inside g c k =
    let d = g.O.OnceDisk in
    elim c.match-self.branch [
      | in-Rows-Rows w ↦ subst (λ r. CachesInside d r) (sym w.reader-is) (w.finish.ensures.inside k)
      | in-Events-Events w ↦ subst (λ r. CachesInside d r) (sym w.reader-is) (w.finish-in-Events-Events.ensures.inside k)
    ]
