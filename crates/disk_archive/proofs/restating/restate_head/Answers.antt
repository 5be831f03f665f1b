use Rattle.std.proofs.Common.{List, ℕ, OnOk, slice_set, sym, ◌∙◌, ap, subst}
use Rattle.disk_models.specs.Erase.{Leaves}
use Rattle.page_journal.specs.Journal.{disk_of, home_pages, note_of}
use Rattle.page_journal.specs.Recovers.{RecoversEither}
use Rattle.buffer_pool.specs.Pool.{Maps, journal_of}
use Rattle.disk_archive.proofs.Restated.{leaves_read}
use Rattle.disk_archive.proofs.restating.restate_head.Goals as goal

pub returns-then-branch-clause-written : goal.returns-then-branch-clause-written
returns-then-branch-clause-written g c honest pages maps =
    let first = (c.in_ok-is_first.ensures.first honest pages maps).0 c.if-branch.true in
    subst (λ l. Maps g.E.EraseDisk c.is_first.new.pool l) (sym first ∙ ap (λ (page : List ℕ). slice_set pages 0 page) c.in_ok-page.ensures.page) (c.is_first.ensures.maps honest pages maps)

pub returns-clause-written : goal.returns-clause-written
returns-clause-written g c honest pages maps =
    subst (λ (page : List ℕ). OnOk c.write_first.result (Maps g.E.EraseDisk c.write_first.new.pool (slice_set pages 0 page))) c.in_ok-page.ensures.page
    (c.write_first.ensures.written (c.is_first.ensures.serves.honest.0 honest) pages (c.is_first.ensures.maps honest pages maps))

pub returns-clause-crash : goal.returns-clause-crash
returns-clause-crash g c honest pages maps =
    let s1 = g.E.EraseDisk.model (disk_of (journal_of c.is_first.new.pool)) in
    let s2 = g.E.EraseDisk.model (disk_of (journal_of c.write_first.new.pool)) in
    leaves_read g.E.EraseDisk (journal_of c.args.pool.now) (journal_of c.is_first.new.pool) s2 pages _ maps.keeps (c.is_first.ensures.stays honest) c.is_first.ensures.same.homes c.is_first.ensures.same.note
    (subst (λ (page : List ℕ). Leaves s1 s2 (RecoversEither (home_pages (journal_of c.is_first.new.pool)) (note_of (journal_of c.is_first.new.pool)) pages (slice_set pages 0 page))) c.in_ok-page.ensures.page
    (c.write_first.ensures.crash (c.is_first.ensures.serves.honest.0 honest) pages (c.is_first.ensures.maps honest pages maps)))
