use Rattle.std.proofs.Common.{⊎_elim, ap, subst, List}
use Rattle.disk_models.specs.Erase.{Leaves}
use Rattle.page_journal.specs.Journal.{disk_of, home_pages, needs_recovery, note_of}
use Rattle.page_journal.specs.Layout.{Image}
use Rattle.page_journal.specs.Recovers.{RecoversEither, laid}
use Rattle.page_journal.proofs.api.Kept.{gives_or_not}
use Rattle.buffer_pool.specs.Pool.{Maps, journal_of}
use Rattle.disk_archive.proofs.Restated.{leaves_before, leaves_room}
use Rattle.disk_archive.proofs.Staying.{usable_after}
use Rattle.disk_archive.proofs.restating.write_first.Goals as goal

pub returns-in-Err-Fault-clause-crash : goal.returns-in-Err-Fault-clause-crash
returns-in-Err-Fault-clause-crash g c honest pages maps = leaves_before _ _ _ _ pages _ (c.make_room.ensures.crash honest pages maps)

pub returns-in-Ok-commit-clause-written : goal.returns-in-Ok-commit-clause-written
returns-in-Ok-commit-clause-written g c honest pages maps =
    let room = c.make_room.ensures.maps honest pages maps c.in-Ok.ensures.ok.1 in
    subst (λ (l : List Image). Maps g.E.EraseDisk c.commit.new.self (laid l pages)) c.in_ok-images.ensures.images (c.in-Ok-commit.ensures.maps (c.make_room.ensures.journal.serves.honest.0 honest) pages room)

pub returns-in-Ok-commit-clause-crash : goal.returns-in-Ok-commit-clause-crash
returns-in-Ok-commit-clause-crash g c honest pages maps =
    let room = c.make_room.ensures.maps honest pages maps c.in-Ok.ensures.ok.1 in
    let s1 = g.E.EraseDisk.model (disk_of (journal_of c.make_room.new.self)) in
    let s2 = g.E.EraseDisk.model (disk_of (journal_of c.commit.new.self)) in
    leaves_room _ s1 s2 _ _ _ _ pages _ c.make_room.ensures.journal.homes c.make_room.ensures.journal.note (c.make_room.ensures.crash honest pages maps)
    (subst (λ (l : List Image). Leaves s1 s2 (RecoversEither (home_pages (journal_of c.make_room.new.self)) (note_of (journal_of c.make_room.new.self)) pages (laid l pages))) c.in_ok-images.ensures.images (c.commit.ensures.crash (c.make_room.ensures.journal.serves.honest.0 honest) pages room))

pub returns-in-Err-Fault-commit-clause-crash : goal.returns-in-Err-Fault-commit-clause-crash
returns-in-Err-Fault-commit-clause-crash g c honest pages maps =
    let room = c.make_room.ensures.maps honest pages maps c.in-Ok.ensures.ok.1 in
    let s1 = g.E.EraseDisk.model (disk_of (journal_of c.make_room.new.self)) in
    let s2 = g.E.EraseDisk.model (disk_of (journal_of c.commit.new.self)) in
    leaves_room _ s1 s2 _ _ _ _ pages _ c.make_room.ensures.journal.homes c.make_room.ensures.journal.note (c.make_room.ensures.crash honest pages maps)
    (subst (λ (l : List Image). Leaves s1 s2 (RecoversEither (home_pages (journal_of c.make_room.new.self)) (note_of (journal_of c.make_room.new.self)) pages (laid l pages))) c.in_ok-images.ensures.images (c.commit.ensures.crash (c.make_room.ensures.journal.serves.honest.0 honest) pages room))

pub returns-in-Ok-commit-clause-still_usable : goal.returns-in-Ok-commit-clause-still_usable
returns-in-Ok-commit-clause-still_usable g c = usable_after _ _ _ _ c.in-Ok-commit.ensures.accepted (λ none. ap needs_recovery (c.commit.ensures.empty none))
    (λ some. ⊎_elim (λ gives. (c.in-Ok-commit.ensures.turned some gives).usable) (λ none. (c.in-Ok-commit.ensures.taken some none).usable) (gives_or_not g.E.EraseDisk (journal_of c.make_room.new.self)))
