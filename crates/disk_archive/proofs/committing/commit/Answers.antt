use Rattle.std.proofs.Common.{inl, ◌∙◌, sym, ap, subst, true≢false}
use Rattle.disk_models.specs.Erase.{Leaves}
use Rattle.disk_models.proofs.api.Moments.{leaves_then, leaves_weaker}
use Rattle.page_journal.specs.Journal.{disk_of, home_pages, needs_recovery}
use Rattle.page_journal.specs.Recovers.{Recovers, RecoversEither}
use Rattle.buffer_pool.specs.Pool.{Maps, journal_of}
use Rattle.page_tx.specs.Start.{Start}
use Rattle.page_tx.specs.Tx.{pool_of}
use Rattle.page_journal.specs.Refusals.{UseRefusal}
use Rattle.std.specs.Prelude.{Err}
use Rattle.disk_archive.proofs.Outcomes.{on_each_err, down_or, fault_or, commit_refused}
use Rattle.disk_archive.proofs.Staying.{usable_after, fell_by}
use Rattle.disk_archive.proofs.committing.commit.Goals as goal

pub returns-in_err-make_room-clause-crash : goal.returns-in_err-make_room-clause-crash
returns-in_err-make_room-clause-crash g c start shown s =
    let homes = home_pages (journal_of (pool_of c.args.tx.now)) in
    leaves_weaker _ _ (λ f. Recovers homes start.note f start.pages) (RecoversEither homes start.note start.pages shown) (λ f means. inl means) (c.make_room.ensures.crash start shown s)

pub returns-in_err-make_room-clause-err : goal.returns-in_err-make_room-clause-err
returns-in_err-make_room-clause-err g c start shown s = on_each_err c.from_residual.result _
    (down_or (needs_recovery (journal_of (pool_of c.make_room.new.self))) _ (λ usable. (c.make_room.ensures.shown start shown s usable).maps))

pub returns-in-Ok-clause-crash : goal.returns-in-Ok-clause-crash
returns-in-Ok-clause-crash g c start shown s =
    let homes = home_pages (journal_of (pool_of c.args.tx.now)) in
    let s0 = g.E.EraseDisk.model (disk_of (journal_of (pool_of c.args.tx.now))) in
    let s1 = g.E.EraseDisk.model (disk_of (journal_of (pool_of c.make_room.new.self))) in
    let s2 = g.E.EraseDisk.model (disk_of (journal_of (pool_of c.commit.new.self))) in
    let begun : Start = record { note = start.note; pages = start.pages; clock = s1.clock } in
    leaves_then s0 s1 s2 (RecoversEither homes start.note start.pages shown)
    (leaves_weaker s0 s1 (λ f. Recovers homes start.note f start.pages) (RecoversEither homes start.note start.pages shown) (λ f means. inl means) (c.make_room.ensures.crash start shown s))
    (subst (λ n. Leaves s1 s2 (RecoversEither n start.note start.pages shown)) c.make_room.ensures.journal.homes (c.commit.ensures.crash begun shown (c.make_room.ensures.shown start shown s c.in_ok-make_room.ensures.ok.1)))

pub returns-in-Ok-clause-ok : goal.returns-in-Ok-clause-ok
returns-in-Ok-clause-ok g c start shown s =
    c.in-Ok.ensures.maps (record { note = start.note; pages = start.pages; clock = (g.E.EraseDisk.model (disk_of (journal_of (pool_of c.make_room.new.self)))).clock }) shown
    (c.make_room.ensures.shown start shown s c.in_ok-make_room.ensures.ok.1)

pub returns-in-Err-clause-crash : goal.returns-in-Err-clause-crash
returns-in-Err-clause-crash g c start shown s =
    let homes = home_pages (journal_of (pool_of c.args.tx.now)) in
    let s0 = g.E.EraseDisk.model (disk_of (journal_of (pool_of c.args.tx.now))) in
    let s1 = g.E.EraseDisk.model (disk_of (journal_of (pool_of c.make_room.new.self))) in
    let s2 = g.E.EraseDisk.model (disk_of (journal_of (pool_of c.commit.new.self))) in
    let begun : Start = record { note = start.note; pages = start.pages; clock = s1.clock } in
    leaves_then s0 s1 s2 (RecoversEither homes start.note start.pages shown)
    (leaves_weaker s0 s1 (λ f. Recovers homes start.note f start.pages) (RecoversEither homes start.note start.pages shown) (λ f means. inl means) (c.make_room.ensures.crash start shown s))
    (subst (λ n. Leaves s1 s2 (RecoversEither n start.note start.pages shown)) c.make_room.ensures.journal.homes (c.commit.ensures.crash begun shown (c.make_room.ensures.shown start shown s c.in_ok-make_room.ensures.ok.1)))

pub returns-in-Err-clause-err : goal.returns-in-Err-clause-err
returns-in-Err-clause-err g c start shown s =
    let room = c.make_room.ensures.shown start shown s c.in_ok-make_room.ensures.ok.1 in
    fault_or c.in-Err.error _ _
    (λ e. (c.commit.ensures.failed (c.in-Err.is ∙ ap (λ x. Err x) e)).recovery)
    (λ ne. subst (λ p. Maps g.E.EraseDisk p start.pages) (sym (c.in-Err.ensures.unchanged ne)) room.maps)

pub returns-in-Err-clause-refused : goal.returns-in-Err-clause-refused
returns-in-Err-clause-refused g c =
    subst (λ b. UseRefusal b c.refusal.result) (c.in_ok-make_room.ensures.ok.1 ∙ sym c.in_ok-make_room.ensures.ok.0)
    (commit_refused _ _ _ c.in-Err.error c.refusal.result c.in-Err.ensures.refused c.refusal.ensures.fault c.refusal.ensures.recovery)

-- ---- what stays usable

pub returns-in-Ok-clause-usable : goal.returns-in-Ok-clause-usable
returns-in-Ok-clause-usable g c = usable_after _ _ _ _ c.in-Ok.ensures.accepted (λ none. ap needs_recovery (c.commit.ensures.empty none)) c.in-Ok.ensures.usable

pub returns-in-Ok-clause-falls : goal.returns-in-Ok-clause-falls
returns-in-Ok-clause-falls g c up down = absurd (true≢false (sym down ∙ usable_after _ _ _ _ c.in-Ok.ensures.accepted (λ none. ap needs_recovery (c.commit.ensures.empty none)) c.in-Ok.ensures.usable))

pub returns-in-Err-clause-falls : goal.returns-in-Err-clause-falls
returns-in-Err-clause-falls g c up down = ap (λ x. Err x) (fell_by _ _ c.in-Err.error c.refusal.result c.in_ok-make_room.ensures.ok.1 down
    (λ other. ap (λ p. needs_recovery (journal_of p)) (c.in-Err.ensures.unchanged other)) c.refusal.ensures.recovery)
