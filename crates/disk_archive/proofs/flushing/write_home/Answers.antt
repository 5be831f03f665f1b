use Rattle.std.proofs.Common.{refl, subst, ap, ℕ, List, length}
use Rattle.disk_models.specs.Erase.{Leaves}
use Rattle.disk_models.proofs.api.Moments.{leaves_then}
use Rattle.page_journal.specs.Journal.{disk_of, home_pages, unhomed_pages}
use Rattle.page_journal.specs.Recovers.{IsListed, Recovers}
use Rattle.buffer_pool.specs.Pool.{journal_of}
use Rattle.page_tx.specs.Start.{Start}
use Rattle.page_tx.specs.Tx.{pool_of}
use Rattle.disk_archive.proofs.Outcomes.{on_each_err}
use Rattle.disk_archive.proofs.Homecoming.{homed, none_left, some_left, still_none}
use Rattle.disk_archive.proofs.flushing.write_home.Goals as goal

pub returns-then-written-clause-flushed : goal.returns-then-written-clause-flushed
returns-then-written-clause-flushed g c step = homed _ _ c.in_ok-written.written c.if-written.true c.in_ok-written.ensures.wrote c.in_ok-written.ensures.oldest

pub returns-then-written-clause-only : goal.returns-then-written-clause-only
returns-then-written-clause-only g c = (λ e. cc, λ none. absurd (some_left _ c.in_ok-written.written c.if-written.true c.in_ok-written.ensures.wrote none))

pub returns-then-written-clause-shown : goal.returns-then-written-clause-shown
returns-then-written-clause-shown g c start shown s usable = ((g.E.EraseDisk.model (disk_of (journal_of (pool_of c.flush_one.new.self)))).clock, c.flush_one.ensures.shown start shown s usable)

pub returns-in_err-written-clause-shown : goal.returns-in_err-written-clause-shown
returns-in_err-written-clause-shown g c start shown s usable = ((g.E.EraseDisk.model (disk_of (journal_of (pool_of c.flush_one.new.self)))).clock, c.flush_one.ensures.shown start shown s usable)

pub returns-in_err-checkpoint-clause-crash : goal.returns-in_err-checkpoint-clause-crash
returns-in_err-checkpoint-clause-crash g c start shown s =
    let homes = home_pages (journal_of (pool_of c.args.tx.now)) in
    let s0 = g.E.EraseDisk.model (disk_of (journal_of (pool_of c.args.tx.now))) in
    let s1 = g.E.EraseDisk.model (disk_of (journal_of (pool_of c.flush_one.new.self))) in
    let s2 = g.E.EraseDisk.model (disk_of (journal_of (pool_of c.checkpoint.new.self))) in
    let begun : Start = record { note = start.note; pages = start.pages; clock = s1.clock } in
    leaves_then s0 s1 s2 (λ f. Recovers homes start.note f start.pages) (c.flush_one.ensures.crash start shown s)
    (subst (λ n. Leaves s1 s2 (λ f. Recovers n start.note f start.pages)) c.flush_one.ensures.journal.homes (c.checkpoint.ensures.crash begun shown (c.flush_one.ensures.shown start shown s c.in_ok-written.ensures.ok.1)))

pub returns-clause-crash : goal.returns-clause-crash
returns-clause-crash g c start shown s =
    let homes = home_pages (journal_of (pool_of c.args.tx.now)) in
    let s0 = g.E.EraseDisk.model (disk_of (journal_of (pool_of c.args.tx.now))) in
    let s1 = g.E.EraseDisk.model (disk_of (journal_of (pool_of c.flush_one.new.self))) in
    let s2 = g.E.EraseDisk.model (disk_of (journal_of (pool_of c.checkpoint.new.self))) in
    let begun : Start = record { note = start.note; pages = start.pages; clock = s1.clock } in
    leaves_then s0 s1 s2 (λ f. Recovers homes start.note f start.pages) (c.flush_one.ensures.crash start shown s)
    (subst (λ n. Leaves s1 s2 (λ f. Recovers n start.note f start.pages)) c.flush_one.ensures.journal.homes (c.checkpoint.ensures.crash begun shown (c.flush_one.ensures.shown start shown s c.in_ok-written.ensures.ok.1)))

pub returns-in_err-checkpoint-clause-shown : goal.returns-in_err-checkpoint-clause-shown
returns-in_err-checkpoint-clause-shown g c start shown s usable =
    let s1 = g.E.EraseDisk.model (disk_of (journal_of (pool_of c.flush_one.new.self))) in
    let begun : Start = record { note = start.note; pages = start.pages; clock = s1.clock } in
    ((g.E.EraseDisk.model (disk_of (journal_of (pool_of c.checkpoint.new.self)))).clock, c.checkpoint.ensures.shown begun shown (c.flush_one.ensures.shown start shown s c.in_ok-written.ensures.ok.1) usable)

pub returns-clause-shown : goal.returns-clause-shown
returns-clause-shown g c start shown s usable =
    let s1 = g.E.EraseDisk.model (disk_of (journal_of (pool_of c.flush_one.new.self))) in
    let begun : Start = record { note = start.note; pages = start.pages; clock = s1.clock } in
    ((g.E.EraseDisk.model (disk_of (journal_of (pool_of c.checkpoint.new.self)))).clock, c.checkpoint.ensures.shown begun shown (c.flush_one.ensures.shown start shown s c.in_ok-written.ensures.ok.1) usable)

pub returns-clause-only : goal.returns-clause-only
returns-clause-only g c = (λ e. none_left _ c.in_ok-written.written c.if-written.false c.in_ok-written.ensures.wrote, λ none. refl)

pub returns-in_err-checkpoint-clause-waits : goal.returns-in_err-checkpoint-clause-waits
returns-in_err-checkpoint-clause-waits g c =
    let none = none_left _ c.in_ok-written.written c.if-written.false c.in_ok-written.ensures.wrote in
    let same = c.flush_one.ensures.none (ap (λ (l : List ℕ). length l) none) in
    on_each_err c.from_residual-in_err-checkpoint.result _ (still_none _ _ none (λ n listed. subst (λ p. IsListed n (unhomed_pages (journal_of p))) same (c.checkpoint.ensures.as_dirty n listed)))
