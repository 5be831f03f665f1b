use Rattle.std.proofs.Common.{◌∙◌, ◌==◌, not, ap, arith, length, rules, sym, subst}
use Rattle.page_journal.specs.Journal.{disk_of, oldest_slot_pages, unhomed_pages}
use Rattle.page_journal.specs.Recovers.{IsListed}
use Rattle.page_journal.proofs.api.Same.{same_then}
use Rattle.buffer_pool.proofs.Holding.{crash_then, fewer}
use Rattle.buffer_pool.proofs.Waiting.{filter_listed, none_first}
use Rattle.buffer_pool.proofs.pool.Pool.flush_oldest_slot.Goals as goal

pub returns-in_err-flush-clause-crash : goal.returns-in_err-flush-clause-crash
returns-in_err-flush-clause-crash g c h pages m =
    let inv = c.loop-n.invariant in
    crash_then (g.D.EraseDisk.model (disk_of c.args.self.now.journal)) (g.D.EraseDisk.model (disk_of c.loop-n.self.journal)) (g.D.EraseDisk.model (disk_of c.flush.new.self.journal)) _ _ _ _ pages inv.journal.homes inv.journal.note (inv.crash h pages m)
    (c.flush.ensures.crash (inv.journal.serves.honest.0 h) pages (inv.maps h pages m))

pub returns-in_err-flush-clause-maps : goal.returns-in_err-flush-clause-maps
returns-in_err-flush-clause-maps g c h pages m up =
    let inv = c.loop-n.invariant in
    c.flush.ensures.maps (inv.journal.serves.honest.0 h) pages (inv.maps h pages m) up

pub returns-in_err-flush-clause-as_dirty : goal.returns-in_err-flush-clause-as_dirty
returns-in_err-flush-clause-as_dirty g c n listed = c.loop-n.invariant.dirty n (subst (IsListed n) c.in_err-flush.ensures.as_dirty listed)

pub loop-n-preserved : goal.loop-n-preserved
loop-n-preserved g c =
    let inv = c.loop-n.invariant in
    record {
      journal = same_then g.D.EraseDisk c.args.self.now.journal c.loop-n.self.journal c.flush.new.self.journal ⊥ ⊥ inv.journal (λ none. none) (search rules);
      opened = c.flush.ensures.opened ∙ inv.opened;
      capacity = c.flush.ensures.capacity ∙ inv.capacity;
      usable = c.in_ok-flush.ensures.ok;
      dirty = λ n listed. inv.dirty n (filter_listed n (λ m. not (m == c.in-Some.n)) (unhomed_pages c.loop-n.self.journal) (subst (IsListed n) c.in_ok-flush.ensures.homed listed));
      maps = λ h pages m. c.flush.ensures.maps (inv.journal.serves.honest.0 h) pages (inv.maps h pages m) c.in_ok-flush.ensures.ok;
      crash = λ h pages m. crash_then (g.D.EraseDisk.model (disk_of c.args.self.now.journal)) (g.D.EraseDisk.model (disk_of c.loop-n.self.journal)) (g.D.EraseDisk.model (disk_of c.flush.new.self.journal)) _ _ _ _ pages inv.journal.homes inv.journal.note (inv.crash h pages m)
          (c.flush.ensures.crash (inv.journal.serves.honest.0 h) pages (inv.maps h pages m));
    }

pub loop-n-smaller : goal.loop-n-smaller
loop-n-smaller g c =
    let old = unhomed_pages c.loop-n.self.journal in
    omega (arith, fewer old c.in-Some.n c.in-Some.ensures.listed, ap length c.in_ok-flush.ensures.homed)

pub returns-clause-maps : goal.returns-clause-maps
returns-clause-maps g c h pages m up = c.loop-n.invariant.maps h pages m

pub returns-clause-none : goal.returns-clause-none
returns-clause-none g c = none_first (oldest_slot_pages c.loop-n.self.journal) (sym c.in_default.is ∙ c.oldest_slot_page.ensures.page)
