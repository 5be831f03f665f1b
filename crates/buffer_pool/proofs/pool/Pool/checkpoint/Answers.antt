use Rattle.std.proofs.Common.{◌∙◌, ⊎_elim, ap, length, arith, rules, sym, subst}
use Rattle.page_journal.specs.Journal.{Keeps, disk_of, unhomed_pages}
use Rattle.page_journal.proofs.api.Same.{same_then}
use Rattle.buffer_pool.proofs.Holding.{crash_then, ended}
use Rattle.buffer_pool.proofs.Waiting.{flushed_listed}
use Rattle.buffer_pool.proofs.pool.Pool.checkpoint.Goals as goal

pub returns-in_err-flush_one-clause-crash : goal.returns-in_err-flush_one-clause-crash
returns-in_err-flush_one-clause-crash g c h pages m =
    let inv = c.loop.invariant in
    crash_then (g.D.EraseDisk.model (disk_of c.args.self.now.journal)) (g.D.EraseDisk.model (disk_of c.loop.self.journal)) (g.D.EraseDisk.model (disk_of c.flush_one.new.self.journal)) _ _ _ _ pages inv.journal.homes inv.journal.note (inv.crash h pages m)
    (c.flush_one.ensures.crash (inv.journal.serves.honest.0 h) pages (inv.maps h pages m))

pub returns-in_err-flush_one-clause-maps : goal.returns-in_err-flush_one-clause-maps
returns-in_err-flush_one-clause-maps g c h pages m up =
    let inv = c.loop.invariant in
    c.flush_one.ensures.maps (inv.journal.serves.honest.0 h) pages (inv.maps h pages m) up

pub loop-preserved : goal.loop-preserved
loop-preserved g c =
    let inv = c.loop.invariant in
    record {
      journal = same_then g.D.EraseDisk c.args.self.now.journal c.loop.self.journal c.flush_one.new.self.journal ⊥ ⊥ inv.journal (λ none. none) (search rules);
      opened = c.flush_one.ensures.opened ∙ inv.opened;
      capacity = c.flush_one.ensures.capacity ∙ inv.capacity;
      usable = c.in_ok-flush_one.ensures.ok.1;
      still = λ none.
          let was = inv.still none in
          ap (λ p. p.journal) (c.flush_one.ensures.none (ap (λ j. length (unhomed_pages j)) was ∙ ap length none)) ∙ was;
      dirty = λ n listed. inv.dirty n (flushed_listed n c.loop.self c.flush_one.new.self c.flush_one.result c.flush_one.ensures.oldest c.flush_one.ensures.none c.flush_one.ensures.as_dirty listed);
      few = omega (arith, inv.few, c.in_ok-flush_one.ensures.fewer);
      maps = λ h pages m. c.flush_one.ensures.maps (inv.journal.serves.honest.0 h) pages (inv.maps h pages m) c.in_ok-flush_one.ensures.ok.1;
      crash = λ h pages m. crash_then (g.D.EraseDisk.model (disk_of c.args.self.now.journal)) (g.D.EraseDisk.model (disk_of c.loop.self.journal)) (g.D.EraseDisk.model (disk_of c.flush_one.new.self.journal)) _ _ _ _ pages inv.journal.homes inv.journal.note (inv.crash h pages m)
          (c.flush_one.ensures.crash (inv.journal.serves.honest.0 h) pages (inv.maps h pages m));
    }

pub returns-clause-maps : goal.returns-clause-maps
returns-clause-maps g c h pages m up =
    let inv = c.loop.invariant in
    let was = inv.maps h pages m in
    ⊎_elim
    (λ keeps. record { keeps = keeps; held = was.held })
    (λ same. record { keeps = subst (λ j. Keeps g.D.EraseDisk j pages) (sym same) was.keeps; held = was.held })
    (ended c.loop.self.journal c.checkpoint.new.self c.checkpoint.result _ (c.checkpoint.ensures.keeps (inv.journal.serves.honest.0 h) pages was.keeps) c.checkpoint.ensures.unchanged c.checkpoint.ensures.failed up)

pub returns-clause-crash : goal.returns-clause-crash
returns-clause-crash g c h pages m =
    let inv = c.loop.invariant in
    crash_then (g.D.EraseDisk.model (disk_of c.args.self.now.journal)) (g.D.EraseDisk.model (disk_of c.loop.self.journal)) (g.D.EraseDisk.model (disk_of c.checkpoint.new.self)) _ _ _ _ pages inv.journal.homes inv.journal.note (inv.crash h pages m)
    (c.checkpoint.ensures.crash (inv.journal.serves.honest.0 h) pages (inv.maps h pages m).keeps)

pub returns-in_err-flush_one-clause-as_dirty : goal.returns-in_err-flush_one-clause-as_dirty
returns-in_err-flush_one-clause-as_dirty g c n listed =
    c.loop.invariant.dirty n (flushed_listed n c.loop.self c.flush_one.new.self c.flush_one.result c.flush_one.ensures.oldest c.flush_one.ensures.none c.flush_one.ensures.as_dirty listed)
