use Rattle.std.proofs.Common.{◌≡◌, ◌∙◌, List, ℕ, true, Some, Option, IfSome, ap, sym, subst}
use Rattle.std.specs.List.{slice_get}
use Rattle.disk_models.specs.Erase.{Leaves}
use Rattle.disk_models.proofs.api.Moments.{leaves_then}
use Rattle.page_journal.specs.Journal.{disk_of, home_pages, note_of, unhomed_pages}
use Rattle.page_journal.specs.Recovers.{Recovers}
use Rattle.buffer_pool.proofs.Holding.{removed_shown}
use Rattle.buffer_pool.proofs.Waiting.{failed_same, homed_among, homed_or_not, removed_only}
use Rattle.page_journal.specs.Bookkeeping.{is_among}
use Rattle.buffer_pool.proofs.pool.Pool.flush.Goals as goal

pub returns-in_err-home-in-Some-clause-crash : goal.returns-in_err-home-in-Some-clause-crash
returns-in_err-home-in-Some-clause-crash g c h pages m = c.home.ensures.crash h pages m.keeps

pub returns-in_ok-home-in-Some-clause-crash : goal.returns-in_ok-home-in-Some-clause-crash
returns-in_ok-home-in-Some-clause-crash g c h pages m = c.home.ensures.crash h pages m.keeps

pub returns-in_ok-home-in-Some-clause-maps : goal.returns-in_ok-home-in-Some-clause-maps
returns-in_ok-home-in-Some-clause-maps g c h pages m up =
    let self = c.args.self.now in
    let is : slice_get pages c.args.n ≡ Some c.in-Some.page = subst (λ (o : Option (List ℕ)). IfSome o (λ q. slice_get pages c.args.n ≡ Some q)) (sym c.in-Some.ensures.value) (m.held.committed c.args.n) in
    record {
      keeps = c.in_ok-home-in-Some.ensures.keeps h pages m.keeps is;
      held = record {
        committed = removed_shown self.committed c.remove.new.self _ pages c.remove.ensures.updates.0 m.held.committed;
        cached = c.keep.ensures.shown pages m.held.cached is;
      };
    }

pub returns-in_err-home-in-None-clause-crash : goal.returns-in_err-home-in-None-clause-crash
returns-in_err-home-in-None-clause-crash g c h pages m =
    let old = c.args.self.now.journal in
    let s0 = g.D.EraseDisk.model (disk_of old) in
    let s1 = g.D.EraseDisk.model (disk_of c.read.new.self) in
    let s2 = g.D.EraseDisk.model (disk_of c.home-in-None.new.self) in
    leaves_then s0 s1 s2 (λ d. Recovers (home_pages old) (note_of old) d pages) (c.read.ensures.crash h pages m.keeps)
    (subst (λ k. Leaves s1 s2 (λ d. Recovers k (note_of old) d pages)) c.read.ensures.same.homes
    (subst (λ (k : List ℕ). Leaves s1 s2 (λ d. Recovers (home_pages c.read.new.self) k d pages)) c.read.ensures.same.note
    (c.home-in-None.ensures.crash (c.read.ensures.serves.honest.0 h) pages (c.read.ensures.keeps h pages m.keeps))))

pub returns-in_ok-home-in-None-clause-crash : goal.returns-in_ok-home-in-None-clause-crash
returns-in_ok-home-in-None-clause-crash g c h pages m =
    let old = c.args.self.now.journal in
    let s0 = g.D.EraseDisk.model (disk_of old) in
    let s1 = g.D.EraseDisk.model (disk_of c.read.new.self) in
    let s2 = g.D.EraseDisk.model (disk_of c.home-in-None.new.self) in
    leaves_then s0 s1 s2 (λ d. Recovers (home_pages old) (note_of old) d pages) (c.read.ensures.crash h pages m.keeps)
    (subst (λ k. Leaves s1 s2 (λ d. Recovers k (note_of old) d pages)) c.read.ensures.same.homes
    (subst (λ (k : List ℕ). Leaves s1 s2 (λ d. Recovers (home_pages c.read.new.self) k d pages)) c.read.ensures.same.note
    (c.home-in-None.ensures.crash (c.read.ensures.serves.honest.0 h) pages (c.read.ensures.keeps h pages m.keeps))))

pub returns-in_ok-home-in-None-clause-maps : goal.returns-in_ok-home-in-None-clause-maps
returns-in_ok-home-in-None-clause-maps g c h pages m up =
    let self = c.args.self.now in
    record {
      keeps = c.in_ok-home-in-None.ensures.keeps (c.read.ensures.serves.honest.0 h) pages (c.read.ensures.keeps h pages m.keeps) (c.in_ok-read-in-None.ensures.page h pages m.keeps);
      held = record {
        committed = removed_shown self.committed c.remove.new.self _ pages c.remove.ensures.updates.0 m.held.committed;
        cached = m.held.cached;
      };
    }

pub returns-in_err-read-in-None-clause-maps : goal.returns-in_err-read-in-None-clause-maps
returns-in_err-read-in-None-clause-maps g c h pages m up = record {
  keeps = c.read.ensures.keeps h pages m.keeps;
  held = record {
    committed = removed_shown c.args.self.now.committed c.remove.new.self _ pages c.remove.ensures.updates.0 m.held.committed;
    cached = m.held.cached;
  };
}

pub invariant_of-self-in-Some : goal.invariant_of-self-in-Some
invariant_of-self-in-Some g c = record {
  dirty = λ m there.
      let self = c.args.self.now in
      let n = c.args.n in
      let was = removed_only self.committed c.remove.new.self n c.remove.ensures.updates.0 m there in
      ap (is_among m) c.in_ok-home-in-Some.ensures.unhomed ∙ homed_among m n (unhomed_pages self.journal) was.0 (self.dirty m was.1);
}

pub invariant_of-self-in-None : goal.invariant_of-self-in-None
invariant_of-self-in-None g c = record {
  dirty = λ m there.
      let self = c.args.self.now in
      let n = c.args.n in
      let read = c.read.new.self in
      let home = c.home-in-None in
      let was = removed_only self.committed c.remove.new.self n c.remove.ensures.updates.0 m there in
      let still : is_among m (unhomed_pages read) ≡ true = ap (is_among m) c.read.ensures.same.unhomed ∙ self.dirty m was.1 in
      homed_or_not m n (unhomed_pages read) (unhomed_pages home.new.self) home.result home.ensures.unhomed (failed_same read home.new.self home.result home.ensures.unchanged home.ensures.failed) was.0 still;
}
