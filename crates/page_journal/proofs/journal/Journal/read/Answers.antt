use Rattle.std.proofs.Common.{◌∙◌, ℕ, ap, sym, Some}
use Rattle.disk_models.specs.Octets.{octets}
use Rattle.disk_models.proofs.api.Moments.{stays_may_leave}
use Rattle.page_journal.specs.Bookkeeping.{place_of}
use Rattle.page_journal.proofs.journal.Journal.read.Goals as goal

pub returns-in_err-read_from-clause-keeps : goal.returns-in_err-read_from-clause-keeps
returns-in_err-read_from-clause-keeps g c h pages keeps =
    let s0 = g.D.EraseDisk.model c.args.self.now.disk in
    let s1 = g.D.EraseDisk.model c.read_from.new.disk in
    let stays = c.read_from.ensures.stays h in
    record {
      usable = keeps.usable;
      represents = λ d may. keeps.represents d (stays_may_leave s0 s1 d stays may);
      shown = λ n lt. keeps.shown n lt ∙ ap (λ (f : ℕ → ℕ). Some (octets f (place_of c.args.self.now.unhomed.items n) 16384)) (sym stays.same);
      covered = λ d may. keeps.covered d (stays_may_leave s0 s1 d stays may);
      numbered = λ d may. keeps.numbered d (stays_may_leave s0 s1 d stays may);
    }

pub returns-clause-keeps : goal.returns-clause-keeps
returns-clause-keeps g c h pages keeps =
    let s0 = g.D.EraseDisk.model c.args.self.now.disk in
    let s1 = g.D.EraseDisk.model c.read_from.new.disk in
    let stays = c.read_from.ensures.stays h in
    record {
      usable = keeps.usable;
      represents = λ d may. keeps.represents d (stays_may_leave s0 s1 d stays may);
      shown = λ n lt. keeps.shown n lt ∙ ap (λ (f : ℕ → ℕ). Some (octets f (place_of c.args.self.now.unhomed.items n) 16384)) (sym stays.same);
      covered = λ d may. keeps.covered d (stays_may_leave s0 s1 d stays may);
      numbered = λ d may. keeps.numbered d (stays_may_leave s0 s1 d stays may);
    }
