use Rattle.std.proofs.Common.{◌∙◌, ℕ, List, refl, subst}
use Rattle.disk_models.specs.Erase.{Leaves}
use Rattle.page_journal.specs.Journal.{disk_of, home_pages}
use Rattle.page_journal.specs.Recovers.{Recovers}
use Rattle.page_tx.proofs.tx.Tx.make_room.Goals as goal

pub returns-clause-crash : goal.returns-clause-crash
returns-clause-crash g c start shown s =
    let journal = c.args.self.now.pool.journal in
    subst (λ (k : List ℕ). Leaves (g.D.EraseDisk.model (disk_of journal)) (g.D.EraseDisk.model (disk_of c.make_room.new.self.journal)) (λ d. Recovers (home_pages journal) k d start.pages)) s.noted
    (c.make_room.ensures.crash s.honest start.pages s.maps)

pub returns-clause-shown : goal.returns-clause-shown
returns-clause-shown g c start shown s up = record {
  honest = c.make_room.ensures.journal.serves.honest.0 s.honest;
  maps = c.make_room.ensures.maps s.honest start.pages s.maps up;
  noted = c.make_room.ensures.journal.note ∙ s.noted;
  clocked = refl;
  over = s.over;
}
