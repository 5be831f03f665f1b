use Rattle.std.proofs.Common.{List, refl, sym, subst}
use Rattle.std.specs.List.{AllByRecursion}
use Rattle.page_journal.specs.Bookkeeping.{HasImage}
use Rattle.page_journal.specs.declared.unhomed.Unhomed.{Unhomed}
use Rattle.page_journal.proofs.Keeping.{ShownAt, stands_represents, stands_shown}
use Rattle.page_journal.proofs.journal.Journal.open.Goals as goal

pub returns-in-Ok-clause-opened : goal.returns-in-Ok-clause-opened
returns-in-Ok-clause-opened g c h pages r =
    let s = g.D.EraseDisk.model c.recover.new.disk in
    let id = c.in-Ok.identity in
    let stands = c.in-Ok.ensures.opened h pages r in
    let none = c.new.ensures in
    record {
      usable = refl;
      represents = stands_represents id.homes id.note s pages stands;
      shown = subst (λ (l : List Unhomed). ShownAt id.homes l s.octet pages) (sym none) (stands_shown id.homes id.note s pages stands);
      covered = λ d may. subst (AllByRecursion (HasImage d)) (sym none) tt;
      numbered = λ d may. tt;
    }
