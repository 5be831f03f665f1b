use Rattle.std.proofs.Common.{List, refl, sym, subst}
use Rattle.std.specs.List.{AllByRecursion}
use Rattle.page_journal.specs.Bookkeeping.{HasImage}
use Rattle.page_journal.specs.Layout.{homes_from}
use Rattle.page_journal.specs.Recovers.{laid}
use Rattle.page_journal.specs.declared.unhomed.Unhomed.{Unhomed}
use Rattle.page_journal.proofs.Keeping.{ShownAt, stands_represents, stands_shown}
use Rattle.page_journal.proofs.journal.Journal.create_with.Goals as goal

pub returns-in-Ok-clause-created : goal.returns-in-Ok-clause-created
returns-in-Ok-clause-created g c h =
    let s = g.D.EraseDisk.model c.prepare.new.disk in
    let pages = laid c.args.first.now (homes_from (g.D.EraseDisk.model c.args.disk).octet 0 c.args.homes) in
    let stands = c.in-Ok.ensures.stands h in
    let none = c.new.ensures in
    record {
      usable = refl;
      represents = stands_represents c.args.homes c.args.note s pages stands;
      shown = subst (λ (l : List Unhomed). ShownAt c.args.homes l s.octet pages) (sym none) (stands_shown c.args.homes c.args.note s pages stands);
      covered = λ d may. subst (AllByRecursion (HasImage d)) (sym none) tt;
      numbered = λ d may. tt;
    }
