use Rattle.std.proofs.Common.{inr, sym, subst}
use Rattle.disk_models.specs.Erase.{Leaves}
use Rattle.page_journal.specs.Journal.{disk_of}
use Rattle.page_journal.specs.Layout.{homes_from}
use Rattle.page_journal.specs.Recovers.{laid, NoneOrJournal}
use Rattle.disk_archive.specs.inner.Creating.{CrashRepresents}
use Rattle.disk_archive.proofs.Meanings.{means_kept}
use Rattle.disk_archive.proofs.creating.make_pages.Goals as goal

pub returns-in-Ok-map_pages-clause-maps : goal.returns-in-Ok-map_pages-clause-maps
returns-in-Ok-map_pages-clause-maps g c honest = c.in-Ok-map_pages.ensures.maps _ (c.in-Ok.ensures.created honest)

pub returns-in-Err-map_pages-clause-memory : goal.returns-in-Err-map_pages-clause-memory
returns-in-Err-map_pages-clause-memory g c honest is =
    let d = g.E.EraseDisk in
    let pages = laid c.args.images.now (homes_from (d.model c.args.erase).octet 0 c.args.homes) in
    inr (subst (λ disk. CrashRepresents c.args.homes c.args.note (d.model disk) pages) (sym c.in-Err-map_pages.ensures.refused)
    (means_kept d c.in-Ok.journal c.args.homes c.args.note pages c.in-Ok.ensures.homes c.in-Ok.ensures.note (c.in-Ok.ensures.created honest)))

pub returns-in-Ok-map_pages-clause-crash : goal.returns-in-Ok-map_pages-clause-crash
returns-in-Ok-map_pages-clause-crash g c honest =
    let d = g.E.EraseDisk in
    let pages = laid c.args.images.now (homes_from (d.model c.args.erase).octet 0 c.args.homes) in
    subst (λ j. Leaves (d.model c.args.erase) (d.model (disk_of j)) (NoneOrJournal c.args.homes c.args.note pages)) (sym c.in-Ok-map_pages.ensures.journal) (c.in-Ok.ensures.crash honest)

pub returns-in-Err-map_pages-clause-crash : goal.returns-in-Err-map_pages-clause-crash
returns-in-Err-map_pages-clause-crash g c honest =
    let d = g.E.EraseDisk in
    let pages = laid c.args.images.now (homes_from (d.model c.args.erase).octet 0 c.args.homes) in
    subst (λ disk. Leaves (d.model c.args.erase) (d.model disk) (NoneOrJournal c.args.homes c.args.note pages)) (sym c.in-Err-map_pages.ensures.refused) (c.in-Ok.ensures.crash honest)
