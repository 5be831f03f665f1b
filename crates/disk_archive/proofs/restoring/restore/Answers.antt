use Rattle.std.proofs.Common.{◌∙◌, ap, subst, sym}
use Rattle.page_journal.specs.Journal.{disk_of, home_pages, note_of}
use Rattle.page_journal.specs.Recovers.{Recovers}
use Rattle.disk_archive.specs.Openings.{IsNoneFaultOrMemory, IsFaultOrMemory}
use Rattle.disk_models.specs.Erase.{MayLeave}
use Rattle.disk_archive.specs.inner.Guarding.{CrashRepresentsOr}
use Rattle.disk_archive.proofs.Guarding.{means_opened}
use Rattle.disk_archive.proofs.Found.{looks_on, none_named, none_reported, one_count, one_note, fault_or_memory_reported}
use Rattle.disk_archive.proofs.restoring.restore.Goals as goal

pub returns-in-Ok-look_at-clause-looks : goal.returns-in-Ok-look_at-clause-looks
returns-in-Ok-look_at-clause-looks g c honest homes note pages reads =
    let device = g.E.EraseDisk in
    let journal = c.in-Ok.journal in
    let found = c.in-Ok.ensures.found honest in
    let count = one_count (home_pages journal) homes (note_of journal) note (device.model c.args.erase).octet found.1.1.identity reads.1.identity in
    let reported = one_note (home_pages journal) homes (note_of journal) note (device.model c.args.erase).octet found.1.1.identity reads.1.identity in
    let keeps = c.in-Ok.ensures.opened honest pages (subst (λ n. Recovers n (note_of journal) (device.model c.args.erase).octet pages) (sym count) (subst (λ m. Recovers homes m (device.model c.args.erase).octet pages) (sym reported) reads)) in
    let honest' = c.in-Ok.ensures.serves.honest.0 honest in
    let is = c.in-Ok-look_at.ensures.journal in
    looks_on device c.in-Ok-look_at.looks homes note pages (ap home_pages is ∙ count) (ap note_of is ∙ reported) (subst (λ j. device.honest (disk_of j)) (sym is) honest') (c.in-Ok-look_at.ensures.maps pages keeps)

pub returns-in-Err-clause-unnamed : goal.returns-in-Err-clause-unnamed
returns-in-Err-clause-unnamed g c honest reported named =
    let device = g.E.EraseDisk in
    none_named (device.octet_count c.args.erase) (device.model c.args.erase).octet c.args.blocks c.in-Err.field-0.error (c.in-Err.ensures.refused honest) (sym c.of_journal.ensures.same ∙ reported) named

pub returns-in-Err-clause-none : goal.returns-in-Err-clause-none
returns-in-Err-clause-none g c honest none =
    let device = g.E.EraseDisk in
    subst IsNoneFaultOrMemory (sym c.of_journal.ensures.same) (none_reported (device.octet_count c.args.erase) (device.model c.args.erase).octet c.in-Err.field-0.error (c.in-Err.ensures.refused honest) none)

pub returns-in-Err-clause-undamaged : goal.returns-in-Err-clause-undamaged
returns-in-Err-clause-undamaged g c honest homes note pages reads room s are noted low =
    subst IsFaultOrMemory (sym c.of_journal.ensures.same) (fault_or_memory_reported c.in-Err.field-0.error (c.in-Err.ensures.undamaged honest homes note pages reads room))

pub returns-in-Ok-look_at-clause-found : goal.returns-in-Ok-look_at-clause-found
returns-in-Ok-look_at-clause-found g c honest =
    let found = c.in-Ok.ensures.found honest in
    let is = c.in-Ok-look_at.ensures.journal in
    (found.0, subst (λ j. Recovers (home_pages j) (note_of j) (g.E.EraseDisk.model c.args.erase).octet found.0) (sym is) found.1)

pub returns-in_default-clause-left : goal.returns-in_default-clause-left
returns-in_default-clause-left g c honest homes note pages reads =
    let device = g.E.EraseDisk in
    let e0 = device.model c.args.erase in
    subst (λ d. CrashRepresentsOr (device.model d) e0.clock (MayLeave e0) homes note pages) (sym c.into_disk.ensures.disk)
    (means_opened e0 (device.model (disk_of c.in-Ok.journal)) homes note pages (g.met.E.EraseDisk.sound c.args.erase honest) (c.in-Ok.ensures.crash honest homes note pages reads))

pub returns-in-Ok-look_at-clause-left : goal.returns-in-Ok-look_at-clause-left
returns-in-Ok-look_at-clause-left g c honest homes note pages reads =
    let device = g.E.EraseDisk in
    let e0 = device.model c.args.erase in
    subst (λ j. CrashRepresentsOr (device.model (disk_of j)) e0.clock (MayLeave e0) homes note pages) (sym c.in-Ok-look_at.ensures.journal)
    (means_opened e0 (device.model (disk_of c.in-Ok.journal)) homes note pages (g.met.E.EraseDisk.sound c.args.erase honest) (c.in-Ok.ensures.crash honest homes note pages reads))

pub returns-in-Err-look_at-clause-left : goal.returns-in-Err-look_at-clause-left
returns-in-Err-look_at-clause-left g c honest homes note pages reads =
    let device = g.E.EraseDisk in
    let e0 = device.model c.args.erase in
    subst (λ d. CrashRepresentsOr (device.model d) e0.clock (MayLeave e0) homes note pages) (sym c.in-Err-look_at.ensures.refused)
    (means_opened e0 (device.model (disk_of c.in-Ok.journal)) homes note pages (g.met.E.EraseDisk.sound c.args.erase honest) (c.in-Ok.ensures.crash honest homes note pages reads))

pub returns-in-Err-clause-left : goal.returns-in-Err-clause-left
returns-in-Err-clause-left g c honest homes note pages reads =
    let device = g.E.EraseDisk in
    let e0 = device.model c.args.erase in
    means_opened e0 (device.model c.in-Err.field-0.disk) homes note pages (g.met.E.EraseDisk.sound c.args.erase honest) (c.in-Err.ensures.crash honest homes note pages reads)
