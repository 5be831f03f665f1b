use Rattle.std.proofs.Common.{◌∙◌, sym, ap, subst, Err}
use Rattle.page_journal.specs.Journal.{disk_of, home_pages, note_of}
use Rattle.page_tx.specs.Start.{Start}
use Rattle.buffer_pool.specs.Pool.{journal_of}
use Rattle.disk_archive.specs.Notes.{note_octets}
use Rattle.disk_archive.specs.declared.open_error.OpenError.{OpenError}
use Rattle.disk_models.specs.Erase.{MayLeave}
use Rattle.disk_archive.specs.inner.Guarding.{GuardedAt, CrashRepresentsOr}
use Rattle.disk_archive.proofs.Guarding.{err_at, guarded_on, means_weaker, ok_at}
use Rattle.disk_archive.proofs.Reopened.{is_noted, note_read, ok_weaker, only_fault_or_memory, represents_read, rings_named, settings_are, site_read}
use Rattle.disk_archive.proofs.archive.Archive.reopen.Goals as goal

pub returns-in-Ok-memory-clause-represents : goal.returns-in-Ok-memory-clause-represents
returns-in-Ok-memory-clause-represents g c honest pen =
    let count = c.blocks-2.ensures ∙ ap g.O.OnceDisk.block_count c.deref.ensures in
    ok_weaker _ _ c.assemble.result
    (λ archive represented site h r.
    let looked = c.in-Ok.ensures.looks honest site.homes site.note r.represents.pages r.represents.means in
    let guard = guarded_on g.E.EraseDisk (g.E.EraseDisk.model c.args.erase).clock g.B.Before.clock (MayLeave (g.E.EraseDisk.model c.args.erase)) g.B.Before.left c.in-Ok.field-0.looks site.homes site.note r.represents.pages c.requires.clock c.requires.left looked (c.in-Ok.ensures.left honest site.homes site.note r.represents.pages r.represents.means) in
    let start : Start = record { note = site.note; pages = r.represents.pages; clock = (g.E.EraseDisk.model (disk_of (journal_of c.in-Ok.field-0.looks.pool))).clock } in
    let reported = c.in-Ok.ensures.note ∙ ap (λ n. note_octets n c.in-Ok.field-0.settings) count in
    let same = settings_are site _ _ _ h c.in-Ok.field-0.settings (note_of (journal_of c.in-Ok.field-0.looks.pool)) r c.in-Ok.ensures.within reported looked.note in
    let pages_represent = represents_read site _ _ (g.O.OnceDisk.model c.args.pen) h c.in-Ok.field-0.settings r same in
    let head_represents = (ok_at _ c.remember_on-looks.result.1 c.in-Ok-memory.memory c.in-Ok-memory.is c.remember_on-looks.ensures.head_represents) (g.O.OnceDisk.block_count c.args.once.value) (g.O.OnceDisk.model c.args.pen) start r.represents.pages h guard pages_represent in
    let mirrors = (ok_at _ c.remember_on-looks.result.1 c.in-Ok-memory.memory c.in-Ok-memory.is c.remember_on-looks.ensures.mirrors) (g.O.OnceDisk.block_count c.args.once.value) (g.O.OnceDisk.model c.args.pen) start r.represents.pages h guard pages_represent in
    let now = (c.remember_on-looks.ensures.shown start r.represents.pages guard).looked in
    represented start r.represents.pages h (now.noted ∙ sym looked.note ∙ reported) now ((ok_at _ c.remember_on-looks.result.1 c.in-Ok-memory.memory c.in-Ok-memory.is c.remember_on-looks.ensures.first) start r.represents.pages guard) head_represents mirrors)
    (c.assemble.ensures.represents pen)

pub returns-in-Ok-memory-clause-site : goal.returns-in-Ok-memory-clause-site
returns-in-Ok-memory-clause-site g c honest =
    let count = c.blocks-2.ensures ∙ ap g.O.OnceDisk.block_count c.deref.ensures in
    ok_weaker _ _ c.assemble.result
    (λ archive is site h r.
    let looked = c.in-Ok.ensures.looks honest site.homes site.note r.represents.pages r.represents.means in
    let guard = guarded_on g.E.EraseDisk (g.E.EraseDisk.model c.args.erase).clock g.B.Before.clock (MayLeave (g.E.EraseDisk.model c.args.erase)) g.B.Before.left c.in-Ok.field-0.looks site.homes site.note r.represents.pages c.requires.clock c.requires.left looked (c.in-Ok.ensures.left honest site.homes site.note r.represents.pages r.represents.means) in
    let start : Start = record { note = site.note; pages = r.represents.pages; clock = (g.E.EraseDisk.model (disk_of (journal_of c.in-Ok.field-0.looks.pool))).clock } in
    let reported = c.in-Ok.ensures.note ∙ ap (λ n. note_octets n c.in-Ok.field-0.settings) count in
    let same = settings_are site _ _ _ h c.in-Ok.field-0.settings (note_of (journal_of c.in-Ok.field-0.looks.pool)) r c.in-Ok.ensures.within reported looked.note in
    let now = (c.remember_on-looks.ensures.shown start r.represents.pages guard).looked in
    is ∙ site_read site _ _ _ h c.in-Ok.field-0.settings _ _ r same (c.remember_on-looks.ensures.homes ∙ looked.homes) now.noted)
    c.assemble.ensures.site

pub returns-in-Ok-memory-clause-noted : goal.returns-in-Ok-memory-clause-noted
returns-in-Ok-memory-clause-noted g c honest =
    let count = c.blocks-2.ensures ∙ ap g.O.OnceDisk.block_count c.deref.ensures in
    let found = c.in-Ok.ensures.found honest in
    let note = note_of (journal_of c.in-Ok.field-0.looks.pool) in
    let looked = c.in-Ok.ensures.looks honest (home_pages (journal_of c.in-Ok.field-0.looks.pool)) note found.0 found.1 in
    let guard = guarded_on g.E.EraseDisk (g.E.EraseDisk.model c.args.erase).clock g.B.Before.clock (MayLeave (g.E.EraseDisk.model c.args.erase)) g.B.Before.left c.in-Ok.field-0.looks (home_pages (journal_of c.in-Ok.field-0.looks.pool)) note found.0 c.requires.clock c.requires.left looked (c.in-Ok.ensures.left honest (home_pages (journal_of c.in-Ok.field-0.looks.pool)) note found.0 found.1) in
    let start : Start = record { note = note; pages = found.0; clock = (g.E.EraseDisk.model (disk_of (journal_of c.in-Ok.field-0.looks.pool))).clock } in
    let now = (c.remember_on-looks.ensures.shown start found.0 guard).looked in
    let reported = now.noted ∙ c.in-Ok.ensures.note ∙ ap (λ n. note_octets n c.in-Ok.field-0.settings) count in
    ok_weaker _ _ c.assemble.result (λ archive is. is_noted _ c.in-Ok.field-0.settings _ _ _ is c.in-Ok.ensures.within reported) c.assemble.ensures.site

pub returns-in-Err-memory-clause-undamaged : goal.returns-in-Err-memory-clause-undamaged
returns-in-Err-memory-clause-undamaged g c honest site h r room =
    let count = c.blocks-2.ensures ∙ ap g.O.OnceDisk.block_count c.deref.ensures in
    let looked = c.in-Ok.ensures.looks honest site.homes site.note r.represents.pages r.represents.means in
    let guard = guarded_on g.E.EraseDisk (g.E.EraseDisk.model c.args.erase).clock g.B.Before.clock (MayLeave (g.E.EraseDisk.model c.args.erase)) g.B.Before.left c.in-Ok.field-0.looks site.homes site.note r.represents.pages c.requires.clock c.requires.left looked (c.in-Ok.ensures.left honest site.homes site.note r.represents.pages r.represents.means) in
    let start : Start = record { note = site.note; pages = r.represents.pages; clock = (g.E.EraseDisk.model (disk_of (journal_of c.in-Ok.field-0.looks.pool))).clock } in
    let reported = c.in-Ok.ensures.note ∙ ap (λ n. note_octets n c.in-Ok.field-0.settings) count in
    let same = settings_are site _ _ _ h c.in-Ok.field-0.settings (note_of (journal_of c.in-Ok.field-0.looks.pool)) r c.in-Ok.ensures.within reported looked.note in
    let pages_represent = represents_read site _ _ (g.O.OnceDisk.model c.args.pen) h c.in-Ok.field-0.settings r same in
    only_fault_or_memory c.in-Err-memory.error (err_at _ c.remember_on-looks.result.1 c.in-Err-memory.error c.in-Err-memory.is c.remember_on-looks.ensures.refused)
    (λ page e. c.remember_on-looks.ensures.sound (g.O.OnceDisk.block_count c.args.once.value) (g.O.OnceDisk.model c.args.pen) start r.represents.pages h guard pages_represent page (c.in-Err-memory.is ∙ ap (λ (x : OpenError). Err x) e))

pub returns-in-Err-clause-undamaged : goal.returns-in-Err-clause-undamaged
returns-in-Err-clause-undamaged g c honest site h r room =
    let count = c.blocks-2.ensures ∙ ap g.O.OnceDisk.block_count c.deref.ensures in
    c.in-Err.ensures.undamaged honest site.homes site.note r.represents.pages r.represents.means room site.settings r.noted.settings (note_read site _ _ _ h r ∙ ap (λ n. note_octets n site.settings) (sym count)) (rings_named site _ _ _ h r)

pub returns-in-Ok-memory-clause-left : goal.returns-in-Ok-memory-clause-left
returns-in-Ok-memory-clause-left g c honest homes note pages reads =
    let device = g.E.EraseDisk in
    let clock = (device.model (disk_of (journal_of c.in-Ok.field-0.looks.pool))).clock in
    let looked = c.in-Ok.ensures.looks honest homes note pages reads in
    let guard = guarded_on g.E.EraseDisk (g.E.EraseDisk.model c.args.erase).clock g.B.Before.clock (MayLeave (g.E.EraseDisk.model c.args.erase)) g.B.Before.left c.in-Ok.field-0.looks homes note pages c.requires.clock c.requires.left looked (c.in-Ok.ensures.left honest homes note pages reads) in
    let start : Start = record { note = note; pages = pages; clock = clock } in
    let now = c.remember_on-looks.ensures.shown start pages guard in
    subst (λ d. CrashRepresentsOr (device.model d) g.B.Before.clock g.B.Before.left homes note pages) (sym c.assemble.ensures.erase)
    (subst (λ n. CrashRepresentsOr (device.model (disk_of (journal_of c.remember_on-looks.result.0.pool))) g.B.Before.clock g.B.Before.left n note pages) (c.remember_on-looks.ensures.homes ∙ looked.homes) now.means)

pub returns-in-Err-memory-clause-left : goal.returns-in-Err-memory-clause-left
returns-in-Err-memory-clause-left g c honest homes note pages reads =
    let device = g.E.EraseDisk in
    let clock = (device.model (disk_of (journal_of c.in-Ok.field-0.looks.pool))).clock in
    let looked = c.in-Ok.ensures.looks honest homes note pages reads in
    let guard = guarded_on g.E.EraseDisk (g.E.EraseDisk.model c.args.erase).clock g.B.Before.clock (MayLeave (g.E.EraseDisk.model c.args.erase)) g.B.Before.left c.in-Ok.field-0.looks homes note pages c.requires.clock c.requires.left looked (c.in-Ok.ensures.left honest homes note pages reads) in
    let start : Start = record { note = note; pages = pages; clock = clock } in
    let now = c.remember_on-looks.ensures.shown start pages guard in
    subst (λ d. CrashRepresentsOr (device.model d) g.B.Before.clock g.B.Before.left homes note pages) (sym c.into_disk.ensures.disk)
    (subst (λ n. CrashRepresentsOr (device.model (disk_of (journal_of c.remember_on-looks.result.0.pool))) g.B.Before.clock g.B.Before.left n note pages) (c.remember_on-looks.ensures.homes ∙ looked.homes) now.means)

pub returns-in-Err-clause-left : goal.returns-in-Err-clause-left
returns-in-Err-clause-left g c honest homes note pages reads =
    let e0 = g.E.EraseDisk.model c.args.erase in
    means_weaker (g.E.EraseDisk.model c.in-Err.field-0.disk) e0.clock g.B.Before.clock (MayLeave e0) g.B.Before.left homes note pages c.requires.clock c.requires.left (c.in-Err.ensures.left honest homes note pages reads)

pub returns-in-Ok-memory-clause-none : goal.returns-in-Ok-memory-clause-none
returns-in-Ok-memory-clause-none g c honest none =
    let named = c.in-Ok.ensures.named honest in
    absurd (none named.homes named.note named.names)

pub returns-in-Err-memory-clause-none : goal.returns-in-Err-memory-clause-none
returns-in-Err-memory-clause-none g c honest none =
    let named = c.in-Ok.ensures.named honest in
    absurd (none named.homes named.note named.names)
