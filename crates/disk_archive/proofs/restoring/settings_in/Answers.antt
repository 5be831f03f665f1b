use Rattle.std.proofs.Common.{◌≡◌, ◌∙◌, not, slice_index, subst, sym, ap, refl}
use Rattle.std.specs.Bool.{IsTrue}
use Rattle.std.proofs.lemmas.Bool.{false≢true}
use Rattle.archive_pages.specs.Places.{AreSettings}
use Rattle.disk_archive.specs.Notes.{note_octets}
use Rattle.disk_archive.proofs.NoteReading.{same_octets, settings_read}
use Rattle.disk_archive.proofs.restoring.settings_in.Goals as goal

pub returns-then-not-is_within-clause-none : goal.returns-then-not-is_within-clause-none
returns-then-not-is_within-clause-none c s are reported =
    let is = settings_read c.args.note.now c.args.blocks (slice_index c.args.note.now 8) c.u16_at.result s are reported refl (sym c.u16_at.ensures.number) in
    false≢true (subst IsTrue c.if-not-is_within.true (c.is_within.ensures.1 (subst AreSettings (sym is) are)))

pub returns-then-ne-clause-none : goal.returns-then-ne-clause-none
returns-then-ne-clause-none c s are reported =
    let is = settings_read c.args.note.now c.args.blocks (slice_index c.args.note.now 8) c.u16_at.result s are reported refl (sym c.u16_at.ensures.number) in
    let same : c.note_for.result ≡ c.args.note.now = c.note_for.ensures.note ∙ ap (note_octets c.args.blocks) is ∙ sym reported in
    false≢true (sym (c.ne.ensures ∙ ap not (same_octets c.note_for.result c.args.note.now same)) ∙ c.if-ne.true)
