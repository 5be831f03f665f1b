use Rattle.std.proofs.Common.{◌∙◌, ap, sym, subst}
use Rattle.page_journal.specs.Journal.{home_pages, note_of}
use Rattle.buffer_pool.specs.Pool.{journal_of}
use Rattle.once_store.specs.Shelves.{disk_of}
use Rattle.disk_archive.specs.Notes.{note_octets}
use Rattle.disk_archive.specs.Sites.{IsNoted}
use Rattle.disk_archive.proofs.Reopened.{represents_found}
use Rattle.disk_archive.proofs.archive.Archive.assemble.Goals as goal

pub returns-in-Ok-clause-represents : goal.returns-in-Ok-clause-represents
returns-in-Ok-clause-represents g c honest start shown h reported s first head_represents mirrors =
    let noted : IsNoted (record { settings = c.args.settings; homes = home_pages (journal_of c.new.result.pool); note = note_of (journal_of c.new.result.pool); blocks = g.O.OnceDisk.block_count (disk_of c.in-Ok.shelf) }) =
    record { settings = c.requires.settings; note = ap (λ p. note_of (journal_of p)) c.new.ensures.pool ∙ reported ∙ ap (λ d. note_octets (g.O.OnceDisk.block_count d) c.args.settings) (sym c.in-Ok.ensures.disk) } in
    represents_found _ c.args.looks start shown h c.args.once.value (g.O.OnceDisk.model c.args.pen) noted s c.new.ensures.pool c.in-Ok.ensures.disk (c.in-Ok.ensures.same honest)
    (subst (λ d. g.O.OnceDisk.honest d c.in-Ok.shelf.pen) (sym c.in-Ok.ensures.disk) (c.in-Ok.ensures.honest.0 honest)) c.requires.valid first head_represents mirrors
