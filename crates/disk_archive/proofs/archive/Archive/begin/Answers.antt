use Rattle.std.proofs.Common.{◌∙◌, inl, inr, ⊎_elim, List, sym, subst}
use Rattle.page_journal.specs.Layout.{Image, homes_from, pages_of}
use Rattle.page_journal.specs.Recovers.{laid, AreBelow}
use Rattle.once_store.specs.Shelves.{disk_of, pen_of}
use Rattle.interleaving_core.specs.Steps.{empty}
use Rattle.disk_archive.specs.Sites.{Rests, Site}
use Rattle.disk_archive.proofs.Empties.{headed_on, leaves_first, rests_first}
use Rattle.disk_archive.proofs.archive.Archive.begin.Goals as goal

pub make_pages-requires-clause-below : goal.make_pages-requires-clause-below
make_pages-requires-clause-below g c = subst (λ (l : List Image). AreBelow c.args.homes (pages_of l)) (sym c.deref.ensures.value) (c.in-Ok.ensures.below c.args.homes c.requires.large)

pub returns-in-Ok-make_pages-clause-represents : goal.returns-in-Ok-make_pages-clause-represents
returns-in-Ok-make_pages-clause-represents g c honest honest_pen =
    let s = c.args.settings in
    let count = g.O.OnceDisk.block_count (disk_of c.args.shelf) in
    let octet = (g.E.EraseDisk.model c.args.erase).octet in
    let headed = headed_on count s (g.O.OnceDisk.model (pen_of c.args.shelf)) c.in-Ok.field-0.head _ c.deref.result.now octet c.args.homes c.deref.ensures.value c.requires.large c.in-Ok.ensures.headed in
    record {
      honest = (c.in-Ok-make_pages.ensures.serves.honest.0 honest, honest_pen);
      noted = record { settings = c.requires.settings; note = c.in-Ok-make_pages.ensures.note ∙ c.requires.noted };
      pages = laid c.deref.result.now (homes_from octet 0 c.args.homes);
      maps = c.in-Ok-make_pages.ensures.maps honest;
      valid = headed.valid;
      first = headed.first;
      head_represents = headed.head_represents;
      mirrors = c.in-Ok.ensures.mirrors;
    }

pub returns-in-Err-clause-memory : goal.returns-in-Err-clause-memory
returns-in-Err-clause-memory g c honest is =
    let s = c.args.settings in
    let count = g.O.OnceDisk.block_count (disk_of c.args.shelf) in
    let o = g.O.OnceDisk.model (pen_of c.args.shelf) in
    let e = g.E.EraseDisk.model c.in-Err.field-0.disk in
    let octet = (g.E.EraseDisk.model c.args.erase).octet in
    let site : Site = record { settings = s; homes = c.args.homes; note = c.args.note; blocks = count } in
    let headed = headed_on count s o c.in-Ok.field-0.head _ c.deref.result.now octet c.args.homes c.deref.ensures.value c.requires.large c.in-Ok.ensures.headed in
    ⊎_elim (λ same. inl same)
    (λ means. inr (subst (λ p. Rests site e (g.O.OnceDisk.model p) (empty s.collectors)) (sym c.into_disk-once-in-Err.ensures.pen)
    (rests_first site c.in-Ok.field-0.head (laid c.deref.result.now (homes_from octet 0 c.args.homes)) (empty s.collectors) e o headed means)))
    (c.in-Err.ensures.memory honest is)

pub returns-in-Ok-make_pages-clause-crash : goal.returns-in-Ok-make_pages-clause-crash
returns-in-Ok-make_pages-clause-crash g c honest =
    let count = g.O.OnceDisk.block_count (disk_of c.args.shelf) in
    let o = g.O.OnceDisk.model (pen_of c.args.shelf) in
    let octet = (g.E.EraseDisk.model c.args.erase).octet in
    let site : Site = record { settings = c.args.settings; homes = c.args.homes; note = c.args.note; blocks = count } in
    let headed = headed_on count c.args.settings o c.in-Ok.field-0.head _ c.deref.result.now octet c.args.homes c.deref.ensures.value c.requires.large c.in-Ok.ensures.headed in
    leaves_first site c.in-Ok.field-0.head (laid c.deref.result.now (homes_from octet 0 c.args.homes)) _ _ o headed (c.in-Ok-make_pages.ensures.crash honest)

pub returns-in-Err-clause-crash : goal.returns-in-Err-clause-crash
returns-in-Err-clause-crash g c honest =
    let count = g.O.OnceDisk.block_count (disk_of c.args.shelf) in
    let o = g.O.OnceDisk.model (pen_of c.args.shelf) in
    let octet = (g.E.EraseDisk.model c.args.erase).octet in
    let site : Site = record { settings = c.args.settings; homes = c.args.homes; note = c.args.note; blocks = count } in
    let headed = headed_on count c.args.settings o c.in-Ok.field-0.head _ c.deref.result.now octet c.args.homes c.deref.ensures.value c.requires.large c.in-Ok.ensures.headed in
    leaves_first site c.in-Ok.field-0.head (laid c.deref.result.now (homes_from octet 0 c.args.homes)) _ _ o headed (c.in-Err.ensures.crash honest)
