use Rattle.std.proofs.Common.{◌∙◌, refl, sym, ap, subst, slice_set}
use Rattle.disk_models.specs.Erase.{Leaves}
use Rattle.disk_models.specs.Left.{WithSettled}
use Rattle.page_journal.specs.Journal.{disk_of, home_pages, note_of}
use Rattle.buffer_pool.specs.Pool.{Maps, journal_of}
use Rattle.archive_head.specs.Head.{head_octets}
use Rattle.disk_archive.specs.Archives.{erase_state, once_state, site_of}
use Rattle.disk_archive.specs.Sites.{LeftRepresents}
use Rattle.disk_archive.proofs.Calling.{done}
use Rattle.disk_archive.proofs.Restated.{headed_again, leaves_again, restated_on, some_pages}
use Rattle.disk_archive.proofs.archive.Archive.restate.Goals as goal

pub returns-in-Ok-clause-represents : goal.returns-in-Ok-clause-represents
returns-in-Ok-clause-represents g c h k =
    let a = c.args.self in
    let device = g.E.EraseDisk in
    let was = sym c.into_pool-pool.ensures.pool in
    let honest = subst (λ p. device.honest (disk_of (journal_of p))) was k.honest.0 in
    let shown = slice_set k.pages 0 (head_octets a.head) in
    let written = c.in-Ok.ensures.written honest k.pages (subst (λ p. Maps device p k.pages) was k.maps) in
    let now = c.new.ensures.pool in
    done a _ h _ refl refl refl k.noted
    (ap (λ p. home_pages (journal_of p)) now ∙ c.restate_head.ensures.journal.homes ∙ ap (λ p. home_pages (journal_of p)) c.into_pool-pool.ensures.pool)
    (ap (λ p. note_of (journal_of p)) now ∙ c.restate_head.ensures.journal.note ∙ ap (λ p. note_of (journal_of p)) c.into_pool-pool.ensures.pool)
    (subst (λ p. device.honest (disk_of (journal_of p))) (sym now) (c.restate_head.ensures.journal.serves.honest.0 honest), k.honest.1)
    (subst (λ p. Maps device p shown) (sym now) written) k.mirrors (headed_again a h k (some_pages a h k a.homes))

pub returns-in-Ok-clause-left : goal.returns-in-Ok-clause-left
returns-in-Ok-clause-left g c h k =
    let a = c.args.self in
    let device = g.E.EraseDisk in
    let was = sym c.into_pool-pool.ensures.pool in
    let honest = subst (λ p. device.honest (disk_of (journal_of p))) was k.honest.0 in
    let l = c.restate_head.ensures.crash honest k.pages (subst (λ p. Maps device p k.pages) was k.maps) in
    subst (λ p. Leaves (erase_state a) (device.model (disk_of (journal_of p))) (WithSettled (once_state a) (LeftRepresents (site_of a) h))) (sym c.new.ensures.pool)
    (leaves_again a c.into_pool-pool.result _ h k (some_pages a h k a.homes) c.into_pool-pool.ensures.pool l)

pub returns-in-Ok-clause-restated : goal.returns-in-Ok-clause-restated
returns-in-Ok-clause-restated g c h k =
    let a = c.args.self in
    let device = g.E.EraseDisk in
    let was = sym c.into_pool-pool.ensures.pool in
    let honest = subst (λ p. device.honest (disk_of (journal_of p))) was k.honest.0 in
    let shown = slice_set k.pages 0 (head_octets a.head) in
    let written = c.in-Ok.ensures.written honest k.pages (subst (λ p. Maps device p k.pages) was k.maps) in
    restated_on a _ h k (some_pages a h k a.homes) refl (subst (λ p. Maps device p shown) (sym c.new.ensures.pool) written)

pub returns-clause-left : goal.returns-clause-left
returns-clause-left g c h k =
    let a = c.args.self in
    let device = g.E.EraseDisk in
    let was = sym c.into_pool-pool.ensures.pool in
    let honest = subst (λ p. device.honest (disk_of (journal_of p))) was k.honest.0 in
    let l = c.restate_head.ensures.crash honest k.pages (subst (λ p. Maps device p k.pages) was k.maps) in
    subst (λ d. Leaves (erase_state a) (device.model d) (WithSettled (once_state a) (LeftRepresents (site_of a) h))) (sym c.into_disk.ensures.disk)
    (leaves_again a c.into_pool-pool.result _ h k (some_pages a h k a.homes) c.into_pool-pool.ensures.pool l)
