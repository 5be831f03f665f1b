use Rattle.std.proofs.Common.{◌≡◌, ◌⊎◌, ◌∙◌, ℕ, IfErr, ap, refl, subst}
use Rattle.disk_models.proofs.api.Moments.{leaves_none}
use Rattle.interleaving_core.specs.Steps.{empty}
use Rattle.disk_archive.specs.declared.create_error.CreateError.TheVariants as creations
use Rattle.disk_archive.specs.Creations.{homes_on, site_on}
use Rattle.disk_archive.specs.Notes.{note_octets}
use Rattle.disk_archive.specs.Outcome.{erase_after}
use Rattle.disk_archive.specs.Sites.{Rests, Site}
use Rattle.disk_archive.proofs.Empties.{after_creating, inside_creating, leaves_on, same_site}
use Rattle.disk_archive.proofs.archive.Archive.create.Goals as goal

pub returns-in-Ok-clause-memory : goal.returns-in-Ok-clause-memory
returns-in-Ok-clause-memory g c honest honest_pen =
    let s = c.args.settings in
    let count = g.O.OnceDisk.block_count c.args.once.value in
    let homes : c.home_count-homes.result ≡ homes_on (g.E.EraseDisk.octet_count c.args.erase) = c.home_count-homes.ensures.count ∙ ap homes_on c.size.ensures in
    let blocks : g.O.OnceDisk.block_count c.in-Ok.shelf.disk.value ≡ count = ap g.O.OnceDisk.block_count c.in-Ok.ensures.disk in
    let note : c.note_for-note.result ≡ note_octets count s = c.note_for-note.ensures.note ∙ ap (λ (b : ℕ). note_octets b s) (c.blocks-2.ensures ∙ ap g.O.OnceDisk.block_count c.deref.ensures) in
    subst (λ (site : Site). IfErr c.begin.result (λ refused. refused.error ≡ creations.OutOfMemory → (refused.erase ≡ c.args.erase) ⊎ Rests site (g.E.EraseDisk.model refused.erase) (g.O.OnceDisk.model refused.pen) (empty s.collectors)))
    (same_site s homes note blocks) (c.begin.ensures.memory honest)

pub returns-in-Ok-clause-inside : goal.returns-in-Ok-clause-inside
returns-in-Ok-clause-inside g c honest pen =
    let e = g.E.EraseDisk.model c.args.erase in
    let f = g.E.EraseDisk.model (erase_after c.begin.result) in
    let size = g.E.EraseDisk.octet_count c.args.erase in
    let count = g.O.OnceDisk.block_count c.args.once.value in
    let same = c.in-Ok.ensures.same pen in
    inside_creating (site_on c.args.settings size count) e f _ _ (g.met.E.EraseDisk.sound c.args.erase honest) (ap g.O.OnceDisk.model c.begin.ensures.pen ∙ same)
    (leaves_on c.args.settings size count e f _ _ (c.home_count-homes.ensures.count ∙ ap homes_on c.size.ensures) (c.note_for-note.ensures.note ∙ ap (λ (b : ℕ). note_octets b c.args.settings) (c.blocks-2.ensures ∙ ap g.O.OnceDisk.block_count c.deref.ensures)) (ap g.O.OnceDisk.block_count c.in-Ok.ensures.disk) same (c.begin.ensures.crash honest))

pub returns-in-Ok-clause-after : goal.returns-in-Ok-clause-after
returns-in-Ok-clause-after g c honest pen =
    let e = g.E.EraseDisk.model c.args.erase in
    let f = g.E.EraseDisk.model (erase_after c.begin.result) in
    let size = g.E.EraseDisk.octet_count c.args.erase in
    let count = g.O.OnceDisk.block_count c.args.once.value in
    let same = c.in-Ok.ensures.same pen in
    after_creating (site_on c.args.settings size count) e f _ _ (g.met.E.EraseDisk.sound c.args.erase honest) (g.met.E.EraseDisk.sound (erase_after c.begin.result) (c.begin.ensures.serves.honest.0 honest)) (ap g.O.OnceDisk.model c.begin.ensures.pen ∙ same)
    (leaves_on c.args.settings size count e f _ _ (c.home_count-homes.ensures.count ∙ ap homes_on c.size.ensures) (c.note_for-note.ensures.note ∙ ap (λ (b : ℕ). note_octets b c.args.settings) (c.blocks-2.ensures ∙ ap g.O.OnceDisk.block_count c.deref.ensures)) (ap g.O.OnceDisk.block_count c.in-Ok.ensures.disk) same (c.begin.ensures.crash honest))
