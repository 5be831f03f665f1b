use Rattle.std.proofs.Common.{◌≡◌, ◌∙◌, refl, sym, ap, subst, Err, ⊎_elim}
use Rattle.std.proofs.lemmas.Result.{IfErr-weaker, IfOk-weaker}
use Rattle.board.specs.Past.{Past}
use Rattle.disk_models.specs.Once.{OnceState}
use Rattle.query_threads.specs.Looks.{AreTheSettled}
use Rattle.query_threads.specs.declared.refusal.Trouble.{Trouble}
use Rattle.disk_archive.specs.Archives.{is_down}
use Rattle.disk_archive.specs.Sites.{Site}
use Rattle.shared_archive.specs.Represented.{RepresentsPast}
use Rattle.shared_archive.specs.Reopened.{Fails}
use Rattle.shared_archive.proofs.Renewing.{represented_on, open_fails, rest_reads}
use Rattle.shared_archive.proofs.opening.open_synced.Goals as goal

pub returns-in-Ok-clause-opened : goal.returns-in-Ok-clause-opened
returns-in-Ok-clause-opened g c settled p r =
    let once = g.O.OnceDisk in
    let k = rest_reads g.E.EraseDisk once c.args.disks c.args.ring p r in
    let e = c.in-Ok.ensures in
    let q : Past = record { history = k.0; blocks = p.blocks } in
    let represented = represented_on c.in-Ok.archive k.0 p c.args.disks.once.value (once.model c.args.disks.pen) (e.opened r.erasable r.burnable r.site k.0 k.2) e.disk (e.unburnt r.burnable) r.blocks in
    let up = (e.opened r.erasable r.burnable r.site k.0 k.2).maps.keeps.usable in
    IfOk-weaker c.with_ring.result _ _ (λ x same. (ap is_down same ∙ up, q, k.1, refl, subst (λ y. RepresentsPast y q) (sym same) represented)) c.with_ring.ensures.same

pub returns-in-Ok-clause-kept : goal.returns-in-Ok-clause-kept
returns-in-Ok-clause-kept g c settled p r =
    let k = rest_reads g.E.EraseDisk g.O.OnceDisk c.args.disks c.args.ring p r in
    let site = c.in-Ok.ensures.site r.erasable r.site k.0 k.2 in
    IfErr-weaker c.with_ring.result _ _ (λ u never. absurd never) (c.with_ring.ensures.other (ap (λ (s : Site). s.settings.ring) site ∙ r.pages))

pub returns-in-Ok-clause-trouble : goal.returns-in-Ok-clause-trouble
returns-in-Ok-clause-trouble g c =
    let erase = g.E.EraseDisk in
    let once = g.O.OnceDisk in
    IfErr-weaker c.with_ring.result _ _
    (λ u is. subst (λ (t : Trouble). Fails ⊥ (erase.fault_count c.args.disks.erase) (erase.fault_count u.disks.erase) (once.pen_fault_count c.args.disks.pen) (once.pen_fault_count u.disks.pen) t) (sym is) tt)
    c.with_ring.ensures.trouble

pub returns-in-Err-clause-kept : goal.returns-in-Err-clause-kept
returns-in-Err-clause-kept g c settled p r =
    let once = g.O.OnceDisk in
    let k = rest_reads g.E.EraseDisk once c.args.disks c.args.ring p r in
    let e = c.in-Err.ensures in
    let u = c.in-Err.field-0 in
    let disk : u.once.value ≡ c.args.disks.once.value = e.disk in
    let same : once.model u.pen ≡ once.model c.args.disks.pen = e.unburnt r.burnable in
    let pen : once.honest c.args.disks.once.value u.pen = e.once.0 r.burnable in
    record {
      erasable = e.erase.0 r.erasable;
      burnable = subst (λ d. once.honest d u.pen) (sym disk) pen;
      site = r.site;
      count = r.count ∙ ap once.block_count (sym disk);
      noted = r.noted;
      pages = r.pages;
      rests = λ left now. ⊎_elim (λ was. r.rests left was) (λ is. (k.0, k.1, is)) (e.after r.erasable r.burnable r.site k.0 k.2 left now);
      blocks = subst (λ d. AreTheSettled (once.block_count d) (once.model u.pen).settled p.blocks) (sym disk)
          (subst (λ (y : OnceState). AreTheSettled (once.block_count c.args.disks.once.value) y.settled p.blocks) (sym same) r.blocks);
    }

pub returns-in-Err-clause-trouble : goal.returns-in-Err-clause-trouble
returns-in-Err-clause-trouble g c =
    let erase = g.E.EraseDisk in
    let once = g.O.OnceDisk in
    let u = c.in-Err.field-0 in
    subst (λ (t : Trouble). Fails ⊥ (erase.fault_count c.args.disks.erase) (erase.fault_count u.erase) (once.pen_fault_count c.args.disks.pen) (once.pen_fault_count u.pen) t) (sym c.open_trouble.ensures.why)
    (open_fails _ _ _ _ u.error (λ is. c.in-Err.ensures.counted (ap Err is)))
