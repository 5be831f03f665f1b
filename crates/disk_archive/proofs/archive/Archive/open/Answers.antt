use Rattle.std.proofs.Common.{◌∙◌, ap, subst}
use Rattle.disk_models.specs.Erase.{Leaves}
use Rattle.disk_models.specs.Left.{WithSettled}
use Rattle.disk_archive.specs.Archives.{erase_state, once_state}
use Rattle.disk_archive.specs.Outcome.{erase_after}
use Rattle.disk_archive.specs.Sites.{LeftRepresents, Site}
use Rattle.disk_archive.proofs.Opened.{after_again, inside_again}
use Rattle.disk_archive.proofs.Reopened.{after_read, inside_read, ok_weaker, reads_found, stands_read}
use Rattle.disk_archive.proofs.archive.Archive.open.Goals as goal

-- ---- the disks are opened, and the first page is written again if it is older

pub returns-in-Ok-clause-opened : goal.returns-in-Ok-clause-opened
returns-in-Ok-clause-opened g c honest pen = ok_weaker _ _ c.restate.result (λ a again site h r. again h (c.in-Ok.ensures.represents honest pen site h r)) c.restate.ensures.represents

pub returns-in-Ok-clause-found : goal.returns-in-Ok-clause-found
returns-in-Ok-clause-found g c honest pen = ok_weaker _ _ c.restate.result (λ a again left site h found count noted k. again h (c.in-Ok.ensures.represents honest pen site h (reads_found site _ _ _ left h found count noted k))) c.restate.ensures.represents

pub returns-in-Ok-clause-site : goal.returns-in-Ok-clause-site
returns-in-Ok-clause-site g c honest = ok_weaker _ _ c.restate.result (λ a same site h r. same ∙ c.in-Ok.ensures.site honest site h r) c.restate.ensures.site

pub returns-in-Ok-clause-represents_all : goal.returns-in-Ok-clause-represents_all
returns-in-Ok-clause-represents_all g c honest pen = ok_weaker _ _ c.restate.result (λ a again site h rests count noted. stands_read a site _ _ _ h rests count noted (λ x r. again x (c.in-Ok.ensures.represents honest pen site x r))) c.restate.ensures.represents

pub returns-in-Ok-clause-restated : goal.returns-in-Ok-clause-restated
returns-in-Ok-clause-restated g c honest pen = ok_weaker _ _ c.restate.result (λ a restated site h r. restated h (c.in-Ok.ensures.represents honest pen site h r)) c.restate.ensures.restated

pub returns-in-Ok-clause-inside : goal.returns-in-Ok-clause-inside
returns-in-Ok-clause-inside g c honest pen site h r left pair =
    let a = c.in-Ok.archive in
    let e2 = g.E.EraseDisk.model (erase_after c.restate.result) in
    let opened = c.in-Ok.ensures.unburnt pen in
    let l = subst (λ (s : Site). Leaves (erase_state a) e2 (WithSettled (once_state a) (LeftRepresents s h))) (c.in-Ok.ensures.site honest site h r) (c.restate.ensures.left h (c.in-Ok.ensures.represents honest pen site h r)) in
    inside_again site _ _ (erase_state a) e2 _ _ (once_state a) _ h r opened (ap g.O.OnceDisk.model c.restate.ensures.pen ∙ opened) (c.in-Ok.ensures.left honest site.homes site.note r.represents.pages r.represents.means) l left pair

pub returns-in-Ok-clause-after : goal.returns-in-Ok-clause-after
returns-in-Ok-clause-after g c honest pen site h r left now =
    let a = c.in-Ok.archive in
    let e2 = g.E.EraseDisk.model (erase_after c.restate.result) in
    let opened = c.in-Ok.ensures.unburnt pen in
    let l = subst (λ (s : Site). Leaves (erase_state a) e2 (WithSettled (once_state a) (LeftRepresents s h))) (c.in-Ok.ensures.site honest site h r) (c.restate.ensures.left h (c.in-Ok.ensures.represents honest pen site h r)) in
    let sound = g.met.E.EraseDisk.sound _ (c.restate.ensures.erase.0 (c.in-Ok.ensures.erase.0 honest)) in
    after_again site _ _ (erase_state a) e2 _ (once_state a) _ h r sound opened (ap g.O.OnceDisk.model c.restate.ensures.pen ∙ opened) (c.in-Ok.ensures.left honest site.homes site.note r.represents.pages r.represents.means) l left now

-- ---- they aren't opened

pub returns-in-Err-clause-inside : goal.returns-in-Err-clause-inside
returns-in-Err-clause-inside g c honest pen site h r left pair = inside_read site _ _ _ _ _ _ h r (c.in-Err.ensures.unburnt pen) (c.in-Err.ensures.left honest site.homes site.note r.represents.pages r.represents.means) left pair

pub returns-in-Err-clause-after : goal.returns-in-Err-clause-after
returns-in-Err-clause-after g c honest pen site h r left now =
    after_read site _ _ _ _ _ h r (g.met.E.EraseDisk.sound _ (c.in-Err.ensures.erase.0 honest)) (c.in-Err.ensures.unburnt pen) (c.in-Err.ensures.left honest site.homes site.note r.represents.pages r.represents.means) left now
