use Rattle.std.proofs.Common.{◌∙◌, refl}
use Rattle.std.proofs.lemmas.Result.{IfErr-weaker, on_ok_weaker}
use Rattle.shared_archive.proofs.Renewing.{failed_kept, fails_of, lacks_renewed, stays_lacking}
use Rattle.shared_archive.proofs.held.Held.open_renewed.Goals as goal

pub returns-after-is_ok-clause-done : goal.returns-after-is_ok-clause-done
returns-after-is_ok-clause-done g c p k = c.open_on-opened.ensures.done p (lacks_renewed c.args.self.now c.args.disks c.renew.new.disks p c.renew.ensures.rests k)

pub returns-after-is_ok-clause-disk : goal.returns-after-is_ok-clause-disk
returns-after-is_ok-clause-disk g c = c.open_on-opened.ensures.disk ∙ c.renew.ensures.once

pub returns-after-is_ok-clause-opens : goal.returns-after-is_ok-clause-opens
returns-after-is_ok-clause-opens g c = on_ok_weaker c.open_on-opened.result (λ o. (o.0, λ p k. o.1 p (lacks_renewed c.args.self.now c.args.disks c.renew.new.disks p c.renew.ensures.rests k))) c.open_on-opened.ensures.opens

pub returns-after-is_ok-clause-trouble : goal.returns-after-is_ok-clause-trouble
returns-after-is_ok-clause-trouble g c = IfErr-weaker c.open_on-opened.result _ _ (λ t k. fails_of ⊥ _ _ _ _ _ _ t c.in-Ok.ensures.quiet.0 c.in-Ok.ensures.quiet.1 k) c.open_on-opened.ensures.trouble

pub returns-in-Err-clause-done : goal.returns-in-Err-clause-done
returns-in-Err-clause-done g c p k = (p, stays_lacking c.args.self.now c.args.disks p k, c.put_disks.ensures.kept p (lacks_renewed c.args.self.now c.args.disks c.renew.new.disks p c.renew.ensures.rests k), refl)

pub returns-in-Err-clause-disk : goal.returns-in-Err-clause-disk
returns-in-Err-clause-disk g c = c.put_disks.ensures.disk ∙ c.renew.ensures.once

pub returns-in-Err-clause-trouble : goal.returns-in-Err-clause-trouble
returns-in-Err-clause-trouble g c = failed_kept _ _ _ _ _ _ c.put_disks.ensures.erase c.put_disks.ensures.pen c.in-Err.ensures.counted
