use Rattle.std.proofs.Common.{Err, ap, subst, sym}
use Rattle.query_threads.specs.Turns.{IsReported}
use Rattle.query_threads.specs.declared.refusal.AskError.{AskError as AskRefusal}
use Rattle.disk_archive.specs.Archives.{is_down, once_of, once_state}
use Rattle.disk_archive.specs.Cursors.{asks}
use Rattle.disk_archive.specs.Descents.{Descends, GoesFurther}
use Rattle.disk_archive.specs.declared.descending.Descent.{Descent}
use Rattle.shared_archive.proofs.Asking.{located_past, not_answered}
use Rattle.shared_archive.proofs.Serving.{honest_of, same_blocks}
use Rattle.query_threads.specs.Troubles.{OnAskTrouble}
use Rattle.shared_archive.specs.Reported.{Reports}
use Rattle.shared_archive.proofs.Reporting.{ask_reports}
use Rattle.shared_archive.proofs.turns.descend.Goals as goal

pub returns-in-Ok-Done-clause-represents : goal.returns-in-Ok-Done-clause-represents
returns-in-Ok-Done-clause-represents g c = λ p k. same_blocks c.args.archive.now p k c.descend.new.self p.history c.descend.ensures.disk c.descend.ensures.blocks (c.descend.ensures.holds p.history (λ _. k.goes_on) (c.descend.ensures.honest.0 (honest_of c.args.archive.now p k)))

pub returns-in-Ok-Again-clause-represents : goal.returns-in-Ok-Again-clause-represents
returns-in-Ok-Again-clause-represents g c = λ p k. same_blocks c.args.archive.now p k c.descend.new.self p.history c.descend.ensures.disk c.descend.ensures.blocks (c.descend.ensures.holds p.history (λ _. k.goes_on) (c.descend.ensures.honest.0 (honest_of c.args.archive.now p k)))

pub returns-in-Ok-Historical-clause-represents : goal.returns-in-Ok-Historical-clause-represents
returns-in-Ok-Historical-clause-represents g c = λ p k. same_blocks c.args.archive.now p k c.descend.new.self p.history c.descend.ensures.disk c.descend.ensures.blocks (c.descend.ensures.holds p.history (λ _. k.goes_on) (c.descend.ensures.honest.0 (honest_of c.args.archive.now p k)))

pub returns-in-Err-clause-represents : goal.returns-in-Err-clause-represents
returns-in-Err-clause-represents g c = λ p k. same_blocks c.args.archive.now p k c.descend.new.self p.history c.descend.ensures.disk c.descend.ensures.blocks (c.descend.ensures.holds p.history (λ _. k.goes_on) (c.descend.ensures.honest.0 (honest_of c.args.archive.now p k)))

pub returns-in-Ok-Historical-clause-fits : goal.returns-in-Ok-Historical-clause-fits
returns-in-Ok-Historical-clause-fits g c = (subst (λ (x : Descent). GoesFurther c.args.cursor.now c.descend.new.cursor x) c.in-Ok-Historical.field-0-is c.in-Ok-Historical.ensures.further).1

pub returns-in-Ok-Done-clause-settled : goal.returns-in-Ok-Done-clause-settled
returns-in-Ok-Done-clause-settled g c = λ p k. c.in-Ok-Done.ensures.below (honest_of c.args.archive.now p k) p.history (λ _. k.goes_on)

pub returns-in-Ok-Again-clause-settled : goal.returns-in-Ok-Again-clause-settled
returns-in-Ok-Again-clause-settled g c = λ p k. c.in-Ok-Again.ensures.below (honest_of c.args.archive.now p k) p.history (λ _. k.goes_on)

pub returns-in-Ok-Historical-clause-settled : goal.returns-in-Ok-Historical-clause-settled
returns-in-Ok-Historical-clause-settled g c = λ p k. c.in-Ok-Historical.ensures.below (honest_of c.args.archive.now p k) p.history (λ _. k.goes_on)

pub returns-in-Ok-Done-clause-gives : goal.returns-in-Ok-Done-clause-gives
returns-in-Ok-Done-clause-gives g c = λ p k gathered.
    let a = c.args.archive.now in
    subst (λ (x : Descent). Descends (g.O.OnceDisk.block_count (once_of a)) (once_state a).settled p.history c.args.cursor.now c.descend.new.cursor x) c.in-Ok-Done.field-0-is (c.in-Ok-Done.ensures.descends (honest_of a p k) p.history (λ _. k.goes_on) gathered)

pub returns-in-Ok-Again-clause-gives : goal.returns-in-Ok-Again-clause-gives
returns-in-Ok-Again-clause-gives g c = λ p k gathered. c.descend.ensures.gathered (honest_of c.args.archive.now p k) p.history (λ _. k.goes_on) gathered

pub returns-in-Ok-Historical-clause-gives : goal.returns-in-Ok-Historical-clause-gives
returns-in-Ok-Historical-clause-gives g c = λ p k gathered.
    let a = c.args.archive.now in
    let count = g.O.OnceDisk.block_count (once_of a) in
    let located = subst (λ (x : Descent). Descends count (once_state a).settled p.history c.args.cursor.now c.descend.new.cursor x) c.in-Ok-Historical.field-0-is (c.in-Ok-Historical.ensures.descends (honest_of a p k) p.history (λ _. k.goes_on) gathered) in
    located_past count (once_state a).settled c.in-Ok-Historical.errand c.descend.new.cursor p k.blocks located

pub returns-in-Err-clause-reported : goal.returns-in-Err-clause-reported
returns-in-Err-clause-reported g c = λ p k.
    let a = c.args.archive.now in
    subst (λ (r : AskRefusal). IsReported r p.history (asks c.args.cursor.now)) (sym c.ask_refusal.ensures.why)
    (not_answered (is_down a) p.history (asks c.args.cursor.now) c.in-Err.refusal (c.in-Err.ensures.above (honest_of a p k) p.history (λ _. k.goes_on))
    (λ page is. c.in-Err.ensures.sound (honest_of a p k) p.history (λ _. k.goes_on) page (ap Err is)) (λ block is. c.in-Err.ensures.undamaged block (ap Err is)))

pub returns-in-Err-clause-trouble : goal.returns-in-Err-clause-trouble
returns-in-Err-clause-trouble g c =
    let a = c.args.archive.now in
    let e = c.in-Err.ensures in
    subst (λ (r : AskRefusal). OnAskTrouble (λ t. Reports a t c.descend.new.self) r) (sym c.ask_refusal.ensures.why)
    (ask_reports a c.descend.new.self c.in-Err.refusal e.recovery e.counted e.down (λ honest h holds page is. e.sound honest h holds page (ap Err is)) (λ block is. e.undamaged block (ap Err is)))
