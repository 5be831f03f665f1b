use Rattle.std.proofs.Common.{Err, ap, subst, sym}
use Rattle.query_threads.specs.Turns.{IsReportedAt}
use Rattle.query_threads.specs.declared.refusal.AskError.{AskError as AskRefusal}
use Rattle.disk_archive.specs.Archives.{is_down}
use Rattle.shared_archive.proofs.Asking.{among_then, not_looked, reads_from}
use Rattle.query_threads.specs.Troubles.{OnAskTrouble}
use Rattle.once_store.specs.Readers.{reader_disk}
use Rattle.shared_archive.specs.Reported.{LookFails}
use Rattle.shared_archive.proofs.Reporting.{look_fails}
use Rattle.shared_archive.proofs.Serving.{honest_of, same_blocks}
use Rattle.shared_archive.proofs.turns.look.Goals as goal

pub returns-in-Ok-clause-represents : goal.returns-in-Ok-clause-represents
returns-in-Ok-clause-represents g c = λ p k. let l = c.changed_look.ensures.leaves in let honest = honest_of c.args.archive.now p k in same_blocks c.args.archive.now p k c.changed_look.new.self p.history l.disk (l.blocks honest) (l.holds p.history (λ _. k.goes_on) (l.honest.0 honest))

pub returns-in-Err-clause-represents : goal.returns-in-Err-clause-represents
returns-in-Err-clause-represents g c = λ p k. let l = c.changed_look.ensures.leaves in let honest = honest_of c.args.archive.now p k in same_blocks c.args.archive.now p k c.changed_look.new.self p.history l.disk (l.blocks honest) (l.holds p.history (λ _. k.goes_on) (l.honest.0 honest))

pub returns-in-Ok-clause-settled : goal.returns-in-Ok-clause-settled
returns-in-Ok-clause-settled g c = λ p k. c.in-Ok.ensures.below (honest_of c.args.archive.now p k) p.history (λ _. k.goes_on)

pub returns-in-Ok-clause-walked : goal.returns-in-Ok-clause-walked
returns-in-Ok-clause-walked g c = λ p k disk among walked. c.in-Ok.ensures.walked (honest_of c.args.archive.now p k) p.history (λ _. k.goes_on) (reads_from c.args.archive.now c.args.reader.now p k disk among) walked

pub returns-in-Ok-clause-answer : goal.returns-in-Ok-clause-answer
returns-in-Ok-clause-answer g c = λ p k disk among walked. c.in-Ok.ensures.answer (honest_of c.args.archive.now p k) p.history (λ _. k.goes_on) (reads_from c.args.archive.now c.args.reader.now p k disk among) walked

pub returns-in-Ok-clause-kept : goal.returns-in-Ok-clause-kept
returns-in-Ok-clause-kept g c = λ p k disk among.
    let a = c.args.archive.now in
    let honest = honest_of a p k in
    let from = reads_from a c.args.reader.now p k disk among in
    let l = c.changed_look.ensures.leaves in
    among_then a c.changed_look.new.self c.args.reader.now c.changed_look.new.reader p k l.disk (l.blocks honest) disk among (c.changed_look.ensures.reads honest p.history (λ _. k.goes_on) from) c.changed_look.ensures.on_disk

pub returns-in-Err-clause-kept : goal.returns-in-Err-clause-kept
returns-in-Err-clause-kept g c = λ p k disk among.
    let a = c.args.archive.now in
    let honest = honest_of a p k in
    let from = reads_from a c.args.reader.now p k disk among in
    let l = c.changed_look.ensures.leaves in
    among_then a c.changed_look.new.self c.args.reader.now c.changed_look.new.reader p k l.disk (l.blocks honest) disk among (c.changed_look.ensures.reads honest p.history (λ _. k.goes_on) from) c.changed_look.ensures.on_disk

pub returns-in-Err-clause-reported : goal.returns-in-Err-clause-reported
returns-in-Err-clause-reported g c = λ p k disk among.
    let a = c.args.archive.now in
    let honest = honest_of a p k in
    let from = reads_from a c.args.reader.now p k disk among in
    subst (λ (r : AskRefusal). IsReportedAt r p.history c.args.walk.now.question.to) (sym c.ask_refusal.ensures.why)
    (not_looked (is_down a) p.history c.args.walk.now.question.to c.in-Err.refusal (c.in-Err.ensures.above honest p.history (λ _. k.goes_on))
    (λ page is. c.in-Err.ensures.sound honest p.history (λ _. k.goes_on) from page (ap Err is)) (λ block is. c.in-Err.ensures.undamaged honest p.history (λ _. k.goes_on) from block (ap Err is)))

pub returns-in-Err-clause-trouble : goal.returns-in-Err-clause-trouble
returns-in-Err-clause-trouble g c =
    let a = c.args.archive.now in
    let e = c.in-Err.ensures in
    subst (λ (r : AskRefusal). OnAskTrouble (λ t. LookFails a t c.changed_look.new.self) r) (sym c.ask_refusal.ensures.why) (look_fails a c.changed_look.new.self (reader_disk c.args.reader.now) c.in-Err.refusal e.recovery e.failed e.leaves.down)
