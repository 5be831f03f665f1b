use Rattle.std.proofs.Common.{◌++◌, ◌∷◌, [], None, ap, ◌∙◌}
use Rattle.disk_memory.specs.Burning.{Burning}
use Rattle.disk_memory.specs.Pen.{settled_of, waiting_of}
use Rattle.disk_memory.proofs.Results.{on_err}
use Rattle.disk_memory.proofs.Burnings.{burn_only, burn_done, failed_only, failed_unburnt, kept_failed, kept_whole}
use Rattle.disk_memory.proofs.once.MemOnceOnceDisk.burn.Goals as goal

pub returns-in_err-record-clause-only : goal.returns-in_err-record-clause-only
returns-in_err-record-clause-only c = failed_only c.args.n c.args.block.now None (settled_of c.args.pen.now) (waiting_of c.args.pen.now) _ _ c.record.ensures.settled c.in_err-record.ensures.err

pub returns-in_err-record-clause-unburnt : goal.returns-in_err-record-clause-unburnt
returns-in_err-record-clause-unburnt c =
    on_err c.from_residual.result _ (failed_unburnt c.args.n c.args.block.now None (settled_of c.args.pen.now) (waiting_of c.args.pen.now) _ _ c.record.ensures.settled c.in_err-record.ensures.err)

pub returns-then-fails-clause-only : goal.returns-then-fails-clause-only
returns-then-fails-clause-only c =
    failed_only c.args.n c.args.block.now _ (settled_of c.args.pen.now) (waiting_of c.args.pen.now) _ _ (ap settled_of c.fault-then-fails.ensures ∙ c.record.ensures.settled)
    (kept_failed c.args.n c.args.block.now c.cut_or-failure.result c.is_some-fails.result (waiting_of c.args.pen.now) _ c.is_some-fails.ensures c.if-fails.true
    (ap waiting_of c.fault-then-fails.ensures ∙ c.in_ok-record.ensures.ok ∙ ap (λ (b : Burning). waiting_of c.args.pen.now ++ b ∷ []) c.in-Ok.ensures))

pub returns-then-fails-clause-unburnt : goal.returns-then-fails-clause-unburnt
returns-then-fails-clause-unburnt c =
    failed_unburnt c.args.n c.args.block.now _ (settled_of c.args.pen.now) (waiting_of c.args.pen.now) _ _ (ap settled_of c.fault-then-fails.ensures ∙ c.record.ensures.settled)
    (kept_failed c.args.n c.args.block.now c.cut_or-failure.result c.is_some-fails.result (waiting_of c.args.pen.now) _ c.is_some-fails.ensures c.if-fails.true
    (ap waiting_of c.fault-then-fails.ensures ∙ c.in_ok-record.ensures.ok ∙ ap (λ (b : Burning). waiting_of c.args.pen.now ++ b ∷ []) c.in-Ok.ensures))

pub returns-clause-only : goal.returns-clause-only
returns-clause-only c =
    burn_only c.args.n c.args.block.now (settled_of c.args.pen.now) (waiting_of c.args.pen.now) _ _ c.record.ensures.settled
    (c.in_ok-record.ensures.ok ∙ ap (λ (b : Burning). waiting_of c.args.pen.now ++ b ∷ []) (c.in-Ok.ensures ∙ kept_whole c.args.n c.args.block.now c.cut_or-failure.result c.is_some-fails.result c.is_some-fails.ensures c.if-fails.false))

pub returns-clause-burnt : goal.returns-clause-burnt
returns-clause-burnt c =
    burn_done c.args.n c.args.block.now (settled_of c.args.pen.now) (waiting_of c.args.pen.now) _ _ c.record.ensures.settled
    (c.in_ok-record.ensures.ok ∙ ap (λ (b : Burning). waiting_of c.args.pen.now ++ b ∷ []) (c.in-Ok.ensures ∙ kept_whole c.args.n c.args.block.now c.cut_or-failure.result c.is_some-fails.result c.is_some-fails.ensures c.if-fails.false))
    c.requires.blank
