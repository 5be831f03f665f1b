use Rattle.std.proofs.Common.{◌++◌, ◌∷◌, [], List, ap, ◌∙◌, ⊎_elim}
use Rattle.std.proofs.lemmas.Result.{on_ok_weaker}
use Rattle.disk_memory.specs.Memory.{calls_of}
use Rattle.disk_memory.specs.declared.call.Call.{Call}
use Rattle.disk_memory.specs.declared.call.Call.TheVariants.{Sync}
use Rattle.disk_memory.proofs.Replaying.{same_lingers, more_lingers, more_synced}
use Rattle.disk_memory.proofs.Results.{ok_or_err}
use Rattle.disk_memory.proofs.erase.MemEraseEraseDisk.sync.Goals as goal

pub returns-then-sync_fails-clause-lingers : goal.returns-then-sync_fails-clause-lingers
returns-then-sync_fails-clause-lingers c = same_lingers _ _ (ap calls_of c.fault.ensures ∙ c.sync_fails.ensures.calls)

pub returns-clause-syncs : goal.returns-clause-syncs
returns-clause-syncs c = on_ok_weaker c.record.result (λ is. more_synced _ _ (is ∙ ap (λ (l : List Call). l ++ Sync ∷ []) c.sync_fails.ensures.calls)) c.record.ensures.ok

pub returns-clause-lingers : goal.returns-clause-lingers
returns-clause-lingers c = ⊎_elim
    (λ is. more_lingers _ _ (is ∙ ap (λ (l : List Call). l ++ Sync ∷ []) c.sync_fails.ensures.calls))
    (λ is. same_lingers _ _ (is ∙ c.sync_fails.ensures.calls))
    (ok_or_err c.record.result _ _ c.record.ensures.ok c.record.ensures.err)
