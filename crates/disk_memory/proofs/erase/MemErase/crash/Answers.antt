use Rattle.std.proofs.Common.{◌≡◌, ◌∙◌, ◌-◌, ◌++◌, ◌∷◌, [], List, length, take, drop, ap, subst, arith, take_all}
use Rattle.std.proofs.lemmas.List.{length-drop}
use Rattle.disk_memory.specs.declared.call.Call.{Call}
use Rattle.disk_memory.specs.declared.call.Call.TheVariants.{Sync}
use Rattle.disk_memory.specs.inner.Replaying.{SplitsAtSync, torn_calls}
use Rattle.disk_memory.proofs.Tearing.{crash_begins, crash_allowed}
use Rattle.disk_memory.proofs.erase.MemErase.crash.Goals as goal

pub returns-clause-begins : goal.returns-clause-begins
returns-clause-begins c =
    let calls : List Call = c.args.self.now.calls.items in
    let count = c.synced_count-synced.result in
    let split : SplitsAtSync count calls = subst (λ (l : List Call). SplitsAtSync count l) c.deref.ensures.value c.synced_count-synced.ensures in
    let rest : take (length c.deref-3.result.now - count) (drop count c.deref-3.result.now) ≡ drop count calls =
    take_all (length c.deref-3.result.now - count) (drop count c.deref-3.result.now) (omega (arith, length-drop count c.deref-3.result.now))
    ∙ ap (λ (l : List Call). drop count l) c.deref-3.ensures.value in
    crash_begins c.args.choice.now calls c.push.new.self.items count split
    (c.in_ok-push.ensures.items
    ∙ ap (λ (l : List Call). l ++ Sync ∷ [])
    (c.in_ok-tear.ensures
    ∙ ap (λ (l : List Call). l ++ torn_calls c.args.choice.now (take (length c.deref-3.result.now - count) (drop count c.deref-3.result.now)))
    (c.in_ok-disk.ensures ∙ ap (λ (l : List Call). take count l) c.deref-2.ensures.value)
    ∙ ap (λ (l : List Call). take count calls ++ torn_calls c.args.choice.now l) rest))

pub returns-clause-allowed : goal.returns-clause-allowed
returns-clause-allowed c = crash_allowed c.args.choice.now c.args.self.now.calls.items
