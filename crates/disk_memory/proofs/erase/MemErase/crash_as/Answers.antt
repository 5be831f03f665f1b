use Rattle.std.proofs.Common.{◌≡◌, ◌∙◌, ◌-◌, ◌++◌, ◌∷◌, [], List, Some, length, map, replicate, take, drop, ap, subst, arith, take_all}
use Rattle.std.proofs.lemmas.List.{length-drop}
use Rattle.disk_memory.specs.declared.call.Call.{Call}
use Rattle.disk_memory.specs.declared.call.Call.TheVariants.{Sync}
use Rattle.disk_memory.specs.Replay.{image_of, torn_call}
use Rattle.disk_memory.specs.inner.Replaying.{SplitsAtSync}
use Rattle.disk_memory.proofs.Tearing.{all_calls, crash_begins, crash_allowed}
use Rattle.disk_memory.proofs.erase.MemErase.crash_as.Goals as goal

pub returns-clause-begins : goal.returns-clause-begins
returns-clause-begins c =
    let calls : List Call = c.args.self.now.calls.items in
    let count = c.synced_count-synced.result in
    let split : SplitsAtSync count calls = subst (λ (l : List Call). SplitsAtSync count l) c.deref.ensures.value c.synced_count-synced.ensures in
    let rest : take (length c.deref-3.result.now - count) (drop count c.deref-3.result.now) ≡ drop count calls =
    take_all (length c.deref-3.result.now - count) (drop count c.deref-3.result.now) (omega (arith, length-drop count c.deref-3.result.now))
    ∙ ap (λ (l : List Call). drop count l) c.deref-3.ensures.value in
    let torn = c.args.torn.now in
    let choice = replicate (length (image_of calls).waiting) torn in
    crash_begins choice calls c.push.new.self.items count split
    (c.in_ok-push.ensures.items
    ∙ ap (λ (l : List Call). l ++ Sync ∷ [])
    (c.in_ok-tear_all.ensures
    ∙ ap (λ (l : List Call). l ++ map (torn_call (Some torn)) (take (length c.deref-3.result.now - count) (drop count c.deref-3.result.now)))
    (c.in_ok-disk.ensures ∙ ap (λ (l : List Call). take count l) c.deref-2.ensures.value)
    ∙ ap (λ (l : List Call). take count calls ++ map (torn_call (Some torn)) l) rest
    ∙ ap (λ (l : List Call). take count calls ++ l) (all_calls torn calls count split)))

pub returns-clause-allowed : goal.returns-clause-allowed
returns-clause-allowed c = crash_allowed (replicate (length (image_of c.args.self.now.calls.items).waiting) c.args.torn.now) c.args.self.now.calls.items
