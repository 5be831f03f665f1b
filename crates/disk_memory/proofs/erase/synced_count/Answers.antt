use Rattle.std.proofs.Common.{◌≡◌, ◌∙◌, ◌+◌, ◌<◌, ◌++◌, ◌∷◌, [], ℕ, List, length, take, get_or, sym, ap, subst, arith, length-append}
use Rattle.std.proofs.lemmas.List.{take_more, length-take}
use Rattle.disk_memory.specs.declared.call.Call.{Call}
use Rattle.disk_memory.specs.declared.call.Call.TheVariants.{Write, Sync}
use Rattle.disk_memory.specs.inner.Replaying.{SplitsAtSync}
use Rattle.disk_memory.proofs.Splitting.{split_write, split_sync}
use Rattle.disk_memory.proofs.erase.synced_count.Goals as goal
use Rattle.disk_memory.proofs.erase.synced_count.Goals.{in-Sync, in-Write}

-- one call more of a list
next : (calls : List Call) (i : ℕ) (call : Call) → i < length calls → call ≡ get_or calls i call → take i calls ++ call ∷ [] ≡ take (i + 1) calls
next calls i call lt is = ap (λ (c : Call). take i calls ++ c ∷ []) is ∙ sym (take_more calls i call lt)

pub loop-i-preserved : goal.loop-i-preserved
loop-i-preserved c =
    let calls : List Call = c.args.calls.now in
    let i : ℕ = c.loop-i.i in
    let lt : i < length calls = omega arith in
    elim c.match-call.branch [
      | in-Sync w ↦
          let more : take i calls ++ Sync ∷ [] ≡ take (i + 1) calls = ap (λ (call : Call). take i calls ++ call ∷ []) (sym w.in-Sync.is) ∙ next calls i c.index-calls-i.result lt c.index-calls-i.is in
          let long : length (take i calls ++ Sync ∷ []) ≡ i + 1 = length-append (take i calls) (Sync ∷ []) ∙ omega (arith, length-take i calls, lt) in
          subst (λ (l : List Call). SplitsAtSync c.match-call.count l) more
          (subst (λ n. SplitsAtSync n (take i calls ++ Sync ∷ [])) (long ∙ sym w.count-is) (split_sync (take i calls)))
      | in-Write w ↦
          let more : take i calls ++ Write w.in-Write.field-0 ∷ [] ≡ take (i + 1) calls = ap (λ (call : Call). take i calls ++ call ∷ []) (sym w.in-Write.is) ∙ next calls i c.index-calls-i.result lt c.index-calls-i.is in
          subst (λ (l : List Call). SplitsAtSync c.match-call.count l) more
          (subst (λ n. SplitsAtSync n (take i calls ++ Write w.in-Write.field-0 ∷ [])) (sym w.count-is) (split_write c.loop-i.count (take i calls) w.in-Write.field-0 c.loop-i.invariant))
    ]
