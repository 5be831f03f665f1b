use Rattle.std.proofs.Common.{◌≡◌, ◌∙◌, ◌++◌, ◌∷◌, [], List, slice_get, option_copied, ap, arith}
use Rattle.disk_memory.specs.declared.call.Call.{Call}
use Rattle.disk_memory.specs.Replay.{torn_call}
use Rattle.disk_memory.proofs.Results.{got_is, bound_of}
use Rattle.disk_memory.proofs.Tearing.{torn_calls_next}
use Rattle.disk_memory.proofs.erase.tear.Goals as goal

pub loop-k-preserved : goal.loop-k-preserved
loop-k-preserved c =
    let calls : List Call = c.args.calls.now in
    let call : Call = c.index-calls-k.result in
    let found : option_copied c.get.result ≡ slice_get c.args.choice.now c.loop-k.k =
    got_is c.args.choice.now c.loop-k.k c.get.result c.get.ensures.lookup.1 (bound_of c.args.choice.now c.loop-k.k c.get.result c.get.ensures.lookup.0) in
    ◌∙◌ {A = List Call} c.in_ok-push.ensures.items
    (◌∙◌ {A = List Call} (ap (λ (left : Call). c.loop-k.into.items ++ left ∷ []) (c.in_ok-left.ensures ∙ ap (λ torn. torn_call torn call) found))
    (torn_calls_next c.args.choice.now calls c.loop-k.into.items c.args.into.now.items c.loop-k.k call (omega arith) c.index-calls-k.is c.loop-k.invariant))
