use Rattle.std.proofs.Common.{◌≡◌, ◌∙◌, ◌-◌, ◌++◌, ◌∷◌, [], ℕ, List, length, take, drop, replicate, ap, sym, arith, take_all}
use Rattle.std.proofs.lemmas.List.{take_more, length-drop}
use Rattle.disk_models.specs.Octets.{octets}
use Rattle.disk_models.proofs.api.OctetLemmas.{octets_agree}
use Rattle.disk_memory.specs.declared.call.Call.{Call}
use Rattle.disk_memory.specs.inner.Replaying.{replayed}
use Rattle.disk_memory.proofs.Covering.{octets_zeros}
use Rattle.disk_memory.proofs.Replaying.{replayed-append, replayed_octets}
use Rattle.disk_memory.proofs.lay.replay.Goals as goal

pub loop-call-init : goal.loop-call-init
loop-call-init c =
    let zeros : c.fill.new.self ≡ replicate (length c.args.into.now) 0 = c.fill.ensures.after (λ y is. is) in
    zeros ∙ octets_zeros c.args.at (length c.args.into.now)

pub loop-call-preserved : goal.loop-call-preserved
loop-call-preserved c =
    let i = c.loop-call.call-index in
    let calls : List Call = take (length c.args.calls.now - c.last_cover-first.result) (drop c.last_cover-first.result c.args.calls.now) in
    let n = length c.args.into.now in
    let long : length c.loop-call.into ≡ n = c.loop-call.auto.into ∙ c.fill.ensures.len in
    let now = c.replay_call.ensures (replayed (take i calls) (λ _. 0)) (c.loop-call.invariant ∙ ap (λ k. octets (replayed (take i calls) (λ _. 0)) c.args.at k) (sym long)) in
    now
    ∙ ap (λ k. octets (replayed (c.call-item.result ∷ []) (replayed (take i calls) (λ _. 0))) c.args.at k) long
    ∙ ap (λ (f : ℕ → ℕ). octets f c.args.at n) (sym (replayed-append (take i calls) (c.call-item.result ∷ []) (λ _. 0)))
    ∙ ap (λ (l : List Call). octets (replayed l (λ _. 0)) c.args.at n)
    (ap (λ (call : Call). take i calls ++ call ∷ []) c.call-item.is ∙ sym (take_more calls i c.call-item.result (omega arith)))

pub returns : goal.returns
returns c =
    let first = c.last_cover-first.result in
    let n = length c.args.into.now in
    let rest : List Call = drop first c.args.calls.now in
    let calls : List Call = take (length c.args.calls.now - first) rest in
    let whole : calls ≡ rest = take_all (length c.args.calls.now - first) rest (omega (arith, length-drop first c.args.calls.now)) in
    let done : take c.loop-call.call-index calls ≡ calls = take_all c.loop-call.call-index calls (omega arith) in
    c.loop-call.invariant
    ∙ ap (λ (l : List Call). octets (replayed l (λ _. 0)) c.args.at n) (done ∙ whole)
    ∙ octets_agree (replayed rest (λ _. 0)) (replayed c.args.calls.now (λ _. 0)) c.args.at n (λ i inn. c.last_cover-first.ensures.enough i inn)
    ∙ ap (λ (f : ℕ → ℕ). octets f c.args.at n) (replayed_octets c.args.calls.now)
