use Rattle.std.proofs.Common.{◌≡◌, ℕ, suc, ◌+◌, List, length, ap, ◌∙◌, sym, subst, arith, Some}
use Rattle.std.specs.List.{slice_set, slice_get}
use Rattle.sequencer.proofs.api.Setting.{get_some}
use Rattle.sequencer.proofs.Aheads.{next_in, after_releases, after_some}
use Rattle.sequencer.specs.declared.ahead.Ahead.TheInside.{Inside}
use Rattle.sequencer.specs.Ahead.{beyond}
use Rattle.sequencer.specs.First.{IsNext}
use Rattle.sequencer.specs.Lanes.{Waiting, Releases}
use Rattle.sequencer.proofs.sequencer.Sequencer.pass.Goals.{then-passed-waiting, else-passed-waiting}
use Rattle.sequencer.proofs.sequencer.Sequencer.pass.Goals as goal

pub index_mut-passed-requires : goal.index_mut-passed-requires
index_mut-passed-requires c =
    let lt = next_in c.args.ahead.now c.args.self.now c.args.collector c.requires.next in
    let n = c.requires.count in
    let m = ap (λ (l : List ℕ). length l) c.ahead.view_is in
    omega (arith, lt, n, m)

pub index-requires : goal.index-requires
index-requires c =
    let lt = next_in c.args.ahead.now c.args.self.now c.args.collector c.requires.next in
    let m = ap (λ (l : List Waiting). length l) c.self.view_is in
    omega (arith, lt, m)

pub returns-clause-released : goal.returns-clause-released
returns-clause-released c =
    let ns = c.ahead.inside.passed.items in
    let lanes = c.self.inside.lanes.items in
    let k = c.args.collector in
    let w = c.index.result.now in
    let n = c.index_mut-passed.result.now in
    let now : beyond ns lanes ≡ beyond c.args.ahead.now c.args.self.now = ap (λ (l : List ℕ). beyond l lanes) c.ahead.view_is ∙ ap (λ (l : List Waiting). beyond c.args.ahead.now l) c.self.view_is in
    let next = subst (λ (l : List Waiting). IsNext l k) (sym now) c.requires.next in
    let low = next_in ns lanes k next in
    let count : length ns ≡ length lanes = ap (λ (l : List ℕ). length l) c.ahead.view_is ∙ (c.requires.count ∙ sym (ap (λ (l : List Waiting). length l) c.self.view_is)) in
    let at : slice_get ns k ≡ Some n = get_some ns k n (omega (arith, low, count)) c.index_mut-passed.ensures.value in
    let lane = get_some lanes k w low c.index.ensures in
    let r = after_releases ns lanes k n w c.self.invariant next at lane in
    elim c.if-passed-waiting.branch [
      | then-passed-waiting v ↦
          let more : suc n ≡ n + 1 = omega arith in
          let passed : c.if-passed-waiting.ahead-inside.passed.items ≡ slice_set ns k (n + 1) = ap (λ (x : Inside). x.passed.items) v.ahead-inside-is in
          let after : beyond (slice_set ns k (suc n)) lanes ≡ beyond c.if-passed-waiting.ahead-inside.passed.items c.args.self.now =
          ap (λ (m : ℕ). beyond (slice_set ns k m) lanes) more ∙ (ap (λ (l : List ℕ). beyond l lanes) (sym passed) ∙ ap (λ (l : List Waiting). beyond c.if-passed-waiting.ahead-inside.passed.items l) c.self.view_is) in
          subst (λ (l : List Waiting). Releases l k (beyond c.if-passed-waiting.ahead-inside.passed.items c.args.self.now)) now (subst (λ (l : List Waiting). Releases (beyond ns lanes) k l) after r)
      | else-passed-waiting v ↦ absurd (let all = after_some ns lanes k n w next at lane in let few = v.if-passed-waiting.false in let m = c.waiting.ensures in omega (arith, all, few, m))
    ]
