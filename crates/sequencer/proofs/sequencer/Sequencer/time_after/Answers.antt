use Rattle.std.proofs.Common.{◌≡◌, ℕ, List, length, drop, sym, ap, ◌∙◌, arith, Some}
use Rattle.std.specs.List.{slice_get}
use Rattle.sequencer.specs.Ahead.{later, beyond}
use Rattle.sequencer.specs.Lanes.{Waiting, waiting_times}
use Rattle.sequencer.proofs.api.Setting.{get_some, one_there}
use Rattle.sequencer.proofs.Aheads.{after_at, drop_get, times_there}
use Rattle.sequencer.proofs.sequencer.Sequencer.time_after.Goals as goal

pub returns : goal.returns
returns c = record {
  time = λ times e.
      let ns = c.ahead.inside.passed.items in
      let lanes = c.self.inside.lanes.items in
      let i = c.args.collector in
      let w = c.index-lane.result.now in
      let n = c.index-passed.result.now in
      let low = c.requires.inside in
      let count = c.requires.count in
      let a = ap (λ (l : List ℕ). length l) c.ahead.view_is in
      let b = ap (λ (l : List Waiting). length l) c.self.view_is in
      let now : beyond ns lanes ≡ beyond c.args.ahead.now c.args.self.now = ap (λ (l : List ℕ). beyond l lanes) c.ahead.view_is ∙ ap (λ (l : List Waiting). beyond c.args.ahead.now l) c.self.view_is in
      let at : slice_get ns i ≡ Some n = get_some ns i n (omega (arith, low, count, a)) c.index-passed.ensures in
      let lane : slice_get lanes i ≡ Some w = get_some lanes i w (omega (arith, low, b)) c.index-lane.ensures in
      let there = times_there (beyond ns lanes) i (later n w) (after_at ns lanes i n w at lane) in
      c.beyond.ensures ∙ (sym (drop_get n w.times) ∙ ap (λ (l : List ℕ). slice_get l 0) (one_there (slice_get (waiting_times (beyond ns lanes)) i) (drop n w.times) times there (ap (λ (l : List Waiting). slice_get (waiting_times l) i) now ∙ e)));
}
