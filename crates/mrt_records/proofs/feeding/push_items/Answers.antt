use Rattle.std.proofs.Common.{◌≡◌, ◌++◌, take, drop, sym, subst, List, ℕ}
use Rattle.std.proofs.lemmas.List.{take-append-drop}
use Rattle.mrt_records.specs.Records.{IsRecord}
use Rattle.mrt_records.proofs.api.Streams.{progress_on, progress_ends, not_whole}
use Rattle.mrt_records.proofs.feeding.push_items.Goals as goal

pub loop-len-preserved : goal.loop-len-preserved
loop-len-preserved c =
    let front : c.split_at.result.0.now ≡ take c.in-Whole.len c.loop-len.rest.now = c.split_at.ensures.front in
    let back : c.split_at.result.1.now ≡ drop c.in-Whole.len c.loop-len.rest.now = c.split_at.ensures.back in
    let is : IsRecord c.split_at.result.0.now = subst (λ (t : List ℕ). IsRecord t) (sym front) c.in-Whole.ensures.2 in
    let parts : c.loop-len.rest.now ≡ c.split_at.result.0.now ++ c.split_at.result.1.now = rw (front, back) (sym (take-append-drop c.in-Whole.len c.loop-len.rest.now)) in
    record {
      reached = progress_on _ _ _ _ _ _ _ c.loop-len.invariant.reached is parts c.in-Ok.ensures.ok;
      marked = c.loop-len.invariant.marked;
    }

pub returns : goal.returns
returns c = record { ok = progress_ends _ _ _ _ c.loop-len.invariant.reached (not_whole _ c.front_of.result c.front_of.ensures c.in_default.not-Whole); err = tt }
