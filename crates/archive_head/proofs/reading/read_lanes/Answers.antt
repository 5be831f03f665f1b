use Rattle.std.proofs.Common.{◌≡◌, ◌∙◌, ◌+◌, List, [], ◌∷◌, ◌++◌, length, sym, ap, subst, arith}
use Rattle.std.specs.List.{AllByRecursion}
use Rattle.std.proofs.lemmas.List.{length-append}
use Rattle.archive_head.specs.declared.lane.Lane.{Lane}
use Rattle.archive_head.specs.Head.{IsLane}
use Rattle.archive_head.specs.inner.Places.{lanes_from}
use Rattle.archive_head.proofs.Places.{lanes_next, lanes_valid}
use Rattle.archive_head.proofs.reading.read_lanes.Goals as goal

pub loop-i-preserved : goal.loop-i-preserved
loop-i-preserved c =
    let octets = c.args.octets.now in
    let lane = c.in-Some.lane in
    let before = c.loop-i.lanes.items in
    let pushed : c.push.new.self.items ≡ before ++ lane ∷ [] = c.in_ok-push.ensures.items in
    let read : before ++ lane ∷ [] ≡ lanes_from octets 0 (c.loop-i.i + 1) =
    ap (λ (ls : List Lane). ls ++ lane ∷ []) c.loop-i.invariant.0 ∙ (ap (λ (l : Lane). lanes_from octets 0 c.loop-i.i ++ l ∷ []) c.in-Some.ensures.lane ∙ sym (lanes_next octets c.loop-i.i)) in
    (pushed ∙ read, subst (AllByRecursion IsLane) (sym pushed) (lanes_valid before lane c.loop-i.invariant.1 c.in-Some.ensures.valid), omega (arith, c.loop-i.invariant.2, ap length pushed, length-append before (lane ∷ [])))
